use Rattle.std.proofs.Common.{ℕ, ◌++◌, List, map, subst, ap, ◌∙◌}
use Rattle.std.specs.List.{flat_map}
use Rattle.std.proofs.lemmas.Result.{err_from_is_err_and}
use Rattle.willow_entry.specs.Row.{RowValue}
use Rattle.peer_image.specs.Image.{numbered_as, bytes_frame, placed_frame}
use Rattle.peer_image.proofs.TwoPlaces.{now_of}
use Rattle.peer_rows.specs.Writing.{IsWritingOut}
use Rattle.peer_rows.proofs.Writing.{frames_left, no_frames_left, piece_grows, some_behind, writing_unpaid}
use Rattle.peer_rows.proofs.imaging.write_rows.Goals as goal

pub rows-preserved : goal.rows-preserved
rows-preserved g c =
    let value = g.R.Row.value in
    let frame : RowValue → List ℕ = placed_frame (now_of c.args.told.now) in
    let row = value c.in-Some.row.now in
    let left = map value c.rows.left in
    let more = map value c.next.new.self in
    record {
      frames = (rw c.in-Some.ensures.next at c.rows.invariant.frames).1;
      writing = λ begun whole behind w.
          let o = g.O.Sink.facts c.write_full.new.output in
          let piece = c.write_full.new.piece.items in
          let here = c.in_ok-write_full.ensures.writes begun whole (flat_map frame left ++ behind) (c.rows.invariant.writing begun whole behind w) in
          let next = frames_left frame left more row behind (ap (map value) c.in-Some.ensures.next) in
          let put = c.in_ok-put_row_two.ensures.written ∙ ap (λ (n : ℕ). piece ++ bytes_frame (numbered_as n row)) c.place_from-place.ensures in
          piece_grows begun o whole piece c.put_row_two.new.out.items (frame row) (flat_map frame more ++ behind)
          (subst (λ (l : List ℕ). IsWritingOut begun o whole piece l) next here) put;
      no_fault = c.in_ok-write_full.ensures.faults ∙ c.rows.invariant.no_fault;
    }

pub returns-in_err-write_full-clause-writes : goal.returns-in_err-write_full-clause-writes
returns-in_err-write_full-clause-writes g c = λ begun whole behind w some.
    let p = err_from_is_err_and c.from_residual.result c.from_residual.ensures.1 in
    let left = flat_map (placed_frame (now_of c.args.told.now)) (map g.R.Row.value c.rows.left) in
    rw (p.1, p.2) (c.in_err-write_full.ensures.writes begun whole (left ++ behind) (c.rows.invariant.writing begun whole behind w))

pub returns-in_err-put_row_two-clause-writes : goal.returns-in_err-put_row_two-clause-writes
returns-in_err-put_row_two-clause-writes g c = λ begun whole behind w some.
    let p = err_from_is_err_and c.from_residual-in_err-put_row_two.result c.from_residual-in_err-put_row_two.ensures.1 in
    let left = flat_map (placed_frame (now_of c.args.told.now)) (map g.R.Row.value c.rows.left) in
    let here = c.in_ok-write_full.ensures.writes begun whole (left ++ behind) (c.rows.invariant.writing begun whole behind w) in
    rw (p.1, p.2) (writing_unpaid begun (g.O.Sink.facts c.write_full.new.output) whole c.write_full.new.piece.items (left ++ behind) here (some_behind left behind some))

pub returns-clause-writes : goal.returns-clause-writes
returns-clause-writes g c = λ begun whole behind w some.
    let frame : RowValue → List ℕ = placed_frame (now_of c.args.told.now) in
    subst (λ (l : List ℕ). IsWritingOut begun (g.O.Sink.facts c.rows.output) whole c.rows.piece.items l)
    (no_frames_left frame (map g.R.Row.value c.rows.left) behind (ap (map g.R.Row.value) c.in_default.ensures.next))
    (c.rows.invariant.writing begun whole behind w)
