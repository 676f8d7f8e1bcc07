use Rattle.std.proofs.Common.{◌≤◌, ℕ, List, ◌++◌, subst, sym, ap, arith}
use Rattle.std.proofs.lemmas.Result.{err_from_is_err_and}
use Rattle.peer_listing.specs.Ranges.{frames_between}
use Rattle.peer_listing.proofs.Ranges.{frames_join}
use Rattle.peer_rows.proofs.Generated.{none_left, some_left}
use Rattle.peer_rows.proofs.Writing.{nothing_written, piece_grows, piece_written, writing_unpaid, writing_stops, writing_ends}
use Rattle.peer_rows.specs.Writing.{IsWritingOut}
use Rattle.peer_rows.proofs.generating.write_frames.Goals as goal
use Rattle.peer_rows.proofs.generating.write_frames.Goals.{then-len-ge-PIECE+in_ok-write_output, else-len-ge-PIECE}

pub rows-init : goal.rows-init
rows-init g c =
    record {
      within = c.requires.order;
      writing =
          nothing_written (g.O.Sink.facts c.args.output.now) (frames_between c.args.from c.args.rows) c.new-piece.result.items (frames_between c.args.from c.args.rows)
          (ap (λ (l : List ℕ). l ++ frames_between c.args.from c.args.rows) (sym c.new-piece.ensures.items));
    }

pub returns-in_err-write_output-clause-writes : goal.returns-in_err-write_output-clause-writes
returns-in_err-write_output-clause-writes g c =
    let p = err_from_is_err_and c.from_residual.result c.from_residual.ensures.1 in
    rw (p.1, p.2) (writing_stops (g.O.Sink.facts c.args.output.now) (g.O.Sink.facts c.rows.output) (frames_between c.args.from c.args.rows) c.rows.piece.items (g.O.Sink.facts c.write_output.new.output) c.deref.result.now (frames_between c.rows.made c.args.rows)
    c.in_err-write_output.field-0.0 c.rows.invariant.writing c.deref.ensures.value c.in_err-write_output.ensures.writes)

pub rows-preserved : goal.rows-preserved
rows-preserved g c =
    let o = g.O.Sink.facts c.args.output.now in
    let whole = frames_between c.args.from c.args.rows in
    let made = c.rows.made in
    let to = c.min-to.result in
    let up : made ≤ to = omega (arith, c.min-to.ensures, c.rows-test.true) in
    let below : to ≤ c.args.rows = omega (arith, c.min-to.ensures) in
    let rest = frames_between made c.args.rows in
    let here : IsWritingOut o (g.O.Sink.facts c.if-len-ge-PIECE.output) whole c.if-len-ge-PIECE.piece.items rest =
    elim c.if-len-ge-PIECE.branch [
      | then-len-ge-PIECE+in_ok-write_output w ↦ rw (w.output-is, w.piece-is) (piece_written o (g.O.Sink.facts c.rows.output) whole c.rows.piece.items (g.O.Sink.facts w.write_output.new.output) w.deref.result.now w.clear.new.self.items rest c.rows.invariant.writing w.deref.ensures.value w.in_ok-write_output.ensures.writes w.in_ok-write_output.ensures.faults w.clear.ensures.items)
      | else-len-ge-PIECE w ↦ rw (w.output-is, w.piece-is) c.rows.invariant.writing
    ] in
    record {
      within = below;
      writing =
          piece_grows o (g.O.Sink.facts c.if-len-ge-PIECE.output) whole c.if-len-ge-PIECE.piece.items c.put_frames.new.out.items (frames_between made to) (frames_between to c.args.rows)
          (subst (λ (l : List ℕ). IsWritingOut o (g.O.Sink.facts c.if-len-ge-PIECE.output) whole c.if-len-ge-PIECE.piece.items l) (frames_join made to c.args.rows up below) here)
          c.in_ok-put_frames.ensures;
    }

pub returns-in_err-put_frames-clause-writes : goal.returns-in_err-put_frames-clause-writes
returns-in_err-put_frames-clause-writes g c =
    let p = err_from_is_err_and c.from_residual-in_err-put_frames.result c.from_residual-in_err-put_frames.ensures.1 in
    let o = g.O.Sink.facts c.args.output.now in
    let whole = frames_between c.args.from c.args.rows in
    let rest = frames_between c.rows.made c.args.rows in
    let here : IsWritingOut o (g.O.Sink.facts c.if-len-ge-PIECE.output) whole c.if-len-ge-PIECE.piece.items rest =
    elim c.if-len-ge-PIECE.branch [
      | then-len-ge-PIECE+in_ok-write_output w ↦ rw (w.output-is, w.piece-is) (piece_written o (g.O.Sink.facts c.rows.output) whole c.rows.piece.items (g.O.Sink.facts w.write_output.new.output) w.deref.result.now w.clear.new.self.items rest c.rows.invariant.writing w.deref.ensures.value w.in_ok-write_output.ensures.writes w.in_ok-write_output.ensures.faults w.clear.ensures.items)
      | else-len-ge-PIECE w ↦ rw (w.output-is, w.piece-is) c.rows.invariant.writing
    ] in
    rw (p.1, p.2) (writing_unpaid o (g.O.Sink.facts c.if-len-ge-PIECE.output) whole c.if-len-ge-PIECE.piece.items rest here (some_left c.rows.made c.args.rows c.rows-test.true))

pub returns-clause-writes : goal.returns-clause-writes
returns-clause-writes g c =
    let o = g.O.Sink.facts c.args.output.now in
    let o' = g.O.Sink.facts c.rows.output in
    let whole = frames_between c.args.from c.args.rows in
    writing_ends o o' whole c.rows.piece.items (g.O.Sink.facts c.write_output-2.new.output) c.deref-2.result.now c.write_output-2.result
    (subst (λ (l : List ℕ). IsWritingOut o o' whole c.rows.piece.items l) (none_left c.rows.made c.args.rows (omega (arith, c.rows-test.false))) c.rows.invariant.writing)
    c.deref-2.ensures.value c.write_output-2.ensures.writes
