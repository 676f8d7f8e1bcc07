use Rattle.std.proofs.Common.{ℕ, ◌+◌, ◌≤◌, ◌++◌, List, [], length, drop, get_or, subst, ◌∙◌, arith}
use Rattle.std.specs.List.{flat_map}
use Rattle.std.proofs.lemmas.List.{drop_all, length-map}
use Rattle.std.proofs.lemmas.Result.{err_from_is_err_and}
use Rattle.willow_entry.specs.declared.frame.TheConstants.{MAX_FRAME}
use Rattle.peer_image.specs.Image.{bytes_frame}
use Rattle.peer_image.proofs.Places.{left_is}
use Rattle.peer_image.proofs.TwoPlaces.{Text, now_at, now_of}
use Rattle.peer_rows.specs.Writing.{IsWritingOut}
use Rattle.peer_rows.proofs.Writing.{frames_left, no_frames_left, piece_grows, same_item, some_behind, writing_unpaid}
use Rattle.peer_rows.proofs.imaging.write_capabilities.Goals as goal

pub put_capability-requires : goal.put_capability-requires
put_capability-requires g c =
    let P : List ℕ → Type 0 = λ t. length t ≤ MAX_FRAME in
    now_at P c.args.told.now c.loop-capability.capability-index (record { ref_ptr = (0, 0); now = [] }) c.requires c.loop-capability-test.true

pub loop-capability-preserved : goal.loop-capability-preserved
loop-capability-preserved g c = record {
  writing = λ begun whole behind w.
      let now : Text → List ℕ = λ x. x.now in
      let told = c.args.told.now in
      let i = c.loop-capability.capability-index in
      let x : Text = get_or told i (record { ref_ptr = (0, 0); now = [] }) in
      let o = g.O.Sink.facts c.write_full.new.output in
      let piece = c.write_full.new.piece.items in
      let here = c.in_ok-write_full.ensures.writes begun whole (flat_map bytes_frame (drop i (now_of told)) ++ behind) (c.loop-capability.invariant.writing begun whole behind w) in
      let next = frames_left bytes_frame (drop i (now_of told)) (drop (i + 1) (now_of told)) x.now behind (left_is now told i x c.loop-capability-test.true (same_item told i (record { ref_ptr = (0, 0); now = [] }) x c.loop-capability-test.true)) in
      piece_grows begun o whole piece c.put_capability.new.out.items (bytes_frame x.now) (flat_map bytes_frame (drop (i + 1) (now_of told)) ++ behind)
      (subst (λ (l : List ℕ). IsWritingOut begun o whole piece l) next here) c.in_ok-put_capability.ensures.written;
  no_fault = c.in_ok-write_full.ensures.faults ∙ c.loop-capability.invariant.no_fault;
}

pub returns-in_err-write_full-clause-writes : goal.returns-in_err-write_full-clause-writes
returns-in_err-write_full-clause-writes g c = λ begun whole behind w some.
    let p = err_from_is_err_and c.from_residual.result c.from_residual.ensures.1 in
    rw (p.1, p.2) (c.in_err-write_full.ensures.writes begun whole (flat_map bytes_frame (drop c.loop-capability.capability-index (now_of c.args.told.now)) ++ behind) (c.loop-capability.invariant.writing begun whole behind w))

pub returns-in_err-put_capability-clause-writes :
    goal.returns-in_err-put_capability-clause-writes
returns-in_err-put_capability-clause-writes g c = λ begun whole behind w some.
    let p = err_from_is_err_and c.from_residual-in_err-put_capability.result c.from_residual-in_err-put_capability.ensures.1 in
    let left = flat_map bytes_frame (drop c.loop-capability.capability-index (now_of c.args.told.now)) in
    let here = c.in_ok-write_full.ensures.writes begun whole (left ++ behind) (c.loop-capability.invariant.writing begun whole behind w) in
    rw (p.1, p.2) (writing_unpaid begun (g.O.Sink.facts c.write_full.new.output) whole c.write_full.new.piece.items (left ++ behind) here (some_behind left behind some))

pub returns-clause-writes : goal.returns-clause-writes
returns-clause-writes g c = λ begun whole behind w some.
    let now : Text → List ℕ = λ x. x.now in
    let told = c.args.told.now in
    let i = c.loop-capability.capability-index in
    let none = drop_all i (now_of told) (omega (arith, c.loop-capability-test.false, length-map told now)) in
    subst (λ (l : List ℕ). IsWritingOut begun (g.O.Sink.facts c.loop-capability.output) whole c.loop-capability.piece.items l) (no_frames_left bytes_frame (drop i (now_of told)) behind none)
    (c.loop-capability.invariant.writing begun whole behind w)
