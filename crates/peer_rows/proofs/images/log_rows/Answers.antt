use Rattle.std.proofs.Common.{◌≡◌, [], ◌∷◌, ◌++◌, List, sym, ap, ◌∙◌, append_assoc, arith}
use Rattle.std.specs.Vec.Iter.{into_iter_items}
use Rattle.std.proofs.lemmas.List.{nil_from_length}
use Rattle.std.proofs.lemmas.Result.{err_from_is_err_and}
use Rattle.cap_codec.specs.Rows.{RawValue}
use Rattle.peer_rows.proofs.Imaged.{admitting_stops, all_taken, judged_whole, judging_ends}
use Rattle.peer_rows.proofs.Waiting.{none_taken_in}
use Rattle.peer_rows.proofs.images.log_rows.Goals as goal

pub loop-row-init : goal.loop-row-init
loop-row-init g c = record {
  whole = sym c.into_iter-row-iterator.ensures.into_iter_gives.0;
  taken_in = none_taken_in c.args.image.namespace c.new-intake.result c.new-intake.ensures.kept c.new-intake.ensures.counts c.new-intake.ensures.none_wait;
  checks = c.in_ok-checker.ensures;
}

pub loop-row-preserved : goal.loop-row-preserved
loop-row-preserved g c =
    let so_far = c.loop-row.invariant in
    let next : into_iter_items c.loop-row.row-iterator ≡ c.in-Some.row ∷ into_iter_items c.next.new.self = c.in-Some.ensures.steps.0 in
    record {
      whole = so_far.whole ∙ ap (λ (l : List RawValue). c.loop-row.yielded ++ l) next ∙ sym (append_assoc c.loop-row.yielded (c.in-Some.row ∷ []) (into_iter_items c.next.new.self));
      taken_in = c.in_ok-admit.ensures.admits c.args.image.namespace c.loop-row.yielded so_far.taken_in;
      checks = c.admit.ensures.namespace ∙ so_far.checks;
    }

pub returns-in_err-admit : goal.returns-in_err-admit
returns-in_err-admit g c =
    let so_far = c.loop-row.invariant in
    let next : into_iter_items c.loop-row.row-iterator ≡ c.in-Some.row ∷ into_iter_items c.next.new.self = c.in-Some.ensures.steps.0 in
    let p = err_from_is_err_and c.from_residual-in_err-admit.result c.from_residual-in_err-admit.ensures.1 in
    rw (p.1, p.2) (admitting_stops c.args.image.namespace c.args.image.rows.items c.loop-row.yielded (into_iter_items c.next.new.self) c.in-Some.row c.loop-row.intake.log c.admit.new.self c.in_err-admit.field-0.0
    (so_far.whole ∙ ap (λ (l : List RawValue). c.loop-row.yielded ++ l) next) (c.in_err-admit.ensures.admits c.args.image.namespace c.loop-row.yielded so_far.taken_in))

pub returns-in_err-judge : goal.returns-in_err-judge
returns-in_err-judge g c =
    let none : into_iter_items c.loop-row.row-iterator ≡ [] = nil_from_length (into_iter_items c.loop-row.row-iterator) (omega (arith, c.in-None.ensures.steps.0)) in
    let taken = all_taken c.args.image.namespace c.args.image.rows.items c.loop-row.yielded (into_iter_items c.loop-row.row-iterator) (g.C.Checker.judged_in c.loop-row.checker) c.loop-row.intake c.loop-row.invariant none in
    let p = err_from_is_err_and c.from_residual-in_err-judge.result c.from_residual-in_err-judge.ensures.1 in
    rw (p.1, p.2) (judging_ends c.args.image.namespace c.args.image.rows.items c.loop-row.intake.log c.judge.new.self c.in_err-judge.field-0.0 (c.in_err-judge.ensures.judges c.args.image.namespace c.args.image.rows.items taken))

pub returns : goal.returns
returns g c =
    let none : into_iter_items c.loop-row.row-iterator ≡ [] = nil_from_length (into_iter_items c.loop-row.row-iterator) (omega (arith, c.in-None.ensures.steps.0)) in
    let taken = all_taken c.args.image.namespace c.args.image.rows.items c.loop-row.yielded (into_iter_items c.loop-row.row-iterator) (g.C.Checker.judged_in c.loop-row.checker) c.loop-row.intake c.loop-row.invariant none in
    judged_whole c.args.image.namespace c.args.image.rows.items c.judge.new.self (c.in_ok-judge.ensures.judges c.args.image.namespace c.args.image.rows.items taken)
