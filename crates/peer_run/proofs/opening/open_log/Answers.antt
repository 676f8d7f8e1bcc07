use Rattle.std.proofs.Common.{◌≡◌, ℕ, List, [], ◌∷◌, map, ap, ◌∙◌, arith}
use Rattle.std.specs.Vec.Iter.{into_iter_items}
use Rattle.std.proofs.lemmas.List.{nil_from_length}
use Rattle.lms_core.specs.Use.{peer_rules}
use Rattle.auth_entry.specs.Authorised.{verdict}
use Rattle.peer_run.proofs.Opened.{opened_start, opened_below, opened_here, opened_on, opened_stops, opened_all}
use Rattle.peer_run.proofs.opening.open_log.Goals as goal

pub loop-judged-init : goal.loop-judged-init
loop-judged-init g c =
    opened_start c.args.image.namespace c.args.image.rows.items (into_iter_items c.into_iter-judged-iterator.result) c.new.result
    (c.into_iter-judged-iterator.ensures.into_iter_gives.0 ∙ c.in_ok-verdicts.ensures.verdicts ∙ ap (λ (n : List ℕ). map (verdict peer_rules n) c.args.image.rows.items) c.in_ok-checker.ensures) c.new.ensures.namespace c.new.ensures.empty

pub take-requires-clause-few : goal.take-requires-clause-few
take-requires-clause-few g c =
    let next : into_iter_items c.loop-judged.judged-iterator ≡ c.in-Some.judged ∷ into_iter_items c.next.new.self = c.in-Some.ensures.steps.0 in
    opened_below c.args.image.namespace c.args.image.rows.items c.in-Some.judged (into_iter_items c.loop-judged.judged-iterator) (into_iter_items c.next.new.self) c.loop-judged.opening c.loop-judged.invariant next c.requires.few

pub take-requires-clause-judged : goal.take-requires-clause-judged
take-requires-clause-judged g c =
    let next : into_iter_items c.loop-judged.judged-iterator ≡ c.in-Some.judged ∷ into_iter_items c.next.new.self = c.in-Some.ensures.steps.0 in
    opened_here c.args.image.namespace c.args.image.rows.items c.in-Some.judged (into_iter_items c.loop-judged.judged-iterator) (into_iter_items c.next.new.self) c.loop-judged.opening c.loop-judged.invariant next

pub loop-judged-preserved : goal.loop-judged-preserved
loop-judged-preserved g c =
    let next : into_iter_items c.loop-judged.judged-iterator ≡ c.in-Some.judged ∷ into_iter_items c.next.new.self = c.in-Some.ensures.steps.0 in
    opened_on c.args.image.namespace c.args.image.rows.items c.in-Some.judged (into_iter_items c.loop-judged.judged-iterator) (into_iter_items c.next.new.self) c.loop-judged.opening c.loop-judged.invariant next c.take.new.self c.in-Ok.ensures

pub returns-in-Err : goal.returns-in-Err
returns-in-Err g c =
    let next : into_iter_items c.loop-judged.judged-iterator ≡ c.in-Some.judged ∷ into_iter_items c.next.new.self = c.in-Some.ensures.steps.0 in
    rw c.log_stop.ensures (opened_stops c.args.image.namespace c.args.image.rows.items c.in-Some.judged (into_iter_items c.loop-judged.judged-iterator) (into_iter_items c.next.new.self) c.loop-judged.opening c.loop-judged.invariant next c.take.new.self c.in-Err.end c.in-Err.ensures)

pub returns : goal.returns
returns g c =
    let none : into_iter_items c.loop-judged.judged-iterator ≡ [] = nil_from_length (into_iter_items c.loop-judged.judged-iterator) (omega (arith, c.in-None.ensures.steps.0)) in
    opened_all c.args.image.namespace c.args.image.rows.items (into_iter_items c.loop-judged.judged-iterator) c.loop-judged.opening c.loop-judged.invariant none
