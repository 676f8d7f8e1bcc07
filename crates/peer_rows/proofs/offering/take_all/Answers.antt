use Rattle.std.proofs.Common.{◌≡◌, ◌∷◌, [], ◌∙◌, arith}
use Rattle.std.specs.Vec.Iter.{into_iter_items}
use Rattle.std.proofs.lemmas.List.{nil_from_length}
use Rattle.peer_rows.proofs.Offered.{none_offered, judged_here, counted_below, offered_on, offers_fail, offered_all}
use Rattle.peer_rows.proofs.offering.take_all.Goals as goal

pub loop-judged-init : goal.loop-judged-init
loop-judged-init c = λ n rows judged.
    none_offered n rows c.args.log.now (into_iter_items c.into_iter-judged-iterator.result) (c.into_iter-judged-iterator.ensures.into_iter_gives.0 ∙ judged) c.requires.fits

pub take-requires-clause-few : goal.take-requires-clause-few
take-requires-clause-few c =
    let few = c.requires.few in
    let next : into_iter_items c.loop-judged.judged-iterator ≡ c.in-Some.judged ∷ into_iter_items c.next.new.self = c.in-Some.ensures.steps.0 in
    counted_below few.0 few.2 c.args.log.now c.loop-judged.log c.in-Some.judged (into_iter_items c.loop-judged.judged-iterator) (into_iter_items c.next.new.self) (c.loop-judged.invariant few.0 few.2 few.4) next few.1 few.3 few.5

pub take-requires-clause-judged : goal.take-requires-clause-judged
take-requires-clause-judged c =
    let few = c.requires.few in
    let next : into_iter_items c.loop-judged.judged-iterator ≡ c.in-Some.judged ∷ into_iter_items c.next.new.self = c.in-Some.ensures.steps.0 in
    judged_here few.0 few.2 c.args.log.now c.loop-judged.log c.in-Some.judged (into_iter_items c.loop-judged.judged-iterator) (into_iter_items c.next.new.self) (c.loop-judged.invariant few.0 few.2 few.4) next few.1 few.3

pub loop-judged-preserved : goal.loop-judged-preserved
loop-judged-preserved c = λ n rows judged.
    let next : into_iter_items c.loop-judged.judged-iterator ≡ c.in-Some.judged ∷ into_iter_items c.next.new.self = c.in-Some.ensures.steps.0 in
    offered_on n rows c.args.log.now c.loop-judged.log c.in-Some.judged (into_iter_items c.loop-judged.judged-iterator) (into_iter_items c.next.new.self) (c.loop-judged.invariant n rows judged) next
    c.take.new.self c.in_ok-take.ensures.offers c.in_ok-take.ensures.fits

pub returns-in_err-take-clause-takes : goal.returns-in_err-take-clause-takes
returns-in_err-take-clause-takes c = λ n seen rows is judged.
    let next : into_iter_items c.loop-judged.judged-iterator ≡ c.in-Some.judged ∷ into_iter_items c.next.new.self = c.in-Some.ensures.steps.0 in
    offers_fail n rows c.args.log.now c.loop-judged.log c.in-Some.judged (into_iter_items c.loop-judged.judged-iterator) (into_iter_items c.next.new.self) (c.loop-judged.invariant n rows judged) next
    c.take.new.self c.in_err-take.field-0.0 c.from_residual.result c.in_err-take.ensures.offers c.in_err-take.ensures.err c.from_residual.ensures.1 seen is

pub returns-clause-takes : goal.returns-clause-takes
returns-clause-takes c = λ n seen rows is judged.
    let none : into_iter_items c.loop-judged.judged-iterator ≡ [] = nil_from_length (into_iter_items c.loop-judged.judged-iterator) (omega (arith, c.in-None.ensures.steps.0)) in
    offered_all n rows c.args.log.now c.loop-judged.log (into_iter_items c.loop-judged.judged-iterator) (c.loop-judged.invariant n rows judged) none seen is
