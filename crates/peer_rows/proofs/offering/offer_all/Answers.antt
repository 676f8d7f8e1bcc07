use Rattle.std.proofs.Common.{◌≡◌, ℕ, inl, List, map, refl, ◌∙◌, subst}
use Rattle.std.proofs.lemmas.Result.{err_from_is_err_and}
use Rattle.lms_core.specs.Use.{peer_rules}
use Rattle.auth_entry.specs.Authorised.{verdict}
use Rattle.peer_rows.proofs.Offered.{taken_offers}
use Rattle.peer_rows.proofs.offering.offer_all.Goals as goal

pub take_all-requires-clause-few : goal.take_all-requires-clause-few
take_all-requires-clause-few g c =
    let few = c.requires.few in
    let here = c.requires.namespace ∙ few.2.of_namespace in
    (few.0, few.1, c.args.rows.items, few.2, subst (λ (m : List ℕ). c.in_ok-verdicts.verdicts.items ≡ map (verdict peer_rules m) c.args.rows.items) here c.in_ok-verdicts.ensures.verdicts, few.3)

pub returns-in_err-verdicts-clause-offers : goal.returns-in_err-verdicts-clause-offers
returns-in_err-verdicts-clause-offers g c = λ n seen is.
    let p = err_from_is_err_and c.from_residual.result c.from_residual.ensures.1 in
    rw (p.1, p.2) (inl refl)

pub returns-clause-offers : goal.returns-clause-offers
returns-clause-offers g c = λ n seen is.
    let here = c.requires.namespace ∙ is.of_namespace in
    taken_offers n seen c.args.rows.items c.args.log.now c.take_all.new.log c.take_all.result
    (c.take_all.ensures.takes n seen c.args.rows.items is (subst (λ (m : List ℕ). c.in_ok-verdicts.verdicts.items ≡ map (verdict peer_rules m) c.args.rows.items) here c.in_ok-verdicts.ensures.verdicts))
