use Rattle.std.proofs.Common.{◌≡◌, List, Bor, Option, ap, subst, ◌∙◌}
use Rattle.std.specs.Prelude.{IfOk}
use Rattle.mc_cap.specs.declared.refusal.RowRefusal.{RowRefusal}
use Rattle.cap_codec.specs.Rows.{RawValue}
use Rattle.auth_entry.specs.Authorised.{capability_refusal}
use Rattle.auth_entry.proofs.Lists.{collected, collected_map}
use Rattle.auth_entry.proofs.Settling.{carried_causes}
use Rattle.auth_entry.proofs.checks.causes_side_by_side.Goals as goal

pub returns : goal.returns
returns g c =
    let slice = ap (λ it. it.base.slice.now) c.map.ensures.base ∙ ap (λ it. it.slice.now) c.with_min_len.ensures.base ∙ c.par_iter.ensures in
    let chain = c.in_ok-causes.ensures in
    let cause : Bor RawValue → Option RowRefusal = λ row. capability_refusal g.S.Verify.rules row.now.token.capability in
    let all = collected (λ row found. found ≡ cause row) c.args.rows.now chain.1.0 chain.0 c.in_ok-causes.causes (chain.1.1 ∙ slice) chain.1.2 chain.2 in
    subst (λ (l : List (Option RowRefusal)). IfOk c.in_ok-causes.causes (λ causes. causes.items ≡ l)) (carried_causes g.S.Verify.rules c.args.rows.now)
    (collected_map cause c.args.rows.now c.in_ok-causes.causes all)
