use Rattle.std.proofs.Common.{List, Bor, All, IfOk, ap, subst}
use Rattle.std.specs.Global.{Vec}
use Rattle.auth_entry.specs.Batch.{IsTold}
use Rattle.auth_entry.specs.declared.signatures.Pending.{Pending}
use Rattle.auth_entry.specs.declared.turns.Told.{Told}
use Rattle.auth_entry.proofs.Lists.{collected_all}
use Rattle.auth_entry.proofs.turns.told_by_all.Goals as goal

pub returns : goal.returns
returns g c =
    let chain = c.in_ok-told.ensures in
    let told = c.in_ok-told.told in
    subst (λ (pendings : Bor (List Pending)). IfOk told (λ lists. All (λ (list : Vec Told). All (IsTold g.S.Verify.rules pendings.now) list.items) lists.items)) (ap (λ x. x.2) c.map.ensures.f)
    (collected_all (λ (list : Vec Told). All (IsTold g.S.Verify.rules c.map.result.f.2.now) list.items) chain.1.0 chain.0 told chain.1.2 chain.2)
