use Rattle.std.proofs.Common.{Option, IfSome, subst}
use Rattle.std.proofs.lemmas.List.Elements.{All-push}
use Rattle.auth_entry.specs.Batch.{IsTold}
use Rattle.auth_entry.specs.declared.turns.Told.{Told}
use Rattle.auth_entry.proofs.turns.take_turns.Goals as goal

pub turns-preserved : goal.turns-preserved
turns-preserved g c =
    let holds = IsTold g.S.Verify.rules c.args.pendings.now in
    rw c.in_ok-push-in-Some.ensures.items (All-push holds c.turns.told.items c.in-Some.row c.turns.invariant (subst (λ (o : Option Told). IfSome o holds) c.in-Some.is c.in_ok-row.ensures))
