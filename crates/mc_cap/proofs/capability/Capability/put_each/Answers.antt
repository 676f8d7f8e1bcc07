use Rattle.std.proofs.Common.{sym}
use Rattle.std.proofs.lemmas.Bool.{eqb-true}
use Rattle.std.proofs.lemmas.Result.{on_ok_weaker}
use Rattle.mc_cap.proofs.Signing.{both_told, first_told}
use Rattle.mc_cap.proofs.capability.Capability.put_each.Goals as goal

pub returns-then-is_empty-clause-told : goal.returns-then-is_empty-clause-told
returns-then-is_empty-clause-told c =
    both_told c.args.self.now c.args.signed.now.items c.put_initial.new.signed.items _ c.in_ok-put_initial.ensures.told
    (first_told c.args.self.now c.as_slice.result.now _ c.as_slice.ensures.delegations (eqb-true _ 0 (sym c.if-is_empty.ensures)))

pub returns-clause-told : goal.returns-clause-told
returns-clause-told c =
    on_ok_weaker c.put_handovers.result (both_told c.args.self.now c.args.signed.now.items c.put_initial.new.signed.items c.put_handovers.new.signed.items c.in_ok-put_initial.ensures.told) c.put_handovers.ensures.told
