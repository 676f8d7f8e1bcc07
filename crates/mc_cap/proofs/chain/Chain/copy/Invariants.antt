use Rattle.std.proofs.Common.{◌≡◌, take}
use Rattle.mc_cap.proofs.chain.Chain.copy.Given as goal

abbrev pub invariant-loop-delegation : goal.invariant-loop-delegation
invariant-loop-delegation l = l.delegations.items ≡ take l.delegation-index l.delegation-items
