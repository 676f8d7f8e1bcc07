use Rattle.std.proofs.Common.{take}
use Rattle.std.specs.List.{AllByRecursion}
use Rattle.mc_cap.specs.Forms.{IsDelegation}
use Rattle.mc_cap.proofs.chain.Chain.known.Given as goal

abbrev pub invariant-loop-delegation : goal.invariant-loop-delegation
invariant-loop-delegation l = AllByRecursion IsDelegation (take l.delegation-index l.self)
