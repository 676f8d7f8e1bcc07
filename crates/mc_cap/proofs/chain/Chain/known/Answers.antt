use Rattle.mc_cap.specs.Forms.{IsDelegation}
use Rattle.mc_cap.proofs.Growing.{all_on}
use Rattle.mc_cap.proofs.chain.Chain.known.Goals as goal

pub loop-delegation-preserved : goal.loop-delegation-preserved
loop-delegation-preserved c = all_on IsDelegation c.as_slice-delegation-items.result.now c.args.self.now c.loop-delegation.delegation-index c.delegation-item.result c.as_slice-delegation-items.ensures.delegations c.loop-delegation-test.true c.delegation-item.is c.loop-delegation.invariant c.known.ensures
