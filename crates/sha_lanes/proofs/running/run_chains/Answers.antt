use Rattle.std.proofs.Common.{arith}
use Rattle.sha_lanes.proofs.OfChains.{AreRun-none, AreRun-advanced, AreRun-more, AreRun-all}
use Rattle.sha_lanes.proofs.running.run_chains.Goals as goal

pub chains-init : goal.chains-init
chains-init c = AreRun-none c.args.chains.now

pub steps-preserved : goal.steps-preserved
steps-preserved c = AreRun-advanced _ c.steps.chains c.advance.new.chains c.chains.first c.chains.first c.steps.invariant c.advance.ensures

pub chains-preserved : goal.chains-preserved
chains-preserved c = AreRun-more _ c.steps.chains c.chains.first c.steps.invariant (omega (arith, c.left.ensures.value, c.steps-test.false))

pub returns : goal.returns
returns c = AreRun-all c.args.chains.now c.chains.chains c.chains.first c.chains.invariant (omega (arith, c.chains.auto.chains, c.chains-test.false))
