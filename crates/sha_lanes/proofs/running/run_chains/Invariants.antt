use Rattle.std.proofs.Common.{◌-◌}
use Rattle.sha_lanes.specs.Running.{chain_at}
use Rattle.sha_lanes.proofs.OfChains.{AreRun}
use Rattle.sha_lanes.proofs.running.run_chains.Given as goal

abbrev pub invariant-chains : goal.invariant-chains
invariant-chains s = AreRun s.fn.chains s.chains s.first

abbrev pub invariant-steps : goal.invariant-steps
invariant-steps s = AreRun s.fn.chains s.chains s.first

abbrev pub decreases-steps : goal.decreases-steps
decreases-steps s = (chain_at s.chains s.first).to - (chain_at s.chains s.first).at
