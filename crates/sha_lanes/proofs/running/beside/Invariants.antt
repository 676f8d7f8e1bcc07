use Rattle.sha_lanes.specs.Running.{IsUnfinished}
use Rattle.sha_lanes.proofs.running.beside.Given as goal

abbrev pub invariant-search : goal.invariant-search
invariant-search l = IsUnfinished l.chains l.longest
