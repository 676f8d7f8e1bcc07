use Rattle.std.proofs.Common.{◌≡◌}
use Rattle.sync_core.specs.Runs.{left_to_say, says_all}
use Rattle.sync_link.specs.Sound.{IsSound}
use Rattle.sync_link.specs.Speaking.{with_speech}
use Rattle.sync_link.proofs.side.speak.speak.Given as goal

abbrev pub invariant-loop-core : goal.invariant-loop-core
invariant-loop-core g l = record {
  sound : IsSound l.core;
  bytes : with_speech l.out.items l.core ≡ with_speech l.fn.out.items l.fn.core;
  last : (says_all l.core).1 ≡ (says_all l.fn.core).1;
}

abbrev pub decreases-loop-core : goal.decreases-loop-core
decreases-loop-core g l = left_to_say l.core.doing
