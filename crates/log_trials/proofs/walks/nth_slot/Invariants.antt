use Rattle.std.proofs.Common.{◌≡◌, slice_get}
use Rattle.log_trials.proofs.walks.nth_slot.Given as goal

abbrev pub invariant-loop-passed : goal.invariant-loop-passed
invariant-loop-passed l = l.at ≡ slice_get l.index.slots l._passed
