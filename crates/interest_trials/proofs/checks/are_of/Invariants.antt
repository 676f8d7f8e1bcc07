use Rattle.std.proofs.Common.{◌≡◌, ℕ, ◌<◌, get_or, map}
use Rattle.willow_entry.specs.Row.{RowValue}
use Rattle.interest_trials.proofs.checks.are_of.Given as goal

abbrev pub invariant-loop-at : goal.invariant-loop-at
invariant-loop-at g l = (k : ℕ) (d : RowValue) → k < l.at → (get_or (map g.R.Row.value l.rows) k d).entry.namespace ≡ l.namespace
