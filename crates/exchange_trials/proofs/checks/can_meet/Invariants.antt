use Rattle.std.proofs.Common.{◌≡◌, ℕ, ◌<◌, get_or, map}
use Rattle.willow_entry.specs.Frame.{HasFrame}
use Rattle.willow_entry.specs.Row.{RowValue}
use Rattle.exchange_trials.proofs.checks.can_meet.Given as goal

abbrev pub invariant-loop-at : goal.invariant-loop-at
invariant-loop-at g l = record {
  of : (k : ℕ) (d : RowValue) → k < l.at → (get_or (map g.R.Row.value l.rows) k d).entry.namespace ≡ l.namespace;
  framed : (k : ℕ) (d : RowValue) → k < l.at → HasFrame (get_or (map g.R.Row.value l.rows) k d);
}
