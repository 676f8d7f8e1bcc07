use Rattle.std.proofs.Common.{◌≡◌, ◌++◌, map, length}
use Rattle.willow_entry.specs.Row.{live}
use Rattle.ns_state.specs.Log.{values}
use Rattle.ns_state.proofs.live_log.LiveLog.live_rows.Given as goal

abbrev pub invariant-rows : goal.invariant-rows
invariant-rows g l = map (λ r. g.R.Row.value r.now) l.rows.items ++ map g.R.Row.value l.left ≡ live (values g.R.Row.value l.self.log)

abbrev pub decreases-rows : goal.decreases-rows
decreases-rows g l = length l.left
