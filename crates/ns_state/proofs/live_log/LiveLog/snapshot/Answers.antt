use Rattle.std.proofs.Common.{◌≡◌, ◌≤◌, List, map, length, IfOk, Result, Ok, Err, ap, arith}
use Rattle.ns_state.specs.Log.{plain_row}
use Rattle.ns_state.specs.declared.live_log.TheConstants.{LOG_LIMIT}
use Rattle.ns_state.proofs.Logs.{store_short}
use Rattle.ns_state.proofs.live_log.LiveLog.snapshot.Goals as goal

as_few : {R E : Type 0} (result : Result (List R) E) (store : List R) → length store ≤ LOG_LIMIT → IfOk result (λ s. s ≡ store) → IfOk result (λ s. length s ≤ LOG_LIMIT)
as_few (Ok s) store few same = omega (arith, ap length same, few)
as_few (Err e) store few same = tt

pub returns-clause-few : goal.returns-clause-few
returns-clause-few g c =
    as_few c.snapshot.result c.self.inside.store (store_short g.R.Row.value c.self.inside.store (map plain_row c.self.inside.log.items) c.self.invariant.1 c.self.invariant.0.few) c.snapshot.ensures.equal
