use Rattle.std.proofs.Common.{map, refl, sym, ap, subst}
use Rattle.willow_entry.specs.Row.{HasCovering}
use Rattle.willow_entry.proofs.Between.{covering_from_at}
use Rattle.ns_state.specs.Log.{values, plain_row}
use Rattle.ns_state.proofs.Growing.{log_covers, store_covers}
use Rattle.ns_state.proofs.live_log.LiveLog.place.Goals as goal

pub append-requires-clause-uncovered : goal.append-requires-clause-uncovered
append-requires-clause-uncovered g c = λ h.
    let value = g.R.Row.value in
    let inside = c.self.inside in
    let r = value c.args.row in
    c.in-Err.ensures.free (store_covers value (map plain_row inside.log.items) inside.store c.self.invariant.1 r (subst (λ l. HasCovering (values value l) r) (sym (ap (λ s. s.log) c.self.view_is)) h))

pub returns-in-Ok-clause-placed : goal.returns-in-Ok-clause-placed
returns-in-Ok-clause-placed g c =
    let value = g.R.Row.value in
    let inside = c.self.inside in
    let r = value c.args.row in
    let found = covering_from_at (map value inside.store) _ r c.in-Ok.ensures.found in (
      subst (λ l. HasCovering (values value l) r) (ap (λ s. s.log) c.self.view_is) (log_covers value (map plain_row inside.log.items) inside.store c.self.invariant.1 r found),
      refl,
    )
