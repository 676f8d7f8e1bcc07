use Rattle.std.proofs.Common.{map, sym, ap, subst}
use Rattle.willow_entry.specs.Row.{HasCovering}
use Rattle.willow_entry.proofs.Between.{covering_from_at}
use Rattle.ns_state.specs.Log.{values, plain_row}
use Rattle.ns_state.proofs.Growing.{log_covers, store_covers}
use Rattle.ns_state.proofs.live_log.LiveLog.cover.Goals as goal

pub cover_near-requires : goal.cover_near-requires
cover_near-requires g c =
    let value = g.R.Row.value in
    let inside = c.self.inside in
    let r = value c.args.row.now in
    subst (λ l. HasCovering (values value l) r) (ap (λ s. s.log) c.self.view_is)
    (log_covers value (map plain_row inside.log.items) inside.store c.self.invariant.1 r (covering_from_at (map value inside.store) c.in-Ok.by r c.in-Ok.ensures.found))

pub returns-in-Err-clause-none : goal.returns-in-Err-clause-none
returns-in-Err-clause-none g c = λ h.
    let value = g.R.Row.value in
    let inside = c.self.inside in
    let r = value c.args.row.now in
    c.in-Err.ensures.free (store_covers value (map plain_row inside.log.items) inside.store c.self.invariant.1 r (subst (λ l. HasCovering (values value l) r) (sym (ap (λ s. s.log) c.self.view_is)) h))
