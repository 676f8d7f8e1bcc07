use Rattle.std.proofs.Common.{ap, map, subst, sym}
use Rattle.willow_entry.specs.Row.{HasCovering}
use Rattle.ns_state.specs.Log.{values, plain_row}
use Rattle.ns_state.proofs.Growing.{told_covered, log_covers, store_covers}
use Rattle.ns_state.proofs.live_log.LiveLog.covers.Goals as goal

pub returns : goal.returns
returns g c =
    let value = g.R.Row.value in
    let inside = c.self.inside in
    let r = value c.args.row.now in
    let told = told_covered (map value inside.store) r c.covered_by.result c.covered_by.ensures.found c.covered_by.ensures.none in
    rw c.is_some.ensures (
      λ t. subst (λ l. HasCovering (values value l) r) (ap (λ s. s.log) c.self.view_is) (log_covers value (map plain_row inside.log.items) inside.store c.self.invariant.1 r (told.0 t)),
      λ h. told.1 (store_covers value (map plain_row inside.log.items) inside.store c.self.invariant.1 r (subst (λ l. HasCovering (values value l) r) (sym (ap (λ s. s.log) c.self.view_is)) h)),
    )
