use Rattle.std.proofs.Common.{◌<◌, length, get_or, refl, sym, ap, ◌∙◌, subst}
use Rattle.std.proofs.lemmas.Option.{slice_get_read}
use Rattle.willow_entry.specs.Row.{IsCoveringAt}
use Rattle.ns_state.specs.Log.{values}
use Rattle.ns_state.proofs.Walks.{held_covers}
use Rattle.ns_state.proofs.live_log.LiveLog.covering_at.Goals as goal

pub returns-then-is_cover-clause-found : goal.returns-then-is_cover-clause-found
returns-then-is_cover-clause-found g c =
    let value = g.R.Row.value in
    let r = value c.args.row.now in
    let log = c.self.inside.log.items in
    let at = c.in_ok-at.at in
    let held = c.in_ok-held.held.now in
    let found = c.in_ok-held.ensures.lookup in
    let listed = c.deref.ensures.value in
    let there = slice_get_read log (length log) at held refl (subst (λ l. at < length l) listed found.3.0) (found.1 ∙ ap (λ l. get_or l at held) listed) in
    subst (λ l. IsCoveringAt (values value l) at r) (ap (λ s. s.log) c.self.view_is)
    (held_covers value log r at held there (sym c.if-is_cover.ensures))
