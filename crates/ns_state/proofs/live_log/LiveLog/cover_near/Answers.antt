use Rattle.std.proofs.Common.{Some, None, position, refl, sym, ap, ◌∙◌, subst}
use Rattle.willow_entry.specs.Row.{HasCovering, IsCoveringAt, is_covering}
use Rattle.ns_state.specs.Log.{values}
use Rattle.ns_state.proofs.Walks.{walk_found, walk_none}
use Rattle.ns_state.proofs.live_log.LiveLog.cover_near.Goals as goal

pub unreachable-requires : goal.unreachable-requires
unreachable-requires g c =
    let value = g.R.Row.value in
    let r = value c.args.row.now in
    walk_none value c.self.inside.log.items r None (c.in-None.ensures ∙ ap (position (λ l. is_covering (value l.row.value) r)) c.deref.ensures.value) refl
    (subst (λ l. HasCovering (values value l) r) (sym (ap (λ s. s.log) c.self.view_is)) c.requires)

pub returns : goal.returns
returns g c =
    let value = g.R.Row.value in
    let r = value c.args.row.now in
    subst (λ l. IsCoveringAt (values value l) c.in-Some-first_cover.at r) (ap (λ s. s.log) c.self.view_is)
    (walk_found value c.self.inside.log.items r (Some c.in-Some-first_cover.at) (c.in-Some-first_cover.ensures ∙ ap (position (λ l. is_covering (value l.row.value) r)) c.deref.ensures.value))
