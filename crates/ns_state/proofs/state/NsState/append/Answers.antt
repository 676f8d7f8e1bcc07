use Rattle.std.proofs.Common.{◌≡◌, ◌∷◌, false, length, Contains, refl, sym, ap, ◌∙◌, subst, arith}
use Rattle.std.specs.List.{All}
use Rattle.recency_index.specs.Recency.{ranked_of, newest, has_at, without}
use Rattle.willow_entry.specs.Row.{HasCovering}
use Rattle.ns_state.specs.Log.{values}
use Rattle.ns_state.proofs.Appending.{recent_short, gone_of, held_in, each_once, place_free, recent_more}
use Rattle.ns_state.proofs.state.NsState.append.Goals as goal

pub reserve-requires : goal.reserve-requires
reserve-requires g c = omega (arith, recent_short g.R.Row.value c.self.inside.log.log, ap length c.self.invariant, c.store.ensures.log.few)

pub replace-requires-clause-held : goal.replace-requires-clause-held
replace-requires-clause-held g c =
    let value = g.R.Row.value in
    let inside = c.self.inside in
    let store = c.store.result.now in
    let gone = c.deref.result.now in
    let gone_is : gone ≡ gone_of value store (value c.args.row) = c.deref.ensures.value ∙ c.in_ok-gone.ensures in
    subst (λ l. All (λ i. Contains l i) gone) (sym c.in_ok-reserve.ensures.items)
    (held_in value inside.log.namespace inside.log.log store inside.recency.items (c.store.ensures.log, c.store.ensures.live, c.self.invariant) (value c.args.row) gone gone_is)

pub replace-requires-clause-once : goal.replace-requires-clause-once
replace-requires-clause-once g c =
    let value = g.R.Row.value in
    let inside = c.self.inside in
    let store = c.store.result.now in
    let gone = c.deref.result.now in
    let gone_is : gone ≡ gone_of value store (value c.args.row) = c.deref.ensures.value ∙ c.in_ok-gone.ensures in
    each_once value inside.log.namespace inside.log.log store inside.recency.items (c.store.ensures.log, c.store.ensures.live, c.self.invariant) (value c.args.row) gone gone_is

pub replace-requires-clause-free : goal.replace-requires-clause-free
replace-requires-clause-free g c =
    let value = g.R.Row.value in
    let inside = c.self.inside in
    let r = value c.args.row in
    let store = c.store.result.now in
    let gone = c.deref.result.now in
    let gone_is : gone ≡ gone_of value store r = c.deref.ensures.value ∙ c.in_ok-gone.ensures in
    let item = c.in_ok-item.item in
    let item_is : item ≡ ranked_of r.entry = c.in_ok-item.ensures ∙ ap ranked_of c.entry.ensures.entry in
    let here : r.entry.namespace ≡ inside.log.namespace = c.requires.namespace ∙ sym (ap (λ s. s.namespace) c.self.view_is) in
    let uncovered = subst (λ l. HasCovering (values value l) r → ⊥) (sym (ap (λ s. s.log) c.self.view_is)) c.requires.uncovered in
    subst (λ l. has_at item.subspace item.path (without gone l) ≡ false) (sym c.in_ok-reserve.ensures.items)
    (place_free value inside.log.namespace inside.log.log store inside.recency.items (c.store.ensures.log, c.store.ensures.live, c.self.invariant) r here uncovered gone gone_is item item_is)

pub invariant_of-self-2 : goal.invariant_of-self-2
invariant_of-self-2 g c =
    let value = g.R.Row.value in
    let inside = c.self.inside in
    let r = value c.args.row in
    let store = c.store.result.now in
    let gone = c.deref.result.now in
    let gone_is : gone ≡ gone_of value store r = c.deref.ensures.value ∙ c.in_ok-gone.ensures in
    let item = c.in_ok-item.item in
    let item_is : item ≡ ranked_of r.entry = c.in_ok-item.ensures ∙ ap ranked_of c.entry.ensures.entry in
    let here : r.entry.namespace ≡ inside.log.namespace = c.requires.namespace ∙ sym (ap (λ s. s.namespace) c.self.view_is) in
    let uncovered = subst (λ l. HasCovering (values value l) r → ⊥) (sym (ap (λ s. s.log) c.self.view_is)) c.requires.uncovered in
    let stored = c.in_ok-at.ensures.stored in
    c.replace.ensures.items ∙ ap (λ l. newest (item ∷ without gone l)) c.in_ok-reserve.ensures.items
    ∙ recent_more value inside.log.namespace inside.log.log store inside.recency.items (c.store.ensures.log, c.store.ensures.live, c.self.invariant) r here uncovered gone gone_is item item_is
    c.append.new.self.log (record { pass = c.args.pass; row = c.args.row }) refl stored.log_is
