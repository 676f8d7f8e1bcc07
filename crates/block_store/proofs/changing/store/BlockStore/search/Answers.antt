use Rattle.std.proofs.Common.{◌≡◌, Some, map, position, sym, ap, ◌∙◌, subst}
use Rattle.willow_entry.specs.Row.{RowValue, AreLive, HasCovering, IsCoveringAt, is_covering}
use Rattle.block_store.specs.Blocks.{block_values}
use Rattle.block_store.specs.Front.{HaveComponents}
use Rattle.block_store.proofs.Pieces.{values_seen}
use Rattle.block_store.proofs.changing.store.BlockStore.search.Goals as goal

pub find-requires-clause-is_live : goal.find-requires-clause-is_live
find-requires-clause-is_live g c =
    let value = g.R.Row.value in
    subst (λ l. AreLive (block_values value l)) (sym c.deref.ensures.value) (subst (λ l. AreLive l) (values_seen value c.self.inside.pieces.items) c.self.invariant.0)

pub find-requires-clause-fewest : goal.find-requires-clause-fewest
find-requires-clause-fewest g c =
    let value = g.R.Row.value in
    subst (λ l. HaveComponents (block_values value l) c.self.inside.fewest) (sym c.deref.ensures.value) (subst (λ l. HaveComponents l c.self.inside.fewest) (values_seen value c.self.inside.pieces.items) c.self.invariant.4)

pub returns-in-Ok-clause-first : goal.returns-in-Ok-clause-first
returns-in-Ok-clause-first g c =
    let value = g.R.Row.value in
    let test = λ (s : RowValue). is_covering s (value c.args.row.now) in
    let seen = ap (block_values value) c.deref.ensures.value ∙ sym (values_seen value c.self.inside.pieces.items) ∙ ap (map value) c.self.view_is in
    subst (λ l. position test l ≡ Some c.in-Ok.by) seen c.in-Ok.ensures.first

pub returns-in-Ok-clause-found : goal.returns-in-Ok-clause-found
returns-in-Ok-clause-found g c =
    let value = g.R.Row.value in
    let seen = ap (block_values value) c.deref.ensures.value ∙ sym (values_seen value c.self.inside.pieces.items) ∙ ap (map value) c.self.view_is in
    subst (λ l. IsCoveringAt l c.in-Ok.by (value c.args.row.now)) seen c.in-Ok.ensures.found

pub returns-in-Err-clause-free : goal.returns-in-Err-clause-free
returns-in-Err-clause-free g c =
    let value = g.R.Row.value in
    let seen = ap (block_values value) c.deref.ensures.value ∙ sym (values_seen value c.self.inside.pieces.items) ∙ ap (map value) c.self.view_is in
    subst (λ l. HasCovering l (value c.args.row.now) → ⊥) seen c.in-Err.ensures.free
