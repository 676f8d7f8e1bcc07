use Rattle.std.proofs.Common.{Some, None, sym, ap, subst}
use Rattle.willow_entry.specs.Row.{HasCovering, IsCoveringAt}
use Rattle.willow_entry.proofs.Between.{live-kept}
use Rattle.willow_entry.proofs.Covering.{covering_found, covering_none}
use Rattle.block_store.specs.Blocks.{block_values}
use Rattle.block_store.proofs.changing.offer.offer_shared.Goals as goal

pub store-requires-clause-uncovered : goal.store-requires-clause-uncovered
store-requires-clause-uncovered g c =
    let value = g.R.Row.value in
    let free = covering_none (block_values value c.deref.result.now) (value c.deref-2.result.now) None (sym c.in-Ok.ensures.free) in
    subst (λ r. HasCovering (block_values value c.args.pieces.now.items) r → ⊥) (ap value c.deref-2.ensures) (subst (λ l. HasCovering (block_values value l) (value c.deref-2.result.now) → ⊥) c.deref.ensures.value free)

pub returns-in-Err-clause-placed : goal.returns-in-Err-clause-placed
returns-in-Err-clause-placed g c =
    let value = g.R.Row.value in
    let found = covering_found (block_values value c.deref.result.now) (value c.deref-2.result.now) (Some c.in-Err.by) (sym c.in-Err.ensures.covered) in
    subst (λ r. IsCoveringAt (block_values value c.args.pieces.now.items) c.in-Err.by r) (ap value c.deref-2.ensures) (subst (λ l. IsCoveringAt (block_values value l) c.in-Err.by (value c.deref-2.result.now)) c.deref.ensures.value found)

pub returns-in-Err-clause-rows : goal.returns-in-Err-clause-rows
returns-in-Err-clause-rows g c = live-kept _ _ c.in-Err.by c.requires.is_live (returns-in-Err-clause-placed g c)
