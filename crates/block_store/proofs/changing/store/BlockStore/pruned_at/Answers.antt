use Rattle.std.proofs.Common.{◌≡◌, map, sym, ap, ◌∙◌, subst, IfOk}
use Rattle.willow_entry.specs.Row.{AreLive, IsRising, is_dominating}
use Rattle.willow_entry.proofs.Between.{rising_live}
use Rattle.block_store.specs.Blocks.{block_values}
use Rattle.block_store.specs.Positions.{positions}
use Rattle.block_store.proofs.Pieces.{values_seen}
use Rattle.block_store.proofs.changing.store.BlockStore.pruned_at.Goals as goal

pub dominated_at-requires-clause-rising : goal.dominated_at-requires-clause-rising
dominated_at-requires-clause-rising g c =
    let value = g.R.Row.value in
    subst (λ l. IsRising (block_values value l)) (sym c.deref.ensures.value)
    (rising_live (block_values value c.self.inside.pieces.items) (subst (λ l. AreLive l) (values_seen value c.self.inside.pieces.items) c.self.invariant.0))

pub returns : goal.returns
returns g c =
    let value = g.R.Row.value in
    subst (λ l. IfOk c.dominated_at.result (λ found. found.items ≡ positions (is_dominating (value c.args.row.now)) l))
    (ap (block_values value) c.deref.ensures.value ∙ sym (values_seen value c.self.inside.pieces.items) ∙ ap (map value) c.self.view_is) c.dominated_at.ensures
