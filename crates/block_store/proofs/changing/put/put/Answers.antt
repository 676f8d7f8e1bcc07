use Rattle.std.proofs.Common.{◌≡◌, drop, count_by, sym, ap, ◌∙◌, subst}
use Rattle.willow_entry.specs.Row.{IsRising, is_dominating, left_of}
use Rattle.willow_entry.proofs.Between.{rising_live}
use Rattle.block_store.specs.Blocks.{block_values}
use Rattle.block_store.proofs.Thinning.{none_pruned}
use Rattle.block_store.proofs.changing.put.put.Goals as goal

pub run_of-to-requires-clause-rising : goal.run_of-to-requires-clause-rising
run_of-to-requires-clause-rising g c = subst (λ l. IsRising (block_values g.R.Row.value l)) (sym c.deref.ensures.value) (rising_live (block_values g.R.Row.value c.args.pieces.now.items) c.requires.is_live)

pub settle-requires-clause-stays : goal.settle-requires-clause-stays
settle-requires-clause-stays g c =
    let value = g.R.Row.value in
    let to = c.run_of-to.result.0 in
    let stays = subst (λ l. left_of (value c.deref-2.result.now) (block_values value (drop to l)) ≡ block_values value (drop to l)) c.deref.ensures.value c.run_of-to.ensures.stays in
    subst (λ t. left_of t (block_values value (drop to c.args.pieces.now.items)) ≡ block_values value (drop to c.args.pieces.now.items)) (ap value c.deref-2.ensures) stays

pub settle-requires-clause-none : goal.settle-requires-clause-none
settle-requires-clause-none g c = λ none.
    let value = g.R.Row.value in
    let rows = block_values value c.args.pieces.now.items in
    let counted = c.run_of-to.ensures.pruned ∙ ap (λ l. count_by (is_dominating (value c.deref-2.result.now)) (block_values value l)) c.deref.ensures.value in
    subst (λ t. left_of t rows ≡ rows) (ap value c.deref-2.ensures) (none_pruned (value c.deref-2.result.now) rows (sym counted ∙ none))
