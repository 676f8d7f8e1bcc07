use Rattle.std.proofs.Common.{◌≡◌, Some, sym, ap, ◌∙◌, arith}
use Rattle.std.proofs.lemmas.Option.{slice_get_within}
use Rattle.willow_entry.specs.Row.{RowValue, is_dominating}
use Rattle.block_store.specs.Blocks.{block_values, index_of}
use Rattle.block_store.proofs.Pieces.{value_at, values_long}
use Rattle.block_store.proofs.changing.offer.prunes_at.Goals as goal

pub returns-in-Some : goal.returns-in-Some
returns-in-Some g c = λ s e.
    let there = value_at g.R.Row.value c.args.pieces.now (index_of c.args.pieces.now c.args.at) c.in-Some.held.now c.in-Some.ensures in
    c.prunes.ensures ∙ ap (is_dominating (g.R.Row.value c.args.row.now)) (same_item (g.R.Row.value c.in-Some.held.now) s (sym there ∙ e))
  where
    same_item : (s t : RowValue) → Some s ≡ Some t → s ≡ t
    same_item s t e = cc

pub returns-in-None : goal.returns-in-None
returns-in-None g c = λ s e.
    let rows = block_values g.R.Row.value c.args.pieces.now in
    absurd (omega (arith, slice_get_within rows (index_of c.args.pieces.now c.args.at) s e, values_long g.R.Row.value c.args.pieces.now, c.in-None.ensures))
