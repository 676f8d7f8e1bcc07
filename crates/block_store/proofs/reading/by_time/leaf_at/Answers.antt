use Rattle.std.proofs.Common.{[], ◌∷◌, cond, sym, ap, ◌∙◌, arith}
use Rattle.std.proofs.lemmas.Option.{slice_get_past}
use Rattle.lane_sum.specs.Totals.{total_by}
use Rattle.block_store.specs.Blocks.{block_values}
use Rattle.block_store.specs.ByTime.{passes}
use Rattle.block_store.specs.BytesAt.{row_bytes_at}
use Rattle.block_store.specs.InBox.{is_in}
use Rattle.block_store.proofs.Pieces.{value_at, values_long}
use Rattle.block_store.proofs.TimeTotals.{total_one}
use Rattle.block_store.proofs.reading.by_time.leaf_at.Goals as goal

pub returns-in-Some-clause-total : goal.returns-in-Some-clause-total
returns-in-Some-clause-total g c =
    let value = g.R.Row.value in
    let pieces = c.args.listing.now.pieces.items in
    c.leaf_if_in.ensures.total ∙ total_one c.args.area.now (block_values value pieces) c.args.at (value c.in-Some.row.now) (value_at value pieces c.args.at c.in-Some.row.now c.in-Some.ensures.row)

pub returns-in-None-clause-total : goal.returns-in-None-clause-total
returns-in-None-clause-total g c =
    let pieces = c.args.listing.now.pieces.items in
    let rows = block_values g.R.Row.value pieces in
    let none = slice_get_past rows c.args.at (omega (arith, c.in-None.ensures.row, values_long g.R.Row.value pieces)) in
    c.zero.ensures ∙ ap (λ b. total_by (row_bytes_at rows) (cond b (c.args.at ∷ []) [])) (ap (passes (is_in c.args.area.now)) (sym none))
