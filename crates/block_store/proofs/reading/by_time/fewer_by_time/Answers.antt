use Rattle.std.proofs.Common.{length, ap, arith}
use Rattle.block_store.specs.Blocks.{block_values}
use Rattle.block_store.proofs.ByTime.{times_rise, written_few}
use Rattle.block_store.proofs.Pieces.{values_long}
use Rattle.block_store.proofs.reading.by_time.fewer_by_time.Goals as goal

pub written_in-within-requires : goal.written_in-within-requires
written_in-within-requires g c = times_rise (block_values g.R.Row.value c.args.listing.now.pieces.items) c.args.order.now c.requires

pub is_short_by_place-requires : goal.is_short_by_place-requires
is_short_by_place-requires g c =
    let pieces = c.args.listing.now.pieces.items in
    let rows = block_values g.R.Row.value pieces in
    omega (arith, ap length c.written_in-within.ensures, written_few c.args.area.now rows c.args.order.now c.requires, values_long g.R.Row.value pieces, c.args.listing.now.few)

pub returns-else-is_short_by_place-clause-few : goal.returns-else-is_short_by_place-clause-few
returns-else-is_short_by_place-clause-few g c =
    let pieces = c.args.listing.now.pieces.items in
    let rows = block_values g.R.Row.value pieces in
    omega (arith, ap length c.written_in-within.ensures, written_few c.args.area.now rows c.args.order.now c.requires, values_long g.R.Row.value pieces)
