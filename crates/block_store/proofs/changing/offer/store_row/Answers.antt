use Rattle.std.proofs.Common.{length, ap, arith}
use Rattle.std.proofs.lemmas.List.Sums.{count_by-le-length}
use Rattle.willow_entry.specs.Row.{is_dominating}
use Rattle.block_store.specs.Blocks.{block_values, index_of}
use Rattle.block_store.proofs.Extensions.{live_count}
use Rattle.block_store.proofs.Pieces.{values_long}
use Rattle.block_store.proofs.changing.offer.store_row.Goals as goal

pub overflow_cast-result : goal.overflow_cast-result
overflow_cast-result g c =
    let value = g.R.Row.value in
    let rows = block_values value c.args.pieces.now.items in
    omega (arith, c.in_ok-pruned.ensures.pruned, count_by-le-length (is_dominating (value c.args.held.value)) rows, values_long value c.args.pieces.now.items, c.requires.few)

pub returns-clause-count : goal.returns-clause-count
returns-clause-count g c =
    let value = g.R.Row.value in
    let r = value c.args.held.value in
    let old = c.args.pieces.now.items in
    omega (
      arith,
      live_count (block_values value old) r (index_of old c.args.at) c.requires.place c.requires.is_live c.requires.uncovered,
      ap length c.in_ok-pruned.ensures.rows,
      c.in_ok-pruned.ensures.pruned,
      values_long value old,
      values_long value c.put.new.pieces.items,
    )
