use Rattle.std.proofs.Common.{sym, ap, ◌∙◌, arith}
use Rattle.willow_entry.specs.declared.entry.Entry.{Entry}
use Rattle.block_store.specs.Blocks.{block_values}
use Rattle.block_store.proofs.ByTime.{stamped, unstamped}
use Rattle.block_store.proofs.Pieces.{value_at, values_long}
use Rattle.block_store.proofs.reading.by_time.time_at.Goals as goal

pub returns-in-Some : goal.returns-in-Some
returns-in-Some g c =
    let value = g.R.Row.value in
    let pieces = c.args.listing.now.pieces.items in
    ap (λ (e : Entry). e.timestamp) c.entry.ensures.entry
    ∙ sym (stamped (block_values value pieces) c.args.at (value c.in-Some.row.now) (value_at value pieces c.args.at c.in-Some.row.now c.in-Some.ensures))

pub returns-in-None : goal.returns-in-None
returns-in-None g c =
    let pieces = c.args.listing.now.pieces.items in
    sym (unstamped (block_values g.R.Row.value pieces) c.args.at (omega (arith, c.in-None.ensures, values_long g.R.Row.value pieces)))
