use Rattle.std.proofs.Common.{sym, ap, ◌∙◌, arith}
use Rattle.std.proofs.lemmas.Option.{slice_get_past}
use Rattle.block_store.specs.Blocks.{block_values}
use Rattle.block_store.specs.ByTime.{passes}
use Rattle.block_store.specs.InBox.{is_in}
use Rattle.block_store.proofs.Pieces.{value_at, values_long}
use Rattle.block_store.proofs.reading.by_time.is_found.Goals as goal

pub returns-in-Some : goal.returns-in-Some
returns-in-Some g c =
    c.is_in.ensures ∙ ap (passes (is_in c.args.area.now)) (sym (value_at g.R.Row.value c.args.listing.now.pieces.items c.args.at c.in-Some.row.now c.in-Some.ensures))

pub returns-in-None : goal.returns-in-None
returns-in-None g c =
    let pieces = c.args.listing.now.pieces.items in
    ap (passes (is_in c.args.area.now)) (sym (slice_get_past (block_values g.R.Row.value pieces) c.args.at (omega (arith, c.in-None.ensures, values_long g.R.Row.value pieces))))
