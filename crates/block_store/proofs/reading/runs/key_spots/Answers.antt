use Rattle.std.proofs.Common.{◌≡◌, true, false, Some, subst}
use Rattle.std.specs.List.Sorted.{IsPartitionPoint}
use Rattle.block_store.specs.Blocks.{block_values, index_of}
use Rattle.block_store.specs.Ends.{is_before_key}
use Rattle.block_store.proofs.Narrowing.{copied_is}
use Rattle.block_store.proofs.reading.runs.key_spots.Goals as goal

pub returns-clause-low : goal.returns-clause-low
returns-clause-low g c =
    subst (λ start. IsPartitionPoint (λ r. is_before_key (Some start) r ≡ true) (λ r. is_before_key (Some start) r ≡ false) (block_values g.R.Row.value c.args.listing.now.pieces.items) (index_of c.args.listing.now.pieces.items c.key_spot-from.result))
    c.key_start.ensures c.key_spot-from.ensures.point

pub returns-clause-high : goal.returns-clause-high
returns-clause-high g c =
    subst (λ end. IsPartitionPoint (λ r. is_before_key end r ≡ true) (λ r. is_before_key end r ≡ false) (block_values g.R.Row.value c.args.listing.now.pieces.items) (index_of c.args.listing.now.pieces.items c.key_spot-to.result))
    (copied_is c.key_end.result c.args.area.now.keys.end c.key_end.ensures) c.key_spot-to.ensures.point
