use Rattle.std.proofs.Common.{sym, subst}
use Rattle.std.specs.List.Sorted.{IsPartitionedBy}
use Rattle.std.specs.Option.{option_copied}
use Rattle.willow_entry.specs.Row.{IsRising}
use Rattle.willow_entry.proofs.Live.{live-rises}
use Rattle.block_store.specs.Blocks.{block_values}
use Rattle.block_store.specs.Ends.{is_before_path}
use Rattle.block_store.proofs.Narrowing.{path_partitioned}
use Rattle.block_store.proofs.reading.runs.path_spot.Goals as goal

pub partition_point-requires : goal.partition_point-requires
partition_point-requires g c =
    let rows = block_values g.R.Row.value c.args.listing.now.pieces.items in
    let up : IsRising rows = subst IsRising c.args.listing.now.live (live-rises rows) in
    subst (λ l. IsPartitionedBy (is_before_path c.args.key.now (option_copied c.args.end)) (block_values g.R.Row.value l)) (sym c.deref.ensures.value) (path_partitioned rows up c.requires c.args.key.now (option_copied c.args.end))
