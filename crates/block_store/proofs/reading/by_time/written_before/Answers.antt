use Rattle.std.proofs.Common.{rules}
use Rattle.std.specs.Prelude.{nat_lt}
use Rattle.std.proofs.lemmas.List.Sorted.{IsPartitionPoint-from_clause, IsPartitionedBy-ltb}
use Rattle.block_store.specs.Blocks.{block_values}
use Rattle.block_store.specs.ByTime.{time_at}
use Rattle.block_store.proofs.reading.by_time.written_before.Goals as goal

pub returns-clause-point : goal.returns-clause-point
returns-clause-point g c =
    let time = time_at (block_values g.R.Row.value c.args.listing.now.pieces.items) in
    IsPartitionPoint-from_clause (λ at. nat_lt (time at) c.args.time) _ _ c.partition_point.ensures.partitioned (IsPartitionedBy-ltb time c.args.ats.now c.args.time c.requires) (λ a r q k. search rules)
