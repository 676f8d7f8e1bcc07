use Rattle.std.proofs.Common.{is_lt, rules}
use Rattle.std.proofs.lemmas.List.Sorted.{IsPartitionPoint-from_clause}
use Rattle.willow_entry.specs.Row.{place_cmp}
use Rattle.willow_entry.proofs.Ranks.{place_total}
use Rattle.willow_entry.proofs.Between.{place_from_point, rising_partitioned}
use Rattle.flat_store.proofs.store.place.Goals as goal

pub returns-clause-place : goal.returns-clause-place
returns-clause-place g c =
    let value = g.R.Row.value in
    let at = value c.args.row.now in
    place_from_point place_cmp value at c.args.rows.now _
    (IsPartitionPoint-from_clause (λ s. is_lt (place_cmp (value s) at)) _ _ c.partition_point.ensures.partitioned
    (rising_partitioned place_cmp place_total value at c.args.rows.now c.requires) (λ a r q k. search rules))
