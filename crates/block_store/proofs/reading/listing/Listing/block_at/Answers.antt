use Rattle.std.proofs.Common.{◌≡◌, true, false, nat_le, sym, subst, rules, arith}
use Rattle.std.specs.List.Sorted.{IsPartitionPoint, IsPartitionedBy}
use Rattle.std.proofs.lemmas.List.Sorted.{IsPartitionPoint-from_clause}
use Rattle.block_store.proofs.Spots.{starts_partitioned, point_some, point_from, point_below}
use Rattle.block_store.proofs.reading.listing.Listing.block_at.Goals as goal

found : (g : _) (c : goal.After-partition_point g) → IsPartitionPoint (λ start. nat_le start c.args.at ≡ true) (λ start. nat_le start c.args.at ≡ false) c.args.self.now.starts.items c.partition_point.result
found g c =
    let parted = starts_partitioned c.args.self.now.starts.items c.args.self.now.pieces.items c.args.at c.args.self.now.placed in
    subst (λ l. IsPartitionPoint (λ start. nat_le start c.args.at ≡ true) (λ start. nat_le start c.args.at ≡ false) l c.partition_point.result) c.deref.ensures.value
    (IsPartitionPoint-from_clause (λ start. nat_le start c.args.at) c.deref.result.now c.partition_point.result c.partition_point.ensures.partitioned
    (subst (IsPartitionedBy (λ start. nat_le start c.args.at)) (sym c.deref.ensures.value) parted) (λ a r q k. search rules))

pub overflow_sub-result : goal.overflow_sub-result
overflow_sub-result g c = point_some c.args.self.now.starts.items c.args.self.now.pieces.items c.args.at c.partition_point.result c.args.self.now.placed (found g c)

pub returns-clause-from : goal.returns-clause-from
returns-clause-from g c = point_from c.args.self.now.starts.items c.args.self.now.pieces.items c.args.at c.partition_point.result c.args.self.now.placed (found g c) (omega (arith, c.deref.ensures.len, c.partition_point.ensures.bound, c.args.self.now.starts.ok.0))

pub returns-clause-below : goal.returns-clause-below
returns-clause-below g c h = point_below c.args.self.now.starts.items c.args.self.now.pieces.items c.args.at c.partition_point.result c.args.self.now.placed (found g c) h
