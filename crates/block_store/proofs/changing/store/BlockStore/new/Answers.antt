use Rattle.std.proofs.Common.{length, sym, subst, ap, arith}
use Rattle.willow_entry.proofs.Between.{live-empty}
use Rattle.block_store.specs.Blocks.{block_rows}
use Rattle.block_store.specs.Packing.{IsPacked}
use Rattle.block_store.proofs.Fewest.{fewest_of_none}
use Rattle.block_store.proofs.Packs.{packed_none}
use Rattle.block_store.proofs.changing.store.BlockStore.new.Goals as goal

pub invariant_of-result : goal.invariant_of-result
invariant_of-result g c =
    let none = ap block_rows c.new.ensures.items in
    (rw c.new.ensures.items live-empty, omega (arith, ap length none), omega (arith, ap length none), subst IsPacked (sym c.new.ensures.items) packed_none, rw c.new.ensures.items (fewest_of_none _))
