use Rattle.std.proofs.Common.{◌≡◌, slice_get}
use Rattle.link_arena.specs.Arena.{slots_in}
use Rattle.recency_index.proofs.index.nth_slot.Given as goal

abbrev pub invariant-loop-passed : goal.invariant-loop-passed
invariant-loop-passed l = l.at ≡ slice_get (slots_in l.items.by_rank) l._passed
