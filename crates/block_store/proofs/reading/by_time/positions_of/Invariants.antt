use Rattle.std.proofs.Common.{◌≡◌, map, take}
use Rattle.block_store.proofs.reading.by_time.positions_of.Given as goal

abbrev pub invariant-loop-i : goal.invariant-loop-i
invariant-loop-i l = l.positions.items ≡ map (λ stamp. stamp.1) (take l.i l.stamps)
