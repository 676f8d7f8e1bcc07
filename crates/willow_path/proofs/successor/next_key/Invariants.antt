use Rattle.std.proofs.Common.{◌≡◌, ◌≤◌, ◌-◌, ◌++◌, length, replicate}
use Rattle.std.specs.Option.{option_map}
use Rattle.willow_path.specs.Successor.{next_bytes}
use Rattle.willow_path.proofs.successor.next_key.Given as goal

abbrev pub invariant-loop-front : goal.invariant-loop-front
invariant-loop-front l = record {
  short : length l.front ≤ 33;
  so_far : next_bytes l.bytes ≡ option_map (λ next. next ++ replicate (33 - length l.front) 0) (next_bytes l.front);
}

abbrev pub decreases-loop-front : goal.decreases-loop-front
decreases-loop-front l = length l.front
