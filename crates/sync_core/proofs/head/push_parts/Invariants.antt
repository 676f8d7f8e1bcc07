use Rattle.std.proofs.Common.{◌≡◌, ◌+◌, ◌≤◌, ◌++◌, map, length, drop, vec_len}
use Rattle.std.specs.Prelude.{vec_capacity}
use Rattle.exchange_rules.specs.AnyPeer.{part_asks}
use Rattle.sync_core.specs.Held.{ask_value}
use Rattle.sync_core.proofs.head.push_parts.Given as goal

abbrev pub invariant-loop-i : goal.invariant-loop-i
invariant-loop-i l = record {
  pushed : map ask_value l.opens.items ++ part_asks l.rest.items (drop l.i l.prints) ≡ map ask_value l.fn.opens.items ++ part_asks l.fn.parts.items l.prints;
  left : length l.rest.items + l.i ≡ length l.prints;
  room : vec_len l.opens + length l.rest.items ≤ vec_capacity l.opens;
}
