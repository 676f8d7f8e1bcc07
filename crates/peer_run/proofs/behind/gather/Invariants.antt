use Rattle.std.specs.Vec.Iter.{into_iter_items}
use Rattle.std.proofs.Common.{◌+◌, ◌≤◌, length, vec_len, vec_capacity}
use Rattle.peer_run.proofs.Paired.{HasJoined}
use Rattle.peer_run.proofs.behind.gather.Given as goal

abbrev pub invariant-loop-pass : goal.invariant-loop-pass
invariant-loop-pass l = record {
  joined : HasJoined l.fn.own l.fn.others.items l.passes.items l.yielded (into_iter_items l.pass-iterator);
  room : vec_len l.passes + length (into_iter_items l.pass-iterator) ≤ vec_capacity l.passes;
}
