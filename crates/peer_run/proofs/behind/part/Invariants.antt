use Rattle.std.specs.Vec.Iter.{into_iter_items}
use Rattle.std.proofs.Common.{◌+◌, ◌≤◌, length, vec_len, vec_capacity}
use Rattle.peer_run.proofs.Guests.{handed_on}
use Rattle.peer_run.proofs.Paired.{HasParted, HasGathered}
use Rattle.peer_run.proofs.behind.part.Given as goal

abbrev pub invariant-loop-parting : goal.invariant-loop-parting
invariant-loop-parting l = record {
  parted : HasParted l.fn.partings.items l.others.items l.ends.items l.yielded (into_iter_items l.parting-iterator);
  others : vec_len l.others + (length (into_iter_items l.parting-iterator) + vec_len l.fn.unused) ≤ vec_capacity l.others;
  ends : vec_len l.ends + length (into_iter_items l.parting-iterator) ≤ vec_capacity l.ends;
}

abbrev pub invariant-loop-guest : goal.invariant-loop-guest
invariant-loop-guest l = record {
  gathered : HasGathered (handed_on l.fn.partings.items) l.fn.unused.items l.others.items l.yielded (into_iter_items l.guest-iterator);
  others : vec_len l.others + length (into_iter_items l.guest-iterator) ≤ vec_capacity l.others;
}
