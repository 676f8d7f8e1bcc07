use Rattle.std.proofs.Common.{◌≡◌, ◌+◌, ◌≤◌, All, length, map, vec_len, vec_capacity}
use Rattle.benches.specs.Served.{IsServed, Keeps}
use Rattle.benches.proofs.work.finish_all.Given as goal

abbrev pub invariant-loop-worker : goal.invariant-loop-worker
invariant-loop-worker g l =
    (map (λ done. done.was.value) l.all.items ≡ map (λ s. s.was.value) l.yielded) × All (λ done. IsServed done.was.value done.pass) l.all.items
    × (vec_len l.all + length l.worker-iterator.rest.items ≤ vec_capacity l.all)
    × All Keeps l.worker-iterator.rest.items
