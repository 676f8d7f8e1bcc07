use Rattle.std.proofs.Common.{◌≡◌, ◌+◌, ◌≤◌, All, length, map, vec_len, vec_capacity}
use Rattle.benches.specs.Jobs.{IsJobOf}
use Rattle.benches.specs.Served.{Keeps}
use Rattle.benches.proofs.work.start_all.Given as goal

abbrev pub invariant-loop-job : goal.invariant-loop-job
invariant-loop-job g l =
    (map (λ s. s.was.value) l.started.items ≡ map (λ job. job.pass) l.yielded) × All Keeps l.started.items
    × (vec_len l.started + length l.job-iterator.rest.items ≤ vec_capacity l.started)
    × All (IsJobOf g.R.Row.value l.cell) l.job-iterator.rest.items
