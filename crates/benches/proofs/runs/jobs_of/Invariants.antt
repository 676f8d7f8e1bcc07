use Rattle.std.proofs.Common.{◌≡◌, All, map}
use Rattle.ns_cell.specs.Passes.{IsPassOf}
use Rattle.benches.specs.Jobs.{IsJobOf}
use Rattle.benches.proofs.runs.jobs_of.Given as goal

abbrev pub invariant-loop-pass : goal.invariant-loop-pass
invariant-loop-pass l =
    All (IsJobOf (λ row. row) l.cell) l.jobs.items × (map (λ job. job.pass) l.jobs.items ≡ l.yielded)
    × All (IsPassOf l.cell) l.pass-iterator.rest.items
