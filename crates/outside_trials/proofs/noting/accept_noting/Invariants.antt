use Rattle.std.proofs.Common.{◌≡◌, ◌+◌, ◌≤◌, length}
use Rattle.outside_trials.proofs.noting.accept_noting.Given as goal

abbrev pub invariant-loop-job : goal.invariant-loop-job
invariant-loop-job g l = record {
  host : l.workers.host ≡ l.echo;
  room : length l.jobs ≤ l.workers.room + l.job-index;
  out : length l.workers.begun ≤ (g.D.Door.facts l.door).out;
}
