use Rattle.std.proofs.Common.{◌≡◌, ◌≤◌, ◌+◌, ◌-◌, ◌^◌, min, drop}
use Rattle.std.specs.List.{sum_by}
use Rattle.peer_run.specs.Telling.{rows_told}
use Rattle.peer_run.proofs.tails.rows_behind.Given as goal

-- what is counted and what is to come are all
abbrev pub invariant-loop-end : goal.invariant-loop-end
invariant-loop-end l = record {
  counted : min (l.rows + sum_by rows_told l.ends) (2 ^ 64 - 1) ≡ min (l.before + sum_by rows_told (drop l.end-index l.ends)) (2 ^ 64 - 1);
  fits : l.before ≤ 2 ^ 64 - 1;
}
