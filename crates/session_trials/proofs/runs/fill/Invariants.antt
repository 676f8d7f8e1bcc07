use Rattle.ns_cell.specs.Passes.{IsPassOf}
use Rattle.session_trials.proofs.runs.fill.Given as goal

abbrev pub invariant-loop-row : goal.invariant-loop-row
invariant-loop-row g l = IsPassOf l.cell l.pass
