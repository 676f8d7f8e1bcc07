-- The ledger that the counter names is the blank's.
use Rattle.log_trials.proofs.counters.counts.Given as goal

abbrev pub ghosts-three_steps : goal.ghosts-three_steps
ghosts-three_steps g a = record { name = a.blank.name; parts = a.blank.parts }
