-- The ledger that the counter names is the blank's.
use Rattle.store_trials.proofs.tests.rows_of_times.Given as goal

abbrev pub ghosts-told_in : goal.ghosts-told_in
ghosts-told_in g a = record { name = a.blank.name; parts = a.blank.parts }
