-- The ledger that the counter names is the blank's.
use Rattle.log_trials.proofs.slots.lists_and_searches.Given as goal

abbrev pub ghosts-new_comes_out : goal.ghosts-new_comes_out
ghosts-new_comes_out g a = record { name = a.blank.name; parts = a.blank.parts }
