-- The ledger that the counter names is the blank's.
use Rattle.log_trials.proofs.slots.a_thousand_slots.Given as goal

abbrev pub ghosts-new_comes_and_goes : goal.ghosts-new_comes_and_goes
ghosts-new_comes_and_goes g a = record { name = a.blank.name; parts = a.blank.parts }
