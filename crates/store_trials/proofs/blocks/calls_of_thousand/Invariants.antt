-- The ledger that the counter names is the blank's.
use Rattle.store_trials.proofs.blocks.calls_of_thousand.Given as goal

abbrev pub ghosts-counted : goal.ghosts-counted
ghosts-counted a = record { name = a.blank.name; parts = a.blank.parts }
