-- The ledger that the counter names is the blank's.
use Rattle.store_trials.proofs.tests.fingerprints.Given as goal

abbrev pub ghosts-fingerprint : goal.ghosts-fingerprint
ghosts-fingerprint g a = record { name = a.blank.name; parts = a.blank.parts }
