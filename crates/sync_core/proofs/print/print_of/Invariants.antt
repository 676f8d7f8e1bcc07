-- The ledger that the counter names is the blank's.
use Rattle.sync_core.proofs.print.print_of.Given as goal

abbrev pub ghosts-counted_print : goal.ghosts-counted_print
ghosts-counted_print g a = record { name = a.blank.name; parts = a.blank.parts }
