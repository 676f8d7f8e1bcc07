-- The ends of a link between two threads.
use Rattle.std.specs.Prelude.{[], None, Some}
use Rattle.willow_outside.specs.Facts.{LinkFacts}

-- a new end: nothing was taken and nothing is held, and what is still to come is never told
abbrev pub new_end : LinkFacts
new_end = record { left = None; taken = Some []; held = Some []; read_faults = 0; write_faults = 0; ends = 0 }
