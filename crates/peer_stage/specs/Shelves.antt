-- What the stages that get and put bytes do to the shelf.
use Rattle.std.specs.Prelude.{◌≡◌, ℕ, ◌⊎◌, List, Option, Some, None, Result, Ok, Err}
use Rattle.std.specs.Option.{option_map}
use Rattle.std.specs.String.{string_bytes}
use Rattle.std.specs.declared.string.String.{String}
use Rattle.std.specs.Global.{Vec}
use Rattle.std.specs.declared.alloc.Global.{Global}
use Rattle.willow_outside.specs.Counts.{Rose}
use Rattle.willow_outside.specs.declared.fault.Fault.{Fault}
use Rattle.willow_outside.specs.declared.fault.Fault.TheVariants as fault
use Rattle.willow_outside.specs.Facts.{ShelfFacts}
use Rattle.willow_outside.specs.Names.{GetsName, IsToldMissing, name_put}
use Rattle.peer_stage.specs.declared.outcome.Origin.{Origin}
use Rattle.peer_stage.specs.declared.outcome.Origin.TheVariants as origin
use Rattle.peer_stage.specs.declared.outcome.Stop.{Stop}
use Rattle.peer_stage.specs.declared.outcome.Stop.TheVariants as stop

-- ---- what is got

-- the bytes came from the name
abbrev pub IsOfName : Origin → String Global → Type 0
IsOfName origin.Input name = ⊥
IsOfName (origin.Name other) name = other ≡ name

-- the name holds these bytes, and no name was put
abbrev pub HoldsBytes : List ℕ → ShelfFacts → ShelfFacts → List ℕ → Type 0
HoldsBytes name old new bytes = GetsName old.names name (Some bytes) × (new.names ≡ old.names)

-- no bytes are held under the name, and no name was put
abbrev pub HoldsNone : List ℕ → ShelfFacts → ShelfFacts → Type 0
HoldsNone name old new = GetsName old.names name None × (new.names ≡ old.names)

-- how the getting of a name ends: its bytes are handed on with it; where it is told to be missing, that takes no memory
abbrev pub GetsBytes : String Global → ShelfFacts → ShelfFacts → Result (String Global × Vec ℕ) Stop → Type 0
GetsBytes name old new (Ok x) = (x.0 ≡ name) × HoldsBytes (string_bytes name) old new x.1.items
GetsBytes name old new (Err stop.ReadFault) = Rose old.read_faults new.read_faults × (new.names ≡ old.names)
GetsBytes name old new (Err (stop.Missing other)) = (other ≡ name) × HoldsNone (string_bytes name) old new
GetsBytes name old new (Err stop.NoMemory) = (IsToldMissing old.names (string_bytes name) → ⊥) × (new.names ≡ old.names)
GetsBytes name old new (Err e) = ⊥

-- what is told of what the shelf answered under a name; want of memory is told of no other answer
abbrev pub bytes_told : String Global → Result (Option (Vec ℕ)) Fault → Result (String Global × Vec ℕ) Stop
bytes_told name (Ok (Some bytes)) = Ok (name, bytes)
bytes_told name (Ok None) = Err (stop.Missing name)
bytes_told name (Err fault.Failed) = Err stop.ReadFault
bytes_told name (Err fault.NoMemory) = Err stop.NoMemory

-- ---- what is put

-- the name holds these bytes now, and the others what they held
abbrev pub IsPut : List ℕ → List ℕ → ShelfFacts → ShelfFacts → Type 0
IsPut name bytes old new = new.names ≡ option_map (name_put name bytes) old.names

-- how the putting of bytes under a name ends
abbrev pub PutsBytes : List ℕ → List ℕ → ShelfFacts → ShelfFacts → Result (Unit {0}) Stop → Type 0
PutsBytes name bytes old new (Ok u) = IsPut name bytes old new
PutsBytes name bytes old new (Err stop.WriteFault) = Rose old.write_faults new.write_faults × ((new.names ≡ old.names) ⊎ IsPut name bytes old new)
PutsBytes name bytes old new (Err stop.NoMemory) = new.names ≡ old.names
PutsBytes name bytes old new (Err e) = ⊥
