-- What names hold, and how a get and a put speak of it.
use Rattle.std.specs.Prelude.{◌≡◌, ℕ, List, ◌⊎◌, Result, Ok, Err, Some, None, cond}
use Rattle.std.specs.declared.option.Option.{Option}
use Rattle.std.specs.declared.string.String.{String}
use Rattle.std.specs.declared.vec.Vec.{Vec}
use Rattle.std.specs.declared.alloc.Global.{Global}
use Rattle.std.specs.Option.{option_map}
use Rattle.std.specs.Str.{bytes_eq}
use Rattle.std.specs.BTreeMap.{BTreeMap, get_by_text}
use Rattle.willow_outside.specs.declared.fault.Fault.{Fault}
use Rattle.willow_outside.specs.declared.fault.Fault.TheVariants.{Failed, NoMemory}
use Rattle.willow_outside.specs.Facts.{Names}

-- the names with one of them holding new bytes
abbrev pub name_put : List ℕ → List ℕ → Names → Names
name_put name bytes names = λ q. cond (bytes_eq name q) (Some bytes) (names q)

-- the names of a map from texts to bytes
abbrev pub names_in : BTreeMap (String Global) (Vec ℕ Global) → Names
names_in contents = λ q. option_map (λ v. v.items) (get_by_text contents q)

-- a get found what the name holds, if that is told
abbrev pub GetsName : Option Names → List ℕ → Option (List ℕ) → Type 0
GetsName None name found = Unit {0}
GetsName (Some names) name found = names name ≡ found

-- the names are told, and no bytes are under this one
abbrev pub IsToldMissing : Option Names → List ℕ → Type 0
IsToldMissing None name = ⊥
IsToldMissing (Some names) name = names name ≡ None

-- a name that is told to be missing takes no memory to get
abbrev pub NeedsMemoryIfHeld : {A : Type 0} → Option Names → List ℕ → Result A Fault → Type 0
NeedsMemoryIfHeld told name (Ok found) = Unit {0}
NeedsMemoryIfHeld told name (Err Failed) = Unit {0}
NeedsMemoryIfHeld told name (Err NoMemory) = IsToldMissing told name → ⊥

-- a put replaced what the name held; at Failed it did so or left it, and without memory left it
abbrev pub PutsName : Option Names → Option Names → List ℕ → List ℕ → Result (Unit {0}) Fault → Type 0
PutsName old new name bytes (Ok u) = new ≡ option_map (name_put name bytes) old
PutsName old new name bytes (Err Failed) = (new ≡ old) ⊎ (new ≡ option_map (name_put name bytes) old)
PutsName old new name bytes (Err NoMemory) = new ≡ old
