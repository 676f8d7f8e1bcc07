-- Bytes that a link tells. It tells them always or never: what is told grows, and what is not told stays so.
use Rattle.std.specs.Prelude.{◌≡◌, ℕ, ◌<◌, List, ◌++◌, length, take, Result, Ok, Err}
use Rattle.std.specs.Option.{option_map}
use Rattle.std.specs.declared.option.Option.{Option}

-- told bytes grew by these
abbrev pub Extends : Option (List ℕ) → Option (List ℕ) → List ℕ → Type 0
Extends old new bytes = new ≡ option_map (λ xs. xs ++ bytes) old

-- they grew by the first n of these at `Ok(n)`, and by none at a fault
abbrev pub ExtendsBy : {E : Type 0} → Option (List ℕ) → Option (List ℕ) → Result ℕ E → List ℕ → Type 0
ExtendsBy old new (Ok n) bytes = Extends old new (take n bytes)
ExtendsBy old new (Err e) bytes = new ≡ old

-- they grew by all of these, or at a fault by a front of them that is not all
abbrev pub ExtendsAll : {E : Type 0} → Option (List ℕ) → Option (List ℕ) → List ℕ → Result (Unit {0}) E → Type 0
ExtendsAll old new bytes (Ok u) = Extends old new bytes
ExtendsAll old new bytes (Err e) = (k : ℕ) × (k < length bytes) × Extends old new (take k bytes)
