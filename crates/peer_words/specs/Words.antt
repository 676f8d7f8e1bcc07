-- Words as bytes, and how a reading of them ends.
use Rattle.std.specs.Prelude.{ℕ, List, map, Result, Ok, Err, String}
use Rattle.std.specs.String.{string_bytes}
use Rattle.std.specs.declared.alloc.Global.{Global}
use Rattle.spelling.specs.declared.ending.End.{End}
use Rattle.spelling.specs.declared.ending.End.TheVariants as ends
use Rattle.peer_words.specs.declared.command.Usage.{Usage}

-- the bytes of each word
abbrev pub texts : List (String Global) → List (List ℕ)
texts = map string_bytes

-- A refusal comes only where nothing is as P says; for want of memory nothing is said.
abbrev pub Refuses : {A : Type 0} → (A → Type 0) → End Usage → Type 0
Refuses {A} P (ends.Refused e) = (x : A) → P x → ⊥
Refuses P ends.NoMemory = Unit {0}

-- what is read is as P says, and is refused only where nothing is
abbrev pub Reads : {A : Type 0} → (A → Type 0) → Result A (End Usage) → Type 0
Reads P (Ok x) = P x
Reads P (Err e) = Refuses P e

-- the same of what is read as a view shows it
abbrev pub ReadsBy : {A B : Type 0} → (A → B) → (B → Type 0) → Result A (End Usage) → Type 0
ReadsBy view P (Ok x) = P (view x)
ReadsBy view P (Err e) = Refuses P e
