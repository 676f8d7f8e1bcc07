-- Where a reader asks for memory: want of memory is an answer only there.
use Rattle.std.specs.Prelude.{List, ℕ, ⊤}
use Rattle.spelling.specs.Front.{Front, Whole, Part, Wrong}

-- a whole value stands at the front, and of it and the bytes behind it this holds
abbrev pub Behind : {A : Type 0} → Front A → (A → List ℕ → Type 0) → Type 0
Behind (Whole x rest) holds = holds x rest
Behind Part holds = ⊥
Behind Wrong holds = ⊥

-- a whole value stands at the front
abbrev pub IsWhole : {A : Type 0} → Front A → Type 0
IsWhole front = Behind front (λ x rest. ⊤)
