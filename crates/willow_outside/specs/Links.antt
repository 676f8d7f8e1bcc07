-- Links that a door hands out and takes back.
use Rattle.std.specs.Prelude.{◌≡◌, ℕ, ◌+◌, List, [], ◌∷◌, ◌++◌, Result, Ok, Err, IfSome}
use Rattle.std.specs.declared.option.Option.{Option}
use Rattle.std.specs.Option.{option_map}
use Rattle.willow_outside.specs.Facts.{LinkFacts}

-- nothing failed, nothing ended, and nothing is taken or held
abbrev pub IsFresh : LinkFacts → Type 0
IsFresh f =
    (f.read_faults ≡ 0) × (f.write_faults ≡ 0) × (f.ends ≡ 0) × IfSome f.taken (λ xs. xs ≡ []) × IfSome f.held (λ xs. xs ≡ [])

-- a told list grew by x
abbrev pub list_with : {A : Type 0} → A → Option (List A) → Option (List A)
list_with x told = option_map (λ xs. xs ++ x ∷ []) told

-- the place was asked for at Ok, and at a fault none
abbrev pub AsksPlace : {A E : Type 0} → Option (List (List ℕ)) → Option (List (List ℕ)) → List ℕ → Result A E → Type 0
AsksPlace old new place (Ok x) = new ≡ list_with place old
AsksPlace old new place (Err e) = new ≡ old

-- one more link is out at Ok, and at a fault none
abbrev pub HandsOutLink : {A E : Type 0} → ℕ → ℕ → Result A E → Type 0
HandsOutLink old new (Ok x) = new ≡ old + 1
HandsOutLink old new (Err e) = new ≡ old
