-- Draws of noise, in their order.
use Rattle.std.specs.Prelude.{◌≡◌, ℕ, List, ◌∷◌, length, Result, Ok, Err}
use Rattle.std.specs.declared.option.Option.{Option}
use Rattle.std.specs.Option.{option_map}
use Rattle.spelling.specs.Form.{AreBytes}

-- a draw has 32 bytes
pub record IsDraw (words : List ℕ) : Type 0 where
  pub size : length words ≡ 32
  pub are_bytes : AreBytes words

-- a draw is the first of those to come and is taken off; a fault takes none
abbrev pub Draws : {E : Type 0} → Option (List (List ℕ)) → Option (List (List ℕ)) → Result (List ℕ) E → Type 0
Draws old new (Ok words) = old ≡ option_map (λ ds. words ∷ ds) new
Draws old new (Err e) = new ≡ old
