-- How options that were read are seen inside this crate; that they are options at all is said in Options.
use Rattle.std.specs.Prelude.{ℕ, List, [], ◌∷◌}
use Rattle.peer_words.specs.Options.{Setting}

-- the settings of words that come in pairs
abbrev pub settings_of : List (List ℕ) → List Setting
settings_of [] = []
settings_of (word ∷ []) = []
settings_of (name ∷ value ∷ rest) = record { name = name; value = value } ∷ settings_of rest
