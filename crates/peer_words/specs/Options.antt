-- Options: pairs of words, a name and a value, behind the word of a command.
use Rattle.std.specs.Prelude.{◌≡◌, ◌≢◌, ℕ, ◌<◌, Bool, true, false, List, [], ◌∷◌, length, slice_index, Option, Some, None, All, AllPairs, Contains, codes, flat_map}

-- an option that is set: its name and its value
pub record Setting : Type 0 where
  pub name : List ℕ
  pub value : List ℕ

-- its two words
abbrev pub setting_words : Setting → List (List ℕ)
setting_words setting = setting.name ∷ setting.value ∷ []

-- a word that may stand as a value: it has a byte, and the first is not `-`
pub record IsValue (word : List ℕ) : Type 0 where
  pub some : 0 < length word
  pub plain : slice_index word 0 ≢ 45

-- no two settings have one name
abbrev pub HaveOwnNames : List Setting → Type 0
HaveOwnNames settings = AllPairs (λ (one later : Setting). one.name ≢ later.name) settings

-- each name is one of these, no name stands twice, and each value may stand
pub record AreSettings (names : List (List ℕ)) (settings : List Setting) : Type 0 where
  pub named : All (λ (setting : Setting). Contains names setting.name) settings
  pub once : HaveOwnNames settings
  pub valued : All (λ (setting : Setting). IsValue setting.value) settings

-- the words are such settings one after another, in any order
pub record IsSpelled (names words : List (List ℕ)) (settings : List Setting) : Type 0 where
  pub spelled : words ≡ flat_map setting_words settings
  pub are_settings : AreSettings names settings

-- the name is set to the word
abbrev pub IsSet : List Setting → List ℕ → List ℕ → Type 0
IsSet settings name word = Contains {X = Setting} settings (record { name = name; value = word })

-- the value behind the name is a word of the form P for x
abbrev pub IsSetTo : {A : Type 0} → (List ℕ → A → Type 0) → List Setting → List ℕ → A → Type 0
IsSetTo P settings name x = (word : List ℕ) × IsSet settings name word × P word x

-- the same where there is an x, and where there is none the name does not stand
abbrev pub MayBeSet : {A : Type 0} → (List ℕ → A → Type 0) → List Setting → List ℕ → Option A → Type 0
MayBeSet P settings name None = (word : List ℕ) → IsSet settings name word → ⊥
MayBeSet P settings name (Some x) = IsSetTo P settings name x

-- whether the name stands: its value is then `yes`
abbrev pub IsAsked : List Setting → List ℕ → Bool → Type 0
IsAsked settings name true = IsSet settings name (codes "yes")
IsAsked settings name false = (word : List ℕ) → IsSet settings name word → ⊥
