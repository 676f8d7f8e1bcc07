-- Walks along words in pairs.
use Rattle.std.proofs.Common.{◌≡◌, ℕ, ◌-◌, ◌<◌, ◌≤◌, List, ◌∷◌, length, get_or, take, drop, sym, subst, String}
use Rattle.std.specs.Prelude.{◌↔◌, Contains}
use Rattle.std.specs.String.{string_bytes}
use Rattle.std.specs.declared.alloc.Global.{Global}
use Rattle.peer_words.specs.Options.{Setting, IsValue, AreSettings, IsSet}
use Rattle.peer_words.specs.Pairs.{settings_of}
use Rattle.peer_words.specs.Words.{texts}
use Rattle.peer_words.proofs.Pairs.{first_setting, no_setting}
use Rattle.peer_words.proofs.SetOnce.{set_first, set_behind, set_ahead, none_set, no_settings_are, settings_with, settings_behind, first_named, first_valued, first_once}

-- what the words behind the first two set
abbrev pub behind : List (String Global) → List Setting
behind words = settings_of (texts (take (length words - 2) (drop 2 words)))

setting : String Global → String Global → Setting
setting a b = record { name = string_bytes a; value = string_bytes b }

-- ---- a value behind a name

pub found : (words : List (String Global)) (a b : String Global) (name value : List ℕ) (all : List Setting) → 2 ≤ length words → a ≡ get_or words 0 a → b ≡ get_or words 1 b
    → string_bytes a ≡ name → string_bytes b ≡ value → ((word : List ℕ) → IsSet (settings_of (texts words)) name word ↔ IsSet all name word) → IsSet all name value
found words a b name value all len p q named valued same =
    (same value).0 (subst (λ (n : List ℕ). IsSet (settings_of (texts words)) n value) named (subst (λ (v : List ℕ). IsSet (settings_of (texts words)) (string_bytes a) v) valued
    (subst (λ (ss : List Setting). IsSet ss (string_bytes a) (string_bytes b)) (sym (first_setting words a b len p q)) (set_first (record { name = string_bytes a; value = string_bytes b }) (behind words)))))

pub found_further : (words : List (String Global)) (a b : String Global) (name : List ℕ) (all : List Setting) → 2 ≤ length words → a ≡ get_or words 0 a → b ≡ get_or words 1 b
    → (string_bytes a ≡ name → ⊥) → ((word : List ℕ) → IsSet (settings_of (texts words)) name word ↔ IsSet all name word) → (word : List ℕ) → IsSet (behind words) name word ↔ IsSet all name word
found_further words a b name all len p q other same word =
    let first : Setting = record { name = string_bytes a; value = string_bytes b } in
    let front = first_setting words a b len p q in (
      (λ is. (same word).0 (subst (λ (ss : List Setting). IsSet ss name word) (sym front) (set_behind first (behind words) name word is))),
      (λ is. set_ahead first (behind words) name word other (subst (λ (ss : List Setting). IsSet ss name word) front ((same word).1 is))),
    )

pub not_found : (words : List (String Global)) (name : List ℕ) (all : List Setting) → length words < 2 → ((word : List ℕ) → IsSet (settings_of (texts words)) name word ↔ IsSet all name word)
    → (word : List ℕ) → IsSet all name word → ⊥
not_found words name all short same word is = none_set name word (subst (λ (ss : List Setting). IsSet ss name word) (no_setting words short) ((same word).1 is))

-- ---- settings

pub fit_further : (names : List (List ℕ)) (words : List (String Global)) (a b : String Global) (all : List Setting) → 2 ≤ length words → a ≡ get_or words 0 a → b ≡ get_or words 1 b
    → Contains names (string_bytes a) → IsValue (string_bytes b) → ((word : List ℕ) → IsSet (behind words) (string_bytes a) word → ⊥)
    → (AreSettings names (settings_of (texts words)) ↔ AreSettings names all) → AreSettings names (behind words) ↔ AreSettings names all
fit_further names words a b all len p q named valued alone same =
    let first : Setting = record { name = string_bytes a; value = string_bytes b } in
    let front = first_setting words a b len p q in (
      (λ are. same.0 (subst (λ (ss : List Setting). AreSettings names ss) (sym front) (settings_with names first (behind words) named valued alone are))),
      (λ are. settings_behind names first (behind words) (subst (λ (ss : List Setting). AreSettings names ss) front (same.1 are))),
    )

-- the settings that all are, by their first
front_is : (names : List (List ℕ)) (words : List (String Global)) (a b : String Global) (all : List Setting) → 2 ≤ length words → a ≡ get_or words 0 a → b ≡ get_or words 1 b
    → (AreSettings names (settings_of (texts words)) ↔ AreSettings names all) → AreSettings names all → AreSettings names (setting a b ∷ behind words)
unfolding setting
front_is names words a b all len p q same are = subst (λ (ss : List Setting). AreSettings names ss) (first_setting words a b len p q) (same.1 are)

pub unnamed : (names : List (List ℕ)) (words : List (String Global)) (a b : String Global) (all : List Setting) → 2 ≤ length words → a ≡ get_or words 0 a → b ≡ get_or words 1 b
    → (Contains names (string_bytes a) → ⊥) → (AreSettings names (settings_of (texts words)) ↔ AreSettings names all) → AreSettings names all → ⊥
unfolding setting
unnamed names words a b all len p q not same are = not (first_named names (setting a b) (behind words) (front_is names words a b all len p q same are))

pub unvalued : (names : List (List ℕ)) (words : List (String Global)) (a b : String Global) (all : List Setting) → 2 ≤ length words → a ≡ get_or words 0 a → b ≡ get_or words 1 b
    → (IsValue (string_bytes b) → ⊥) → (AreSettings names (settings_of (texts words)) ↔ AreSettings names all) → AreSettings names all → ⊥
unfolding setting
unvalued names words a b all len p q not same are = not (first_valued names (setting a b) (behind words) (front_is names words a b all len p q same are))

pub repeated : (names : List (List ℕ)) (words : List (String Global)) (a b : String Global) (all : List Setting) → 2 ≤ length words → a ≡ get_or words 0 a → b ≡ get_or words 1 b
    → (word : List ℕ) → IsSet (behind words) (string_bytes a) word → (AreSettings names (settings_of (texts words)) ↔ AreSettings names all) → AreSettings names all → ⊥
unfolding setting
repeated names words a b all len p q word is same are = first_once names (setting a b) (behind words) (front_is names words a b all len p q same are) word is

pub all_fit : (names : List (List ℕ)) (words : List (String Global)) (all : List Setting) → length words < 2 → (AreSettings names (settings_of (texts words)) ↔ AreSettings names all) → AreSettings names all
all_fit names words all short same = same.0 (subst (λ (ss : List Setting). AreSettings names ss) (sym (no_setting words short)) (no_settings_are names))
