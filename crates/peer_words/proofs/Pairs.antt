-- Words in pairs, and the settings that they are.
use Rattle.std.proofs.Common.{◌≡◌, ℕ, ◌-◌, ◌%◌, ◌<◌, ◌≤◌, List, [], ◌∷◌, length, get_or, take, drop, flat_map, refl, sym, ap, ◌∙◌, arith, subst, String}
use Rattle.std.proofs.lemmas.List.{length-map, take_rest}
use Rattle.std.specs.String.{string_bytes}
use Rattle.std.specs.declared.alloc.Global.{Global}
use Rattle.peer_words.specs.Options.{Setting, setting_words, AreSettings, IsSpelled}
use Rattle.peer_words.specs.Pairs.{settings_of}
use Rattle.peer_words.specs.Words.{texts}

two_front : {X : Type 0} (xs : List X) (a b : X) → 2 ≤ length xs → a ≡ get_or xs 0 a → b ≡ get_or xs 1 b → xs ≡ a ∷ b ∷ drop 2 xs
two_front [] a b len p q = absurd (omega arith)
two_front (x ∷ []) a b len p q = absurd (omega arith)
two_front (x ∷ y ∷ rest) a b len p q = cc

-- the first two of some words are the first setting, and the settings of the words behind them are the others
pub first_setting : (words : List (String Global)) (a b : String Global) → 2 ≤ length words → a ≡ get_or words 0 a → b ≡ get_or words 1 b
    → settings_of (texts words) ≡ (let first : Setting = record { name = string_bytes a; value = string_bytes b } in first) ∷ settings_of (texts (take (length words - 2) (drop 2 words)))
first_setting words a b len p q = ap (λ ws. settings_of (texts ws)) (two_front words a b len p q ∙ ap (λ ws. a ∷ b ∷ ws) (sym (take_rest words 2)))

-- fewer than two words are no setting
pub no_setting : (words : List (String Global)) → length words < 2 → settings_of (texts words) ≡ []
no_setting [] short = refl
no_setting (word ∷ []) short = refl
no_setting (a ∷ b ∷ rest) short = absurd (omega arith)

-- words of an even number are their settings one after another
pub of_pairs : (words : List (List ℕ)) → length words % 2 ≡ 0 → words ≡ flat_map setting_words (settings_of words)
of_pairs [] even = refl
of_pairs (word ∷ []) even = absurd (omega arith)
of_pairs (name ∷ value ∷ rest) even = ap (λ others. name ∷ value ∷ others) (of_pairs rest (omega arith))

-- settings one after another are an even number of words
pub pairs_are_even : (settings : List Setting) → length (flat_map setting_words settings) % 2 ≡ 0
pairs_are_even [] = refl
pairs_are_even (setting ∷ others) = omega (arith, pairs_are_even others)

-- the settings are read back
pub pairs_again : (settings : List Setting) → settings_of (flat_map setting_words settings) ≡ settings
pairs_again [] = refl
pairs_again (setting ∷ others) = ap (λ (rest : List Setting). setting ∷ rest) (pairs_again others)

-- as many texts as words
texts_even : (words : List (String Global)) → length words % 2 ≡ 0 → length (texts words) % 2 ≡ 0
texts_even words even = omega (arith, length-map words string_bytes)

pub settings_read : (names : List (List ℕ)) (words : List (String Global)) → length words % 2 ≡ 0 → AreSettings names (settings_of (texts words)) → IsSpelled names (texts words) (settings_of (texts words))
settings_read names words even fit = record { spelled = of_pairs (texts words) (texts_even words even); are_settings = fit }

pub no_pairs : (names : List (List ℕ)) (words : List (String Global)) → (length words % 2 ≡ 0 → ⊥) → (settings : List Setting) → IsSpelled names (texts words) settings → ⊥
no_pairs names words odd settings is =
    odd (omega (arith, length-map words string_bytes, ap length is.spelled, pairs_are_even settings))

pub no_settings : (names : List (List ℕ)) (words : List (String Global)) → (AreSettings names (settings_of (texts words)) → ⊥) → (settings : List Setting) → IsSpelled names (texts words) settings → ⊥
no_settings names words not_fit settings is =
    let same : settings ≡ settings_of (texts words) = sym (ap settings_of is.spelled ∙ pairs_again settings) in
    not_fit (subst (λ (all : List Setting). AreSettings names all) same is.are_settings)
