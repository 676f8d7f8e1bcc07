-- Settings by their first: what is set, and whether each name stands once.
use Rattle.std.proofs.Common.{◌≡◌, ◌≢◌, ℕ, zero, suc, ◌<◌, List, [], ◌∷◌, length, get_or, true, false, refl, sym, ap, ◌∙◌, arith, subst}
use Rattle.std.specs.List.{All, Contains, list_any}
use Rattle.std.specs.Str.{bytes_eq}
use Rattle.std.proofs.lemmas.Bool.{false≢true}
use Rattle.std.proofs.lemmas.List.Elements.{All-nil, All-cons, All-head, All-tail, Contains-get_or}
use Rattle.std.proofs.lemmas.List.Folds.{Any-from_list_any, list_any-from_Any}
use Rattle.std.proofs.lemmas.List.Kept.{AllPairs-cons}
use Rattle.std.proofs.lemmas.Slice.Eq.{bytes_eq-Decides}
use Rattle.peer_words.specs.Options.{Setting, IsValue, HaveOwnNames, AreSettings, IsSet}

-- ---- what is set

-- the first setting is set
pub set_first : (setting : Setting) (others : List Setting) → IsSet (setting ∷ others) setting.name setting.value
set_first setting others = (0, omega arith, refl)

-- what is set of the others is set
pub set_behind : (setting : Setting) (others : List Setting) (name word : List ℕ) → IsSet others name word → IsSet (setting ∷ others) name word
set_behind setting others name word is = (suc is.0, omega (arith, is.1), is.2)

set_at : (setting : Setting) (others : List Setting) (name word : List ℕ) → (setting.name ≡ name → ⊥) → (k : ℕ) → k < length (setting ∷ others)
    → get_or (setting ∷ others) k (record { name = name; value = word }) ≡ record { name = name; value = word } → IsSet others name word
set_at setting others name word not zero lt is = absurd (not (ap (λ (s : Setting). s.name) is))
set_at setting others name word not (suc k) lt is = (k, omega arith, is)

-- what is set under another name than that of the first is set of the others
pub set_ahead : (setting : Setting) (others : List Setting) (name word : List ℕ) → (setting.name ≡ name → ⊥) → IsSet (setting ∷ others) name word → IsSet others name word
set_ahead setting others name word not is = set_at setting others name word not is.0 is.1 is.2

-- of nothing nothing is set
pub none_set : (name word : List ℕ) → IsSet [] name word → ⊥
none_set name word is = absurd (omega (arith, is.1))

-- ---- each name once

pub own_tail : (setting : Setting) (others : List Setting) → HaveOwnNames (setting ∷ others) → HaveOwnNames others
own_tail setting others own i j d lt within = own (suc i) (suc j) d (omega arith) (omega arith)

first_alone : (setting : Setting) (others : List Setting) → HaveOwnNames (setting ∷ others) → (word : List ℕ) → IsSet others setting.name word → ⊥
first_alone setting others own word is =
    own 0 (suc is.0) (record { name = setting.name; value = word }) (omega arith) (omega (arith, is.1)) (sym (ap (λ (s : Setting). s.name) is.2))

at_places : (settings : List Setting) → HaveOwnNames settings → (name v w : List ℕ) (i j : ℕ) → i < length settings → j < length settings
    → get_or settings i (record { name = name; value = v }) ≡ record { name = name; value = v } → get_or settings j (record { name = name; value = w }) ≡ record { name = name; value = w } → v ≡ w
at_places [] own name v w i j low high p q = absurd (omega arith)
at_places (s ∷ ss) own name v w zero zero low high p q = ap (λ (t : Setting). t.value) (sym p ∙ q)
at_places (s ∷ ss) own name v w zero (suc j) low high p q =
    absurd (own 0 (suc j) (record { name = name; value = w }) (omega arith) (omega arith) (ap (λ (t : Setting). t.name) (p) ∙ sym (ap (λ (t : Setting). t.name) q)))
at_places (s ∷ ss) own name v w (suc i) zero low high p q =
    absurd (own 0 (suc i) (record { name = name; value = v }) (omega arith) (omega arith) (ap (λ (t : Setting). t.name) (q) ∙ sym (ap (λ (t : Setting). t.name) p)))
at_places (s ∷ ss) own name v w (suc i) (suc j) low high p q = at_places ss (own_tail s ss own) name v w i j (omega arith) (omega arith) p q

-- a name is set to one word
pub one_word : (settings : List Setting) → HaveOwnNames settings → (name v w : List ℕ) → IsSet settings name v → IsSet settings name w → v ≡ w
one_word settings own name v w a b = at_places settings own name v w a.0 b.0 a.1 b.1 a.2 b.2

-- ---- settings

pub no_settings_are : (names : List (List ℕ)) → AreSettings names []
no_settings_are names = record {
  named = All-nil (λ (s : Setting). Contains names s.name);
  once = λ i j d lt within. absurd (omega arith);
  valued = All-nil (λ (s : Setting). IsValue s.value);
}

apart : (setting : Setting) (others : List Setting) → ((word : List ℕ) → IsSet others setting.name word → ⊥) → All (λ (later : Setting). setting.name ≢ later.name) others
apart setting others alone k d within same =
    let later = get_or others k d in
    alone later.value (subst (λ (n : List ℕ). IsSet others n later.value) (sym same) (Contains-get_or others k d within))

pub settings_with : (names : List (List ℕ)) (setting : Setting) (others : List Setting) → Contains names setting.name → IsValue setting.value → ((word : List ℕ) → IsSet others setting.name word → ⊥)
    → AreSettings names others → AreSettings names (setting ∷ others)
settings_with names setting others named valued alone are = record {
  named = All-cons (λ (s : Setting). Contains names s.name) setting others named are.named;
  once = AllPairs-cons (λ (one later : Setting). one.name ≢ later.name) setting others (apart setting others alone) are.once;
  valued = All-cons (λ (s : Setting). IsValue s.value) setting others valued are.valued;
}

pub settings_behind : (names : List (List ℕ)) (setting : Setting) (others : List Setting) → AreSettings names (setting ∷ others) → AreSettings names others
settings_behind names setting others are = record {
  named = All-tail (λ (s : Setting). Contains names s.name) setting others are.named;
  once = own_tail setting others are.once;
  valued = All-tail (λ (s : Setting). IsValue s.value) setting others are.valued;
}

pub first_named : (names : List (List ℕ)) (setting : Setting) (others : List Setting) → AreSettings names (setting ∷ others) → Contains names setting.name
first_named names setting others are = All-head (λ (s : Setting). Contains names s.name) setting others are.named

pub first_valued : (names : List (List ℕ)) (setting : Setting) (others : List Setting) → AreSettings names (setting ∷ others) → IsValue setting.value
first_valued names setting others are = All-head (λ (s : Setting). IsValue s.value) setting others are.valued

pub first_once : (names : List (List ℕ)) (setting : Setting) (others : List Setting) → AreSettings names (setting ∷ others) → (word : List ℕ) → IsSet others setting.name word → ⊥
first_once names setting others are = first_alone setting others are.once

-- ---- the names of a command

pub named : (names : List (List ℕ)) (name : List ℕ) → list_any (λ option. bytes_eq option name) names ≡ true → Contains names name
named names name is =
    let found = Any-from_list_any (λ option. bytes_eq option name) names is in
    subst (λ (n : List ℕ). Contains names n) ((bytes_eq-Decides found.1 name).0 found.4) (found.0, found.2, found.3)

pub not_named : (names : List (List ℕ)) (name : List ℕ) → list_any (λ option. bytes_eq option name) names ≡ false → Contains names name → ⊥
not_named names name is_not is =
    let found : list_any (λ option. bytes_eq option name) names ≡ true = list_any-from_Any (λ option. bytes_eq option name) names (is.0, name, is.1, is.2, (bytes_eq-Decides name name).1 refl) in
    false≢true (sym is_not ∙ found)
