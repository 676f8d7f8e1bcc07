-- A host and a port, cut at the first colon.
use Rattle.std.proofs.Common.{◌≡◌, ◌≢◌, ℕ, ◌<◌, ◌≤◌, Bool, MatchBool, List, ◌∷◌, ◌++◌, length, get_or, Option, Some, None, MatchOption, is_some, sym, arith, subst, Bor}
use Rattle.std.proofs.lemmas.Str.Pattern.{IsSplitOnceResult, split_parts, split_after}
use Rattle.peer_words.specs.declared.limits.TheConstants.{MOST_PLACE_BYTES, MOST_PORT}
use Rattle.peer_words.specs.Values.{IsNumberWithin, IsPlace}

-- where the word is cut, for a word that is a place
cut_there : (word : List ℕ) (r : Option (Bor (List ℕ) × Bor (List ℕ))) → IsSplitOnceResult 58 word r → (is : IsPlace word)
    → MatchOption r ⊥ (λ x. (x.0.now ≡ is.parts.host) × (x.1.now ≡ is.parts.digits))
cut_there word r cut is = split_after 58 word is.parts.host is.parts.digits r cut (omega arith) is.parts.spelled is.parts.is_host

-- no colon, no place
pub no_colon : (word : List ℕ) (r : Option (Bor (List ℕ) × Bor (List ℕ))) → IsSplitOnceResult 58 word r → r ≡ None → IsPlace word → ⊥
no_colon word r cut none is =
    subst (λ (o : Option (Bor (List ℕ) × Bor (List ℕ))). MatchOption o ⊥ (λ x. (x.0.now ≡ is.parts.host) × (x.1.now ≡ is.parts.digits))) none (cut_there word r cut is)

-- the word is a place exactly where what follows its first colon is a port
pub place_read : (word : List ℕ) (r : Option (Bor (List ℕ) × Bor (List ℕ))) (x : Bor (List ℕ) × Bor (List ℕ)) (port : Option ℕ) (answer : Bool)
    → IsSplitOnceResult 58 word r → r ≡ Some x → length word ≤ MOST_PLACE_BYTES → 0 < length x.0.now
    → MatchOption port ((n : ℕ) → IsNumberWithin 1 MOST_PORT x.1.now n → ⊥) (IsNumberWithin 1 MOST_PORT x.1.now) → answer ≡ is_some port
    → MatchBool answer (IsPlace word) (IsPlace word → ⊥)
place_read word r x (Some n) answer cut found short some is_port same =
    let halves = subst (λ (o : Option (Bor (List ℕ) × Bor (List ℕ))). MatchOption o ((i : ℕ) → i < length word → get_or word i 0 ≢ 58) (λ y. (word ≡ y.0.now ++ (58 ∷ y.1.now)) × ((i : ℕ) → i < length y.0.now → get_or y.0.now i 0 ≢ 58))) found (split_parts 58 word r cut (omega arith)) in
    let place : IsPlace word = record { short = short; parts = record { host = x.0.now; port = n; digits = x.1.now; spelled = halves.0; is_host = halves.1; some_host = some; is_port = is_port } } in
    subst (λ (b : Bool). MatchBool b (IsPlace word) (IsPlace word → ⊥)) (sym same) place
place_read word r x None answer cut found short some no_port same =
    let none : IsPlace word → ⊥ = λ is.
    let halves = subst (λ (o : Option (Bor (List ℕ) × Bor (List ℕ))). MatchOption o ⊥ (λ y. (y.0.now ≡ is.parts.host) × (y.1.now ≡ is.parts.digits))) found (cut_there word r cut is) in
    no_port is.parts.port (subst (λ (digits : List ℕ). IsNumberWithin 1 MOST_PORT digits is.parts.port) (sym halves.1) is.parts.is_port) in
    subst (λ (b : Bool). MatchBool b (IsPlace word) (IsPlace word → ⊥)) (sym same) none
