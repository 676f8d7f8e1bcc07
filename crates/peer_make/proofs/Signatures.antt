-- Signers of one index, and the signatures of open keys.
use Rattle.std.proofs.Common.{◌≡◌, ℕ, ◌==◌, bytes_eq, true, false, Bool, ◌&&◌, List, [], ◌∷◌, ◌++◌, length, slice_index, sym, ap, ◌∙◌}
use Rattle.std.proofs.lemmas.Slice.Eq.{bytes_eq-Decides}
use Rattle.scheme_core.specs.Open.{open_accepts, open_signature}
use Rattle.willow_outside.specs.Facts.{ShelfFacts}
use Rattle.lms_core.specs.Use.{Use, uses_from}
use Rattle.peer_make.specs.Signing.{IsUsed, AreUsed}

second_true : (a b : Bool) → a && b ≡ true → b ≡ true
second_true true b e = e
second_true false b e = cc

-- what an open key accepts is its one signature
pub open_is : (key message signature : List ℕ) → open_accepts key message signature ≡ true → signature ≡ open_signature key message
unfolding open_accepts
open_is key message signature accepted =
    (bytes_eq-Decides signature (open_signature key message)).0 (second_true (slice_index key 0 == 0) (bytes_eq signature (open_signature key message)) accepted)

no_two : (rest : List Use) (s : Use) → (rest ++ s ∷ []) ≡ [] → ⊥
no_two [] s e = cc
no_two (r ∷ rest) s e = cc

-- a list of one that ends in a value is just that value
last_of_one : (rest : List Use) (s x : Use) → (rest ++ s ∷ []) ≡ x ∷ [] → (s ∷ []) ≡ x ∷ []
last_of_one [] s x e = e
last_of_one (r ∷ rest) s x e = let tail : (rest ++ s ∷ []) ≡ [] = cc in absurd (no_two rest s tail)

-- the one signer that was handed out
pub is_used : (name : List ℕ) (old new : ShelfFacts) (signers rest : List Use) (s : Use) → AreUsed name 1 old new signers → signers ≡ rest ++ s ∷ [] → IsUsed name old new s
unfolding uses_from
is_used name old new signers rest s h e =
    let out = h.handed_out in
    record { key = h.key; handed_out = record { held = out.held; room = out.room; signers_are = last_of_one rest s _ (sym e ∙ out.signers_are); put = out.put } }

-- a key hands out one
pub hands_one : (name : List ℕ) (old new : ShelfFacts) (signers : List Use) → AreUsed name 1 old new signers → length signers ≡ 1
unfolding uses_from
hands_one name old new signers h = ap length h.handed_out.signers_are

same_left : (s x : Use) → (s ∷ []) ≡ x ∷ [] → s.left ≡ x.left
same_left s x e = cc

-- the signer has not signed
pub unused : (name : List ℕ) (old new : ShelfFacts) (s : Use) → IsUsed name old new s → s.left ≡ 1
unfolding uses_from
unused name old new s u = same_left s _ u.handed_out.signers_are
