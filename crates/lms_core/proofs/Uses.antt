-- The signers that a key's indices make.
use Rattle.std.proofs.Common.{◌≡◌, ℕ, zero, suc, ◌+◌, List, [], ◌∷◌, ◌++◌, refl, sym, ap, ◌∙◌, arith}
use Rattle.lms_core.specs.Key.{Key}
use Rattle.lms_core.specs.Use.{Use, uses_from}

pub uses_none : (k : Key) (index : ℕ) → [] ≡ uses_from k index 0
unfolding uses_from
uses_none k index = refl

-- one more signer at the end
pub uses_push : (k : Key) (index n : ℕ) → uses_from k index (n + 1) ≡ uses_from k index n ++ record { height = k.height; identifier = k.identifier; seed = k.seed; index = index + n; left = 1 } ∷ []
unfolding uses_from
uses_push k index zero =
    let e : index + 0 ≡ index = omega arith in
    rw e refl
uses_push k index (suc n) =
    let e : suc n + 1 ≡ suc (n + 1) = omega arith in
    let f : suc index + n ≡ index + suc n = omega arith in
    let ih = rw f at (uses_push k (suc index) n) in
    rw e (ap (λ l. record { height = k.height; identifier = k.identifier; seed = k.seed; index = index; left = 1 } ∷ l) ih)

pub uses_more : (k : Key) (index n : ℕ) (items more : List Use) (u : Use) → items ≡ uses_from k index n → u ≡ record { height = k.height; identifier = k.identifier; seed = k.seed; index = index + n; left = 1 } → more ≡ items ++ u ∷ [] → more ≡ uses_from k index (n + 1)
uses_more k index n items more u hi hu hm = hm ∙ rw (hu, hi) (sym (uses_push k index n))

-- the signer of the index n behind a key's next one
abbrev pub use_at : ℕ → Key → Use
use_at n k = record { height = k.height; identifier = k.identifier; seed = k.seed; index = k.next + n; left = 1 }
