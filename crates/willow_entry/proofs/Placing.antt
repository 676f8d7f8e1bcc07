-- Where `placed` puts an item among rising ones: at the partition point.
use Rattle.std.proofs.Common.{◌≡◌, ℕ, suc, ◌+◌, ◌<◌, ◌≤◌, inl, inr, Bool, true, false, cond, List, [], ◌∷◌, length, insert, get_or, sym, refl, ap, ◌∙◌, Ordering, Less, Equal, Greater, is_lt, one-add, zero, arith}
use Rattle.std.specs.List.{prefix_len}
use Rattle.std.specs.Cmp.{IsTotalOrder}
use Rattle.std.specs.Ordering.{match_ordering, ordering_reverse}
use Rattle.willow_entry.specs.Pruning.{placed}
use Rattle.willow_entry.proofs.Members.{Member}

module _ {X : Type 0} (cmp : X → X → Ordering) where
  -- how many items from the front on are below x
  abbrev pub place_of : X → List X → ℕ
  place_of x ys = prefix_len (λ y. is_lt (cmp y x)) ys

  pub placed-first : (x : X) (ys : List X) → ((y : X) → Member ys y → cmp x y ≡ Less) → placed cmp x ys ≡ x ∷ ys
  placed-first x [] below = refl
  placed-first x (y ∷ ys) below = ap (λ o. match_ordering o (x ∷ y ∷ ys) (y ∷ ys) (y ∷ placed cmp x ys)) (below y (inl refl))

  module _ (total : IsTotalOrder cmp) where
    -- an item whose place is free goes to the partition point
    pub placed-insert : (x : X) (ys : List X) → ((y : X) → Member ys y → cmp x y ≡ Equal → ⊥) → placed cmp x ys ≡ insert ys (place_of x ys) x
    placed-insert x [] free = refl
    placed-insert x (y ∷ ys) free =
        let P : Ordering → Type 0 = λ o. cmp x y ≡ o → match_ordering o (x ∷ y ∷ ys) (y ∷ ys) (y ∷ placed cmp x ys) ≡ insert (y ∷ ys) (place_of x (y ∷ ys)) x in
        let at : (b : Bool) → is_lt (cmp y x) ≡ b → insert (y ∷ ys) (cond b (1 + place_of x ys) 0) x ≡ insert (y ∷ ys) (place_of x (y ∷ ys)) x = λ b f. ap (λ t. insert (y ∷ ys) (cond t (1 + place_of x ys) 0) x) (sym f) in
        let back : cmp y x ≡ ordering_reverse (cmp x y) = total.antisymm y x in
        let each : (o : Ordering) → P o = elim [
          | Less ↦ λ e. at false (ap is_lt (back ∙ ap ordering_reverse e))
          | Equal ↦ λ e. absurd (free y (inl refl) e)
          | Greater ↦ λ e. ap (λ l. y ∷ l) (placed-insert x ys (λ z m. free z (inr m))) ∙ ap (λ n. insert (y ∷ ys) n x) (sym (one-add (place_of x ys))) ∙ at true (ap is_lt (back ∙ ap ordering_reverse e))
        ] in
        each (cmp x y) refl

-- where a test passes up to i and fails from i on, it passes just at the first i
pub prefix_len_is : {X : Type 0} (p : X → Bool) (xs : List X) (i : ℕ) → i ≤ length xs → ((k : ℕ) (d : X) → k < i → p (get_or xs k d) ≡ true) → ((d : X) → i < length xs → p (get_or xs i d) ≡ false) → prefix_len p xs ≡ i
prefix_len_is p [] i within passes fails = omega arith
prefix_len_is p (x ∷ xs) zero within passes fails = ap (λ b. cond b (1 + prefix_len p xs) 0) (fails x (omega arith))
prefix_len_is p (x ∷ xs) (suc i) within passes fails =
    ap (λ b. cond b (1 + prefix_len p xs) 0) (passes 0 x (omega arith))
    ∙ ap (λ n. 1 + n) (prefix_len_is p xs i (omega arith) (λ k d h. passes (suc k) d (omega arith)) (λ d h. fails d (omega arith)))
    ∙ one-add i
