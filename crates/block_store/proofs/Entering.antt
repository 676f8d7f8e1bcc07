-- One piece of a list changes.
use Rattle.std.proofs.Common.{◌≡◌, ℕ, zero, suc, ◌+◌, ◌≤◌, ◌<◌, List, [], ◌∷◌, ◌++◌, length, take, flat_map, insert, get_or, set, refl, sym, ap, ◌∙◌, arith}
use Rattle.std.proofs.lemmas.List.{length-append}
use Rattle.block_store.proofs.Finding.{start}

pub insert-right : {X : Type 0} (xs ys : List X) (n : ℕ) (x : X) → insert (xs ++ ys) (length xs + n) x ≡ xs ++ insert ys n x
insert-right [] ys n x = ap (λ k. insert ys k x) (omega arith)
insert-right (z ∷ xs) ys n x =
    let next : length (z ∷ xs) + n ≡ suc (length xs + n) = omega arith in
    ap (λ k. insert (z ∷ (xs ++ ys)) k x) next ∙ ap (λ l. z ∷ l) (insert-right xs ys n x)

pub insert-left : {X : Type 0} (xs ys : List X) (n : ℕ) (x : X) → n ≤ length xs → insert (xs ++ ys) n x ≡ insert xs n x ++ ys
insert-left xs ys zero x h = refl
insert-left [] ys (suc n) x h = absurd (omega arith)
insert-left (z ∷ xs) ys (suc n) x h = ap (λ l. z ∷ l) (insert-left xs ys n x (omega arith))

module _ {Y X : Type 0} (f : Y → List X) where
  -- a piece that is seen as before
  pub set_same : (ys : List Y) (i : ℕ) (y e : Y) → i < length ys → f y ≡ f (get_or ys i e) → flat_map f (set ys i y) ≡ flat_map f ys
  set_same [] i y e h same = absurd (omega arith)
  set_same (z ∷ ys) zero y e h same = ap (λ l. l ++ flat_map f ys) same
  set_same (z ∷ ys) (suc i) y e h same = ap (λ l. f z ++ l) (set_same ys i y e (omega arith) same)

  -- a piece with one item more
  pub set_insert : (ys : List Y) (i off : ℕ) (y e : Y) (x : X) → i < length ys → off ≤ length (f (get_or ys i e)) → f y ≡ insert (f (get_or ys i e)) off x → flat_map f (set ys i y) ≡ insert (flat_map f ys) (start f ys i + off) x
  set_insert [] i off y e x h within more = absurd (omega arith)
  set_insert (z ∷ ys) zero off y e x h within more =
      let here : off ≡ start f (z ∷ ys) zero + off = omega arith in
      ap (λ l. l ++ flat_map f ys) more ∙ sym (insert-left (f z) (flat_map f ys) off x within) ∙ ap (λ n. insert (f z ++ flat_map f ys) n x) here
  set_insert (z ∷ ys) (suc i) off y e x h within more =
      let sum : length (f z) + (start f ys i + off) ≡ start f (z ∷ ys) (suc i) + off = omega (arith, length-append (f z) (flat_map f (take i ys))) in
      ap (λ l. f z ++ l) (set_insert ys i off y e x (omega arith) within more)
      ∙ sym (insert-right (f z) (flat_map f ys) (start f ys i + off) x) ∙ ap (λ n. insert (f z ++ flat_map f ys) n x) sum
