-- A row goes to its place, and of the rows behind it those before a block go that it dominates.
use Rattle.std.proofs.Common.{◌≡◌, ℕ, zero, suc, ◌+◌, ◌-◌, ◌≤◌, ◌<◌, not, List, [], ◌∷◌, ◌++◌, length, take, drop, flat_map, get_or, append_assoc, sym, ap, ap₂, ◌∙◌, arith}
use Rattle.std.proofs.lemmas.List.{length-append, take-append-le, drop-append-le}
use Rattle.std.proofs.lemmas.List.Elements.{filter-append}
use Rattle.willow_entry.specs.Pruning.{IsPlace}
use Rattle.willow_entry.specs.Row.{RowValue, AreLive, HasCovering, is_dominating, left_of, live, place_cmp}
use Rattle.block_store.specs.Entered.{entered}
use Rattle.block_store.proofs.Extensions.{live-parted}
use Rattle.block_store.proofs.Finding.{start}

take_behind : {X : Type 0} (xs ys : List X) (n : ℕ) → take (length xs + n) (xs ++ ys) ≡ xs ++ take n ys
take_behind [] ys n = ap (λ k. take k ys) (omega arith)
take_behind (x ∷ xs) ys n =
    let next : length (x ∷ xs) + n ≡ suc (length xs + n) = omega arith in
    ap (λ k. take k (x ∷ (xs ++ ys))) next ∙ ap (λ l. x ∷ l) (take_behind xs ys n)

drop_behind : {X : Type 0} (xs ys : List X) (n : ℕ) → drop (length xs + n) (xs ++ ys) ≡ drop n ys
drop_behind [] ys n = ap (λ k. drop k ys) (omega arith)
drop_behind (x ∷ xs) ys n =
    let next : length (x ∷ xs) + n ≡ suc (length xs + n) = omega arith in
    ap (λ k. drop k (x ∷ (xs ++ ys))) next ∙ drop_behind xs ys n

module _ {Y X : Type 0} (f : Y → List X) where
  -- the items before a place in a piece
  pub take_upto : (ys : List Y) (b row : ℕ) (e : Y) → b < length ys → row ≤ length (f (get_or ys b e)) → take (start f ys b + row) (flat_map f ys) ≡ flat_map f (take b ys) ++ take row (f (get_or ys b e))
  take_upto [] b row e h within = absurd (omega arith)
  take_upto (y ∷ ys) zero row e h within =
      let here : start f (y ∷ ys) zero + row ≡ row = omega arith in
      ap (λ n. take n (f y ++ flat_map f ys)) here ∙ take-append-le row (f y) (flat_map f ys) within
  take_upto (y ∷ ys) (suc b) row e h within =
      let sum : start f (y ∷ ys) (suc b) + row ≡ length (f y) + (start f ys b + row) = omega (arith, length-append (f y) (flat_map f (take b ys))) in
      ap (λ n. take n (f y ++ flat_map f ys)) sum ∙ take_behind (f y) (flat_map f ys) (start f ys b + row)
      ∙ ap (λ l. f y ++ l) (take_upto ys b row e (omega arith) within)
      ∙ sym (append_assoc (f y) (flat_map f (take b ys)) (take row (f (get_or ys b e))))

  -- the items from it on, up to a later piece
  pub drop_from : (ys : List Y) (b row to : ℕ) (e : Y) → b < length ys → b < to → row ≤ length (f (get_or ys b e)) → drop (start f ys b + row) (flat_map f (take to ys)) ≡ drop row (f (get_or ys b e)) ++ flat_map f (take (to - (b + 1)) (drop (b + 1) ys))
  drop_from [] b row to e h lt within = absurd (omega arith)
  drop_from (y ∷ ys) b row zero e h lt within = absurd (omega arith)
  drop_from (y ∷ ys) zero row (suc to) e h lt within =
      let here : start f (y ∷ ys) zero + row ≡ row = omega arith in
      let one : zero + 1 ≡ suc zero = omega arith in
      let left : to ≡ suc to - (zero + 1) = omega arith in
      ap (λ n. drop n (f y ++ flat_map f (take to ys))) here ∙ drop-append-le row (f y) (flat_map f (take to ys)) within
      ∙ ap₂ (λ m n. drop row (f y) ++ flat_map f (take m (drop n (y ∷ ys)))) left (sym one)
  drop_from (y ∷ ys) (suc b) row (suc to) e h lt within =
      let sum : start f (y ∷ ys) (suc b) + row ≡ length (f y) + (start f ys b + row) = omega (arith, length-append (f y) (flat_map f (take b ys))) in
      let next : suc b + 1 ≡ suc (b + 1) = omega arith in
      let left : to - (b + 1) ≡ suc to - (suc b + 1) = omega arith in
      ap (λ n. drop n (f y ++ flat_map f (take to ys))) sum ∙ drop_behind (f y) (flat_map f (take to ys)) (start f ys b + row)
      ∙ drop_from ys b row to e (omega arith) (omega arith) within
      ∙ ap₂ (λ m n. drop row (f (get_or ys b e)) ++ flat_map f (take m (drop n (y ∷ ys)))) left (sym next)

-- lists that are put together step by step
pub put_together : {X : Type 0} (before begun upto front left thinned behind entered thin ended rest : List X) (r : X) → before ++ begun ≡ upto → entered ≡ begun ++ (front ++ r ∷ left) → thin ≡ entered ++ thinned → ended ++ rest ≡ thin ++ behind
    → before ++ (ended ++ rest) ≡ ((upto ++ front) ++ r ∷ (left ++ thinned)) ++ behind
put_together before begun upto front left thinned behind entered thin ended rest r e0 e1 e2 e3 =
    ap (λ l. before ++ l) (e3 ∙ ap (λ l. l ++ behind) (e2 ∙ ap (λ l. l ++ thinned) e1))
    ∙ regroup
    ∙ ap (λ l. ((l ++ front) ++ r ∷ (left ++ thinned)) ++ behind) e0
  where
    regroup : before ++ (((begun ++ (front ++ r ∷ left)) ++ thinned) ++ behind) ≡ (((before ++ begun) ++ front) ++ r ∷ (left ++ thinned)) ++ behind
    regroup = simp append_assoc

-- what is put together so is live
pub live_renewed : (r : RowValue) (before behind : List RowValue) (n : ℕ) → n ≤ length before → IsPlace place_cmp r (before ++ behind) n → left_of r behind ≡ behind → AreLive (before ++ behind) → (HasCovering (before ++ behind) r → ⊥)
    → entered r n before ++ behind ≡ live ((before ++ behind) ++ r ∷ [])
live_renewed r before behind n h place stays is_live uncovered =
    let rows = before ++ behind in
    let parted : left_of r (drop n rows) ≡ left_of r (drop n before) ++ behind =
    ap (left_of r) (drop-append-le n before behind h) ∙ filter-append (λ s. not (is_dominating r s)) (drop n before) behind ∙ ap (λ l. left_of r (drop n before) ++ l) stays in
    append_assoc (take n before) (r ∷ left_of r (drop n before)) behind
    ∙ ap₂ (λ l m. l ++ r ∷ m) (sym (take-append-le n before behind h)) (sym parted) ∙ live-parted rows r n place is_live uncovered
