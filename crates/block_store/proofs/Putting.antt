-- What of a list stays where a row goes in.
use Rattle.std.proofs.Common.{◌≡◌, ℕ, zero, suc, ◌-◌, ◌≤◌, List, [], ◌∷◌, ◌++◌, length, take, drop, count_by, insert, sym, ap, ◌∙◌, subst, Less, arith}
use Rattle.std.specs.List.{AllByRecursion}
use Rattle.std.proofs.lemmas.List.{take-append-drop}
use Rattle.willow_entry.specs.Pruning.{IsPlace}
use Rattle.willow_entry.specs.Row.{RowValue, AreLive, HasCovering, is_dominating, left_of, live, place_cmp}
use Rattle.block_store.specs.Blocks.{block_values}
use Rattle.block_store.specs.declared.block.Piece.{Piece}
use Rattle.block_store.proofs.Extensions.{below_stays, live-parted}
use Rattle.block_store.proofs.Pieces.{values_cut, values_cut_behind}
use Rattle.block_store.proofs.Thinning.{counted_append, none_pruned, all_left}

module _ (r : RowValue) where
  -- a part of what stays whole stays whole
  pub front_stays : (xs ys : List RowValue) → left_of r (xs ++ ys) ≡ xs ++ ys → left_of r xs ≡ xs
  front_stays xs ys e = none_pruned r xs (omega (arith, all_left r (xs ++ ys) e, counted_append (is_dominating r) xs ys))

  pub back_stays : (xs ys : List RowValue) → left_of r (xs ++ ys) ≡ xs ++ ys → left_of r ys ≡ ys
  back_stays xs ys e = none_pruned r ys (omega (arith, all_left r (xs ++ ys) e, counted_append (is_dominating r) xs ys))

  pub drop_stays : (n : ℕ) (xs : List RowValue) → left_of r xs ≡ xs → left_of r (drop n xs) ≡ drop n xs
  drop_stays n xs e = back_stays (take n xs) (drop n xs) (subst (λ l. left_of r l ≡ l) (sym (take-append-drop n xs)) e)

  -- where nothing goes, the row comes to its place
  pub live-entered : (rows : List RowValue) (n : ℕ) → IsPlace place_cmp r rows n → AreLive rows → (HasCovering rows r → ⊥) → left_of r rows ≡ rows → insert rows n r ≡ live (rows ++ r ∷ [])
  live-entered rows n place is_live uncovered stays =
      ap (λ l. take n rows ++ r ∷ l) (sym (drop_stays n rows stays)) ∙ live-parted rows r n place is_live uncovered

  all_front : (P : RowValue → Type 0) (n : ℕ) (xs ys : List RowValue) → length xs ≤ n → AllByRecursion P (take n (xs ++ ys)) → AllByRecursion P xs
  all_front P n [] ys h all = tt
  all_front P zero (x ∷ xs) ys h all = absurd (omega arith)
  all_front P (suc n) (x ∷ xs) ys h all = (all.0, all_front P n xs ys (omega arith) all.1)

  drop_past : (m : ℕ) (xs ys : List RowValue) → m ≤ length xs → left_of r (drop m (xs ++ ys)) ≡ drop m (xs ++ ys) → left_of r ys ≡ ys
  drop_past zero xs ys h e = back_stays xs ys e
  drop_past (suc m) [] ys h e = absurd (omega arith)
  drop_past (suc m) (x ∷ xs) ys h e = drop_past m xs ys (omega arith) e

  module _ {R : Type 0} {b : _} (value : R → RowValue) (pieces : List (Piece R b)) where
    -- behind the blocks that hold the run nothing goes
    pub behind_run_stays : (m to : ℕ) → m ≤ length (block_values value (take to pieces)) → left_of r (drop m (block_values value pieces)) ≡ drop m (block_values value pieces) → left_of r (block_values value (drop to pieces)) ≡ block_values value (drop to pieces)
    behind_run_stays m to h e =
        drop_past m (block_values value (take to pieces)) (block_values value (drop to pieces)) h
        (subst (λ l. left_of r (drop m l) ≡ drop m l) (values_cut value pieces to) e)

    -- nor behind later ones
    pub later_stays : (from to : ℕ) → from ≤ to → left_of r (block_values value (drop from pieces)) ≡ block_values value (drop from pieces) → left_of r (block_values value (drop to pieces)) ≡ block_values value (drop to pieces)
    later_stays from to h e =
        back_stays (block_values value (take (to - from) (drop from pieces))) (block_values value (drop to pieces))
        (subst (λ l. left_of r l ≡ l) (values_cut_behind value pieces from to h) e)

    -- all that goes is in the blocks of the run
    pub run_counted : (from to n : ℕ) → from ≤ to → IsPlace place_cmp r (block_values value pieces) n → length (block_values value (take from pieces)) ≤ n → left_of r (block_values value (drop to pieces)) ≡ block_values value (drop to pieces)
        → count_by (is_dominating r) (block_values value (take (to - from) (drop from pieces))) ≡ count_by (is_dominating r) (block_values value pieces)
    run_counted from to n h place below stays =
        let front = block_values value (take from pieces) in
        let run = block_values value (take (to - from) (drop from pieces)) in
        let back = block_values value (drop to pieces) in
        let whole : block_values value pieces ≡ front ++ (run ++ back) = values_cut value pieces from ∙ ap (λ l. front ++ l) (values_cut_behind value pieces from to h) in
        let less : AllByRecursion (λ s. place_cmp s r ≡ Less) front = all_front (λ s. place_cmp s r ≡ Less) n front (run ++ back) below (subst (λ l. AllByRecursion (λ s. place_cmp s r ≡ Less) (take n l)) whole place.below) in
        omega (
          arith,
          ap (count_by (is_dominating r)) whole,
          counted_append (is_dominating r) front (run ++ back),
          counted_append (is_dominating r) run back,
          all_left r front (below_stays r front less),
          all_left r back stays,
        )
