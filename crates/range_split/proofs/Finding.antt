-- Rows of a box that are told by their positions, one after the other.
use Rattle.std.proofs.Common.{◌≡◌, ℕ, ◌+◌, ◌<◌, ◌≤◌, Bool, List, [], ◌∷◌, ◌++◌, length, filter, get_or, slice_get, take, Some, inl, inr, sym, ap, ◌∙◌, arith}
use Rattle.std.proofs.lemmas.List.{map-append}
use Rattle.std.proofs.lemmas.List.Sums.{length-filter, count_by-le-length}
use Rattle.std.proofs.lemmas.Option.{slice_get_cases, slice_get-get_or, slice_get_within}
use Rattle.willow_entry.specs.Row.{RowValue}
use Rattle.block_store.specs.Positions.{positions}
use Rattle.block_store.proofs.Numbering.{row_there, so_many}
use Rattle.sync_msg.proofs.Writing.{take_one_more}
use Rattle.range_split.specs.Choice.{subspaces_of}
use Rattle.range_split.specs.Least.{lesser, least_above}
use Rattle.range_split.specs.Quarters.{timestamps_of}
use Rattle.range_split.proofs.LeastKeys.{least_of-append}

-- ---- by position

module _ {X : Type 0} (test : X → Bool) (xs : List X) (found : List ℕ) (is : found ≡ positions test xs) where
  pub found_many : length found ≡ length (filter test xs)
  found_many = ap length is ∙ so_many test xs

  pub found_few : length found ≤ length xs
  found_few = omega (arith, found_many, length-filter test xs, count_by-le-length test xs)

  pub found_item : (n : ℕ) → n < length found → slice_get xs (get_or found n 0) ≡ slice_get (filter test xs) n
  found_item n h = row_there test xs n (get_or found n 0) (ap (λ l. slice_get l n) (sym is) ∙ slice_get-get_or found n 0 h)

  pub found_within : (n : ℕ) → n < length found → get_or found n 0 < length xs
  found_within n h = elim (slice_get_cases (filter test xs) n).1 [
    | inl w ↦ slice_get_within xs (get_or found n 0) w.0 (found_item n h ∙ w.2)
    | inr w ↦ absurd (omega (arith, w.0, found_many))
  ]

-- ---- one row more

module _ (rows : List RowValue) (i : ℕ) (row : RowValue) (there : slice_get rows i ≡ Some row) where
  pub times_more : timestamps_of (take (i + 1) rows) ≡ timestamps_of (take i rows) ++ row.entry.timestamp ∷ []
  times_more = ap timestamps_of (take_one_more rows i row there) ∙ map-append (λ (r : RowValue). r.entry.timestamp) (take i rows) (row ∷ [])

  pub least_more : (low : List ℕ) → least_above low (subspaces_of (take (i + 1) rows)) ≡ lesser (least_above low (subspaces_of (take i rows))) (least_above low (subspaces_of (row ∷ [])))
  least_more low = ap (λ l. least_above low (subspaces_of l)) (take_one_more rows i row there) ∙ least_of-append low (take i rows) (row ∷ [])
