-- The rows of a box, one after the other, by their positions.
use Rattle.std.proofs.Common.{◌≡◌, ℕ, ◌+◌, ◌≤◌, Bool, List, [], ◌∷◌, ◌++◌, length, map, take, filter, None, Some, sym, ap, ◌∙◌, arith, add-one}
use Rattle.std.specs.Prelude.{slice_get}
use Rattle.std.specs.declared.sync.Arc.{Arc}
use Rattle.std.specs.Option.{option_map}
use Rattle.std.proofs.lemmas.Option.{slice_get-map, slice_get_past, slice_get_within}
use Rattle.std.proofs.lemmas.List.{length-map}
use Rattle.willow_entry.specs.Row.{RowValue}
use Rattle.block_store.specs.Positions.{positions}
use Rattle.block_store.proofs.Numbering.{row_there, so_many}
use Rattle.block_store.specs.Held.{values_of}
use Rattle.area_interest.proofs.Lists.{take_at, none_at, few_filter}

module _ {R : Type 0} (value : R → RowValue) (test : RowValue → Bool) (rows : List R) (found : List ℕ) (is : found ≡ positions test (map value rows)) (i at : ℕ) (here : slice_get found i ≡ Some at) where
  here_too : slice_get (positions test (map value rows)) i ≡ Some at
  here_too = ap (λ l. slice_get l i) (sym is) ∙ here

  is_there : slice_get (map value rows) at ≡ slice_get (filter test (map value rows)) i
  is_there = row_there test (map value rows) i at here_too

  -- a position is one of a row
  pub not_past : length rows ≤ at → ⊥
  not_past past =
      let nothing : slice_get (filter test (map value rows)) i ≡ None = sym is_there ∙ slice_get_past (map value rows) at (omega (arith, length-map rows value, past)) in
      omega (arith, none_at (filter test (map value rows)) i nothing, slice_get_within (positions test (map value rows)) i at here_too, so_many test (map value rows))

  -- the row there is the next of those that pass
  pub one_more : (row : R) → slice_get rows at ≡ Some row → take (i + 1) (filter test (map value rows)) ≡ take i (filter test (map value rows)) ++ value row ∷ []
  one_more row e =
      ap (λ n. take n (filter test (map value rows))) (add-one i)
      ∙ take_at (filter test (map value rows)) i (value row) (sym is_there ∙ slice_get-map value rows at ∙ ap (option_map value) e)

-- there are no more than all rows
pub few_inside : {R A : Type 0} (value : R → RowValue) (test : RowValue → Bool) (rows : List R) (found : List (Arc R A)) → values_of value found ≡ filter test (map value rows) → length found ≤ length rows
few_inside value test rows found is = omega (arith, sym (length-map found (λ a. value a.value)), ap length is, few_filter test (map value rows), length-map rows value)
