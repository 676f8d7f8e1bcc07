-- The items of the rows at some positions.
use Rattle.std.proofs.Common.{◌≡◌, ℕ, ◌+◌, ◌<◌, ◌≤◌, Bool, List, [], ◌∷◌, ◌++◌, take, filter, length, get_or, slice_get, Some, sym, ap, ◌∙◌, add-one, arith}
use Rattle.std.proofs.Math.Seq.{take-suc}
use Rattle.std.proofs.lemmas.List.{map-append, take_all}
use Rattle.std.proofs.lemmas.Option.{slice_get-get_or, slice_get_within}
use Rattle.block_store.specs.Positions.{positions}
use Rattle.block_store.proofs.Numbering.{row_there, so_many}
use Rattle.recency_index.specs.declared.ranked.Ranked.{Ranked}
use Rattle.recency_index.specs.Recency.{ranked_of}
use Rattle.willow_entry.specs.Row.{RowValue}
use Rattle.recency_index.specs.Rows.{items_of}

module _ (test : RowValue → Bool) (rows : List RowValue) (found : List ℕ) (is : found ≡ positions test rows) where
  as_many : length found ≡ length (filter test rows)
  as_many = ap length is ∙ so_many test rows

  module _ (n : ℕ) (d : RowValue) (at : ℕ) (within : n < length found) (at_is : at ≡ get_or found n at) where
    row_at : slice_get rows at ≡ Some (get_or (filter test rows) n d)
    row_at =
        row_there test rows n at (ap (λ l. slice_get l n) (sym is) ∙ slice_get-get_or found n at within ∙ ap Some (sym at_is))
        ∙ slice_get-get_or (filter test rows) n d (omega (arith, as_many))

    pub position_within : at < length rows
    position_within = slice_get_within rows at (get_or (filter test rows) n d) row_at

    -- one more item
    pub items_more : (item : Ranked) → ((r : RowValue) → slice_get rows at ≡ Some r → item ≡ ranked_of r.entry) → items_of (take n (filter test rows)) ++ item ∷ [] ≡ items_of (take (n + 1) (filter test rows))
    items_more item item_is =
        let r = get_or (filter test rows) n d in
        ap (λ i. items_of (take n (filter test rows)) ++ i ∷ []) (item_is r row_at)
        ∙ sym (ap (λ k. items_of (take k (filter test rows))) (add-one n) ∙ ap items_of (take-suc (filter test rows) n d (omega (arith, as_many)))
        ∙ map-append (λ (s : RowValue). ranked_of s.entry) (take n (filter test rows)) (r ∷ []))

  pub items_all : (n : ℕ) → length found ≤ n → items_of (take n (filter test rows)) ≡ items_of (filter test rows)
  items_all n long = ap items_of (take_all n (filter test rows) (omega (arith, as_many)))
