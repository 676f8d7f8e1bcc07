-- A walk over the rows of a box that finds those which a peer did not send.
use Rattle.std.proofs.Common.{◌≡◌, ℕ, ◌+◌, ◌<◌, Bool, true, false, not, cond, List, [], ◌∷◌, ◌++◌, map, length, take, filter, slice_get, Some, refl, inl, inr, sym, ap, ap₂, ◌∙◌, arith}
use Rattle.std.specs.List.{list_any}
use Rattle.std.proofs.lemmas.List.{map-append}
use Rattle.std.proofs.lemmas.List.Elements.{filter-append}
use Rattle.std.proofs.lemmas.Option.{slice_get_cases, slice_get_within}
use Rattle.willow_area.specs.Boxes.{Ranges}
use Rattle.willow_entry.specs.Row.{RowValue, same_row}
use Rattle.block_store.specs.InBox.{is_in, rows_in}
use Rattle.block_store.specs.Positions.{positions}
use Rattle.block_store.proofs.Numbering.{row_there, rows_there}
use Rattle.sync_msg.proofs.Writing.{take_one_more}
use Rattle.sync_core.proofs.Telling.{found_length}

-- the rows of a box stand at the positions that were found
pub rows_found : (area : Ranges) (rows : List RowValue) (found : List ℕ) → found ≡ positions (is_in area) rows → map (slice_get rows) found ≡ map (λ r. Some r) (rows_in area rows)
rows_found area rows found e = ap (map (slice_get rows)) e ∙ rows_there (is_in area) rows

-- the n-th of them stands at the n-th position
pub row_found : (area : Ranges) (rows : List RowValue) (found : List ℕ) (n at : ℕ) → found ≡ positions (is_in area) rows → slice_get found n ≡ Some at → slice_get rows at ≡ slice_get (rows_in area rows) n
row_found area rows found n at e here = row_there (is_in area) rows n at (ap (λ l. slice_get l n) (sym e) ∙ here)

-- at each position that was found a row stands
pub found_within : (area : Ranges) (rows : List RowValue) (found : List ℕ) (n at : ℕ) → found ≡ positions (is_in area) rows → slice_get found n ≡ Some at → at < length rows
found_within area rows found n at e here =
    let held = rows_in area rows in
    elim (slice_get_cases held n).1 [
      | inl w ↦ slice_get_within rows at w.0 (row_found area rows found n at e here ∙ w.2)
      | inr w ↦ absurd (omega (arith, w.0, slice_get_within found n at here, found_length rows found held (rows_found area rows found e)))
    ]

module _ (sent : List RowValue) where
  -- the row is not among those sent
  abbrev pub unsent : RowValue → Bool
  unsent row = not (list_any (same_row row) sent)

  module _ (rows : List RowValue) (at : ℕ) (row : RowValue) (there : slice_get rows at ≡ Some row) where
    one_more : (among : Bool) → map (slice_get rows) (cond among [] (at ∷ [])) ≡ map (λ r. Some r) (cond (not among) (row ∷ []) [])
    one_more true = refl
    one_more false = ap (λ o. o ∷ []) there

    -- one row of the box more is looked at
    pub left_more : (held : List RowValue) (i : ℕ) (old new : List ℕ) → slice_get held i ≡ Some row → map (slice_get rows) old ≡ map (λ r. Some r) (filter unsent (take i held))
        → new ≡ old ++ cond (list_any (same_row row) sent) [] (at ∷ []) → map (slice_get rows) new ≡ map (λ r. Some r) (filter unsent (take (i + 1) held))
    left_more held i old new here so_far is =
        let before = filter unsent (take i held) in
        let next = filter unsent (row ∷ []) in
        let more : filter unsent (take (i + 1) held) ≡ before ++ next = ap (filter unsent) (take_one_more held i row here) ∙ filter-append unsent (take i held) (row ∷ []) in
        ap (map (slice_get rows)) is
        ∙ map-append (slice_get rows) old (cond (list_any (same_row row) sent) [] (at ∷ []))
        ∙ ap₂ (λ l r. l ++ r) so_far (one_more (list_any (same_row row) sent))
        ∙ sym (map-append (λ (r : RowValue). Some r) before next)
        ∙ ap (map (λ (r : RowValue). Some r)) (sym more)
