-- Rows of a log that cover another: found by a walk, or looked at where one is guessed.
use Rattle.std.proofs.Common.{◌≡◌, ℕ, List, map, true, get_or, slice_get, Option, Some, None, IfSome, position, sym, ap, ◌∙◌}
use Rattle.std.specs.Option.{option_map}
use Rattle.std.proofs.lemmas.Option.{slice_get-map, slice_get_within, get_or_from_slice_get}
use Rattle.std.specs.declared.sync.Arc.{Arc}
use Rattle.std.proofs.lemmas.Simd.{map-map}
use Rattle.willow_entry.specs.declared.row.LogRow.{LogRow}
use Rattle.willow_entry.specs.Row.{RowValue, is_covering, HasCovering, IsCoveringAt}
use Rattle.willow_entry.proofs.Covering.{position-map, covering_found, covering_none}
use Rattle.willow_entry.proofs.RowLaws.{covering_means}
use Rattle.ns_state.specs.Log.{values, plain_row}

module _ {R A : Type 0} (value : R → RowValue) (log : List (LogRow (Arc R A))) (r : RowValue) (found : Option ℕ) (is : found ≡ position (λ (l : LogRow (Arc R A)). is_covering (value l.row.value) r) log) where
  seen : found ≡ position (λ s. is_covering s r) (values value (map plain_row log))
  seen = is ∙ sym (ap (position (λ s. is_covering s r)) (map-map (λ (l : LogRow R). value l.row) plain_row log) ∙ position-map (λ s. is_covering s r) (λ (l : LogRow (Arc R A)). value l.row.value) log)

  pub walk_found : IfSome found (λ at. IsCoveringAt (values value (map plain_row log)) at r)
  walk_found = covering_found (values value (map plain_row log)) r found seen

  pub walk_none : found ≡ None → HasCovering (values value (map plain_row log)) r → ⊥
  walk_none none = covering_none (values value (map plain_row log)) r None (sym none ∙ seen)

pub held_covers : {R A : Type 0} (value : R → RowValue) (log : List (LogRow (Arc R A))) (r : RowValue) (at : ℕ) (held : LogRow (Arc R A)) → slice_get log at ≡ Some held → is_covering (value held.row.value) r ≡ true
    → IsCoveringAt (values value (map plain_row log)) at r
held_covers {R} value log r at held there covers =
    let rows = values value (map plain_row log) in
    let found : slice_get rows at ≡ Some (value held.row.value) =
    slice_get-map (λ (l : LogRow R). value l.row) (map plain_row log) at
    ∙ ap (option_map (λ (l : LogRow R). value l.row)) (slice_get-map plain_row log at ∙ ap (option_map plain_row) there) in
    record {
      within = slice_get_within rows at (value held.row.value) found;
      covers = (covering_means (get_or rows at r) r).0 (ap (λ s. is_covering s r) (get_or_from_slice_get rows at (value held.row.value) r found) ∙ covers);
    }
