-- What the rows that are found along an order by time add up to.
use Rattle.std.proofs.Common.{◌≡◌, ℕ, Bool, true, false, cond, List, [], ◌∷◌, Option, Some, slice_get, refl, sym, ap, ◌∙◌}
use Rattle.lane_sum.specs.Totals.{total_by}
use Rattle.lane_sum.specs.declared.lanes.Lanes.{Lanes}
use Rattle.willow_area.specs.Boxes.{Ranges}
use Rattle.willow_entry.specs.Row.{RowValue}
use Rattle.block_store.specs.ByTime.{IsTimeOrder, found_at, passes, written_in}
use Rattle.block_store.specs.BytesAt.{row_bytes_if, row_bytes_at}
use Rattle.block_store.specs.Fingerprint.{row_bytes}
use Rattle.block_store.specs.InBox.{is_in, rows_in}
use Rattle.block_store.specs.Positions.{positions}
use Rattle.block_store.proofs.ByTime.{same_found, total_mapped, total_same}
use Rattle.block_store.proofs.Numbering.{rows_there}

pub total_found : (area : Ranges) (rows : List RowValue) (order : List ℕ) → IsTimeOrder order rows → total_by (row_bytes_at rows) (found_at area rows (written_in area rows order)) ≡ total_by row_bytes (rows_in area rows)
total_found area rows order is =
    let some : RowValue → Option RowValue = λ row. Some row in
    total_same (row_bytes_at rows) (found_at area rows (written_in area rows order)) (positions (is_in area) rows) (same_found area rows order is)
    ∙ sym (total_mapped row_bytes_if (slice_get rows) (positions (is_in area) rows))
    ∙ ap (total_by row_bytes_if) (rows_there (is_in area) rows)
    ∙ total_mapped row_bytes_if some (rows_in area rows)

-- of one row
pub total_one : (area : Ranges) (rows : List RowValue) (at : ℕ) (row : RowValue) → slice_get rows at ≡ Some row → total_by row_bytes (rows_in area (row ∷ [])) ≡ total_by (row_bytes_at rows) (found_at area rows (at ∷ []))
total_one area rows at row e =
    let one : List ℕ × List ℕ → Lanes = λ bytes. total_by (λ (b : List ℕ × List ℕ). b) (bytes ∷ []) in
    let P : Bool → Type 0 = λ b. total_by row_bytes (cond b (row ∷ []) []) ≡ total_by (row_bytes_at rows) (cond b (at ∷ []) []) in
    let each : (b : Bool) → P b = elim [ true ↦ ap one (ap row_bytes_if (sym e)) | false ↦ refl ] in
    each (is_in area row) ∙ ap (λ b. total_by (row_bytes_at rows) (cond b (at ∷ []) [])) (ap (passes (is_in area)) (sym e))
