-- How many rows a log holds.
use Rattle.std.proofs.Common.{ℕ, ◌+◌, ◌<◌, ◌≤◌, List, [], ◌∷◌, length, map, ap, arith, length-append}
use Rattle.std.specs.List.{AllByRecursion, flat_map}
use Rattle.std.proofs.lemmas.List.{length-map}
use Rattle.std.proofs.lemmas.List.Concat.{flat_map-cons}
use Rattle.willow_entry.specs.Row.{RowValue}
use Rattle.log_keeper.specs.LogFile.{open_record, IsRecord}
use Rattle.log_keeper.specs.Readings.{AreRecords}
use Rattle.log_keeper.proofs.Keeping.{frames_some, framed, body_long}

concat_few : (IsRow : RowValue → Type 0) (records : List (List RowValue)) → AllByRecursion (IsRecord IsRow) records → length (flat_map (λ r. r) records) ≤ length (flat_map open_record records)
concat_few IsRow [] all = omega arith
concat_few IsRow (r ∷ records) all =
    omega (arith, concat_few IsRow records all.1, frames_some r (framed IsRow r all.0.fit), body_long r, ap length (flat_map-cons (λ (x : List RowValue). x) r records), length-append r (flat_map (λ x. x) records), ap length (flat_map-cons open_record r records), length-append (open_record r) (flat_map open_record records))

-- no more than bytes in front of its closed gate
pub records_few : {R : Type 0} (value : R → RowValue) (IsRow : RowValue → Type 0) (from : ℕ) (bytes : List ℕ) (rows : List R) (end : ℕ) → AreRecords IsRow from bytes (map value rows) end → (length rows ≤ end) × (end < from + length bytes)
records_few value IsRow from bytes rows end a = (
  omega (arith, concat_few IsRow a.records a.fit, ap length a.rows_are, a.place, length-map rows value),
  omega (arith, a.place, ap length a.parts, length-append (flat_map open_record a.records) (a.gate ∷ a.rest)),
)
