-- The fingerprint of a list of rows.
use Rattle.std.specs.Prelude.{ℕ, List}
use Rattle.lane_sum.specs.Totals.{fingerprint_by}
use Rattle.willow_entry.specs.EntryForm.{entry_spelling}
use Rattle.willow_entry.specs.Row.{RowValue}

-- the two strings that a row is told by: the spelling of its entry, and its token
abbrev pub row_bytes : RowValue → List ℕ × List ℕ
row_bytes row = (entry_spelling row.entry, row.token)

-- how many rows there are, and what their leaves add up to, in one digest
abbrev pub fingerprint_of : List RowValue → List ℕ
fingerprint_of rows = fingerprint_by row_bytes rows
