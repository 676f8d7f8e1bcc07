-- What a store sees of rows that came: those that are authorised, and the first that is not.
use Rattle.std.specs.Prelude.{ℕ, List, map, Option, option_map}
use Rattle.spelling.specs.Answers.{first_some}
use Rattle.scheme_core.specs.Rules.{Rules}
use Rattle.willow_entry.specs.Row.{RowValue}
use Rattle.mc_cap.specs.declared.refusal.RefusedRow.{RefusedRow}
use Rattle.cap_codec.specs.Rows.{RawValue, row_of}
use Rattle.auth_entry.specs.Authorised.{AuthorisedValue, authorised, row_refusal}

-- what a store sees of an authorised entry
abbrev pub entry_row : AuthorisedValue → RowValue
entry_row entry = row_of entry.row

-- the rows that are authorised in the namespace, in order
abbrev pub authorised_rows : Rules → List ℕ → List RawValue → List RowValue
authorised_rows rules namespace rows = map row_of (authorised rules namespace rows)

-- why row number k is not authorised, if it is not
abbrev pub numbered_refusal : Rules → List ℕ → ℕ → RawValue → Option RefusedRow
numbered_refusal rules namespace k row = option_map (λ refusal. record { row = k; refusal = refusal }) (row_refusal rules namespace row)

-- the first row that is not authorised, with its number from 1, and why
abbrev pub first_refused : Rules → List ℕ → List RawValue → Option RefusedRow
first_refused rules namespace rows = first_some (numbered_refusal rules namespace) 1 rows
