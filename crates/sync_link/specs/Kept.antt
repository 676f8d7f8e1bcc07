-- What a store sees of a log of authorised entries.
use Rattle.std.specs.Prelude.{List}
use Rattle.willow_entry.specs.Row.{RowValue}
use Rattle.willow_entry.specs.declared.row.LogRow.{LogRow}
use Rattle.auth_entry.specs.Authorised.{AuthorisedValue}
use Rattle.auth_entry.specs.Rows.{entry_row}
use Rattle.ns_state.specs.Log.{values}

-- the rows of the log
abbrev pub log_rows : List (LogRow AuthorisedValue) → List RowValue
log_rows log = values entry_row log
