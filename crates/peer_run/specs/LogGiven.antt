-- The rows with which a side begins: those of its image, and behind them those of its log file, where there is one.
use Rattle.std.specs.Prelude.{◌≡◌, ℕ, All, List, [], ◌++◌, map, Some, None}
use Rattle.std.specs.String.{string_bytes}
use Rattle.std.specs.declared.option.Option.{Option}
use Rattle.std.specs.declared.string.String.{String}
use Rattle.std.specs.declared.alloc.Global.{Global}
use Rattle.willow_outside.specs.Facts.{BayFacts}
use Rattle.willow_entry.specs.Row.{RowValue, new}
use Rattle.willow_entry.specs.declared.row.LogRow.{LogRow}
use Rattle.cap_codec.specs.Rows.{IsRaw, RawValue, row_of}
use Rattle.auth_entry.specs.Authorised.{AuthorisedValue}
use Rattle.sync_link.specs.Kept.{log_rows}
use Rattle.peer_rows.specs.Logged.{authorised_rows}
use Rattle.peer_run.specs.LogOpening.{TellsRows}

-- the rows of the log file of this name, where the bay tells what it holds; none where no file is named
abbrev pub AreFiled : Option (String Global) → List ℕ → BayFacts → List RawValue → Type 0
AreFiled None namespace bay filed = filed ≡ []
AreFiled (Some name) namespace bay filed = TellsRows (string_bytes name) namespace bay (map row_of filed)

-- The authorised rows of an image, which are all new; with a log file those of both that are new, the file's behind the image's.
abbrev pub opening_rows : Option (String Global) → List ℕ → List RawValue → List RawValue → List RowValue
opening_rows None namespace rows filed = authorised_rows namespace rows
opening_rows (Some name) namespace rows filed = new (authorised_rows namespace (rows ++ filed))

-- the log of these rows, by what the bay tells of the file; those of the file are read out, each with its token
pub record HasOpeningRows (log : Option (String Global)) (namespace : List ℕ) (rows : List RawValue) (bay : BayFacts) (opening : List (LogRow AuthorisedValue)) : Type 0 where
  pub filed : List RawValue
  pub read_out : All IsRaw filed
  pub are_filed : AreFiled log namespace bay filed
  pub are_rows : log_rows opening ≡ opening_rows log namespace rows filed
