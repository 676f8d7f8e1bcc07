-- What became of the rows that a session was sent so far, over the pass that it began with.
use Rattle.std.specs.Prelude.{ℕ, List, length, Result, Ok, Err}
use Rattle.scheme_core.specs.Rules.{Rules}
use Rattle.cap_codec.specs.Rows.{RawValue}
use Rattle.auth_entry.specs.Authorised.{AuthorisedValue}
use Rattle.auth_entry.specs.Rows.{entry_row, authorised_rows, first_refused}
use Rattle.ns_cell.specs.Passes.{PassValue, IsPass, IsLater}
use Rattle.row_intake.specs.Tallies as numbers
use Rattle.row_intake.specs.declared.tally.Tally.{Tally}

-- The pass is the one that the session began with, later, and its own list grew by some of the authorised rows.
pub record HasGrown (rules : Rules) (namespace : List ℕ) (start : PassValue AuthorisedValue) (rows : List RawValue) (now : PassValue AuthorisedValue) : Type 0 where
  pub grew : numbers.HasGrown entry_row (authorised_rows rules namespace rows) start.own now.own
  pub later : IsLater start now

-- All the rows were offered, and these are the numbers.
pub record IsTally (rules : Rules) (namespace : List ℕ) (start : PassValue AuthorisedValue) (rows : List RawValue) (now : PassValue AuthorisedValue) (tally : Tally) : Type 0 where
  pub has_grown : HasGrown rules namespace start rows now
  pub pass : IsPass entry_row now
  pub counts : numbers.IsTally entry_row (authorised_rows rules namespace rows) (length rows) (first_refused rules namespace rows) (length has_grown.grew.grown) now.seen tally

-- all the rows were offered; or memory was wanting, behind some of them
abbrev pub TakesRows : {A E : Type 0} → Rules → List ℕ → PassValue AuthorisedValue → List RawValue → PassValue AuthorisedValue → Tally → Result A E → Type 0
TakesRows rules namespace start rows now tally (Ok a) = IsTally rules namespace start rows now tally
TakesRows rules namespace start rows now tally (Err e) = HasGrown rules namespace start rows now
