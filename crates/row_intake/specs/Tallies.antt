-- What became of the rows that came so far.
use Rattle.std.specs.Prelude.{◌≡◌, ℕ, ◌+◌, ◌<◌, ◌≤◌, List, ◌++◌, length, Option, Some, IfSome, Result, Ok, Err}
use Rattle.spelling.specs.Answers.{or_else}
use Rattle.willow_entry.specs.Row.{RowValue}
use Rattle.willow_entry.specs.declared.row.LogRow.{LogRow}
use Rattle.mc_cap.specs.declared.refusal.RefusedRow.{RefusedRow}
use Rattle.mc_cap.specs.declared.refusal.RowRefusal.{RowRefusal}
use Rattle.ns_state.specs.Log.{values}
use Rattle.ns_state.specs.declared.live_log.LogFull.{LogFull}
use Rattle.ns_state.specs.declared.state.Told.{Told}
use Rattle.ns_state.specs.declared.state.Told.TheVariants.{Stored, Kept}
use Rattle.ns_state.specs.declared.live_log.TheConstants.{LOG_LIMIT}
use Rattle.row_intake.specs.Kept.{uncovered, IsPart}
use Rattle.row_intake.specs.declared.tally.Tally.{Tally}

-- each row that came is counted once
abbrev pub IsSum : Tally → Type 0
IsSum tally = tally.stored + tally.kept + tally.missed + tally.refused ≡ tally.rows

-- the first that is not authorised is one of them
abbrev pub IsFirstOf : Tally → Type 0
IsFirstOf tally = IfSome tally.first (λ refused. refused.row ≤ tally.rows)

-- the refusal of a row behind so many, unless one before it was refused
abbrev pub first_with : RowRefusal → ℕ → Option RefusedRow → Option RefusedRow
first_with refusal count first = or_else first (Some (record { row = count + 1; refusal = refusal }))

-- the numbers with one row more that is not authorised
abbrev pub with_refused : RowRefusal → Tally → Tally
with_refused refusal tally = record tally {
  rows = tally.rows + 1;
  refused = tally.refused + 1;
  first = first_with refusal tally.rows tally.first;
}

-- the numbers with one authorised row more, by what the log answered to it
abbrev pub with_told : Result Told LogFull → Tally → Tally
with_told (Ok (Stored at)) tally = record tally { rows = tally.rows + 1; stored = tally.stored + 1 }
with_told (Ok (Kept at)) tally = record tally { rows = tally.rows + 1; kept = tally.kept + 1 }
with_told (Err full) tally = record tally { rows = tally.rows + 1; missed = tally.missed + 1 }

-- The list of one's own grew by some of the authorised rows, in their order.
pub record HasGrown {R : Type 0} (value : R → RowValue) (authorised : List RowValue) (start own : List (LogRow R)) : Type 0 where
  pub grown : List (LogRow R)
  pub own_is : own ≡ start ++ grown
  pub part : IsPart (values value grown) authorised

-- These are the numbers of so many rows, of which these are authorised and this is the first that is not; all were offered, and
-- a list of one's own grew by so many. The log covers the authorised ones, but for those for which it had no room: then it is
-- full.
pub record IsTally {R : Type 0} (value : R → RowValue) (authorised : List RowValue) (count : ℕ) (first : Option RefusedRow) (grown : ℕ) (seen : List (LogRow R)) (tally : Tally) : Type 0 where
  pub all : tally.rows ≡ count
  pub stored : tally.stored ≡ grown
  pub kept : tally.stored + tally.kept + tally.missed ≡ length authorised
  pub refused : length authorised + tally.refused ≡ count
  pub first_is : tally.first ≡ first
  pub missed : tally.missed ≡ uncovered (values value seen) authorised
  pub full : 0 < tally.missed → length seen ≡ LOG_LIMIT
