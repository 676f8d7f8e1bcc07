-- What a log holds after some rows of a stream.
use Rattle.std.specs.Prelude.{◌≡◌, ℕ, ◌+◌, ◌≤◌, Bool, true, false, List, [], ◌∷◌, ◌++◌, length, map, Option, Some, Result, Ok, Err, option_map}
use Rattle.spelling.specs.Answers.{or_else, first_some}
use Rattle.spelling.specs.declared.ending.End.{End}
use Rattle.spelling.specs.declared.ending.End.TheVariants.{Refused, NoMemory}
use Rattle.willow_entry.specs.Row.{RowValue, live, new}
use Rattle.lms_core.specs.Use.{peer_rules}
use Rattle.mc_cap.specs.declared.refusal.RowRefusal.{RowRefusal}
use Rattle.cap_codec.specs.Rows.{RawValue, row_of}
use Rattle.auth_entry.specs.Authorised.{AuthorisedValue, authorised, row_refusal}
use Rattle.auth_entry.specs.Rows.{entry_row}
use Rattle.peer_stage.specs.declared.outcome.JoinCounts.{JoinCounts}
use Rattle.mc_cap.specs.declared.refusal.RefusedRow.{RefusedRow}
use Rattle.ns_state.specs.Log.{StateValue, values}
use Rattle.ns_state.specs.declared.live_log.LogFull.{LogFull}
use Rattle.ns_state.specs.declared.live_log.TheConstants.{LOG_LIMIT}
use Rattle.peer_rows.specs.RowLogs.{HasTaken, ArePastLog}

-- the rows that are authorised, in order, as a store sees them
abbrev pub authorised_rows : List ℕ → List RawValue → List RowValue
authorised_rows namespace rows = map row_of (authorised peer_rules namespace rows)

-- the rows of some authorised entries, as a store sees them
abbrev pub stored_rows : List AuthorisedValue → List RowValue
stored_rows = map entry_row

-- the rows of a log, as a store sees them
abbrev pub kept_rows : StateValue AuthorisedValue → List RowValue
kept_rows log = values entry_row log.log

-- what is live of a log, as a store sees it
abbrev pub live_rows : StateValue AuthorisedValue → List RowValue
live_rows log = live (kept_rows log)

-- ---- refused rows

-- why row number k is not authorised, if it is not
abbrev pub numbered_refusal : List ℕ → ℕ → RawValue → Option RefusedRow
numbered_refusal namespace k row = option_map (λ refusal. record { row = k; refusal = refusal }) (row_refusal peer_rules namespace row)

-- the first row that is not authorised, with its number from 1, and why
abbrev pub first_refused : List ℕ → List RawValue → Option RefusedRow
first_refused namespace rows = first_some (numbered_refusal namespace) 1 rows

-- ---- the numbers of a join

-- the report's numbers: every row read, those stored when they came, those that a row before them
-- covered, those that are not authorised, and the first of these
pub record AreCounts (namespace : List ℕ) (rows : List RawValue) (counts : JoinCounts) : Type 0 where
  pub all : counts.rows ≡ length rows
  pub stored : counts.stored ≡ length (new (authorised_rows namespace rows))
  pub kept : counts.stored + counts.kept ≡ length (authorised_rows namespace rows)
  pub refused : length (authorised_rows namespace rows) + counts.refused ≡ length rows
  pub first : counts.first ≡ first_refused namespace rows

-- the numbers with one row more that was stored
abbrev pub with_stored : JoinCounts → JoinCounts
with_stored counts = record counts { rows = counts.rows + 1; stored = counts.stored + 1 }

-- the numbers with one row more that was covered
abbrev pub with_kept : JoinCounts → JoinCounts
with_kept counts = record counts { rows = counts.rows + 1; kept = counts.kept + 1 }

-- the numbers with one authorised row more
abbrev pub with_offered : Bool → JoinCounts → JoinCounts
with_offered true counts = with_stored counts
with_offered false counts = with_kept counts

-- the numbers with one row more that is not authorised
abbrev pub with_refused : RowRefusal → JoinCounts → JoinCounts
with_refused refusal counts = record counts {
  rows = counts.rows + 1;
  refused = counts.refused + 1;
  first = or_else counts.first (Some (record { row = counts.rows + 1; refusal = refusal }));
}

-- ---- the log

-- This is the namespace's log of the authorised ones among the rows seen, and these are the numbers.
pub record IsLogOf (namespace : List ℕ) (seen : List RawValue) (log : StateValue AuthorisedValue) (counts : JoinCounts) : Type 0 where
  pub of_namespace : log.namespace ≡ namespace
  pub taken : HasTaken entry_row (authorised_rows namespace seen) log
  pub counted : AreCounts namespace seen counts

-- every row that would be stored found room
abbrev pub FitsLog : List ℕ → List RawValue → Type 0
FitsLog namespace rows = length (new (authorised_rows namespace rows)) ≤ LOG_LIMIT

-- a row that would be stored met a full log
abbrev pub PassesLog : List ℕ → List RawValue → Type 0
PassesLog namespace rows = ArePastLog (authorised_rows namespace rows)

-- how the offer of a row ends, over the rows seen before it: the log is that of the rows with this one, or
-- the row would be stored and is one too many, which is not told as want of memory
abbrev pub Offers : List ℕ → List RawValue → RawValue → StateValue AuthorisedValue → JoinCounts → Result (Unit {0}) (End LogFull) → Type 0
Offers namespace seen row log counts (Ok u) = IsLogOf namespace (seen ++ row ∷ []) log counts
Offers namespace seen row log counts (Err (Refused e)) = PassesLog namespace (seen ++ row ∷ [])
Offers namespace seen row log counts (Err NoMemory) = PassesLog namespace (seen ++ row ∷ []) → ⊥
