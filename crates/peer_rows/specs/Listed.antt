-- The listing of the rows of an image, by what is live of their log.
use Rattle.std.specs.Prelude.{ℕ, List, ◌++◌, length, take, Option, Some, None, Result, Ok, Err}
use Rattle.std.specs.List.{flat_map}
use Rattle.std.specs.Borrow.{Bor}
use Rattle.willow_outside.specs.Facts.{SourceFacts}
use Rattle.willow_entry.specs.Row.{RowValue}
use Rattle.auth_entry.specs.Authorised.{AuthorisedValue}
use Rattle.auth_entry.specs.Rows.{entry_row}
use Rattle.recency_index.specs.Rows.{newest_rows}
use Rattle.peer_listing.specs.Listing.{listing_head, listing_line}
use Rattle.peer_stage.specs.declared.outcome.JoinCounts.{JoinCounts}
use Rattle.peer_stage.specs.declared.outcome.ShowCounts.{ShowCounts}
use Rattle.peer_stage.specs.declared.outcome.Stop.{Stop}
use Rattle.peer_rows.specs.Logged.{live_rows}
use Rattle.peer_rows.specs.Show.{ShowsInput}
use Rattle.peer_rows.specs.declared.log.Log.{Log}

-- the line of an authorised row that is lent
abbrev pub row_line : Bor AuthorisedValue → List ℕ
row_line row = listing_line (entry_row row.now).entry

-- the listing of rows in order
abbrev pub rows_listing : List ℕ → List RowValue → List ℕ
rows_listing n rows = listing_head n (length rows) ++ flat_map (λ r. listing_line r.entry) rows

-- the rows that are asked for: the first so many by recency, or all where there are fewer; or all in order
abbrev pub asked_rows : Option ℕ → List RowValue → List RowValue
asked_rows None rows = rows
asked_rows (Some most) rows = take most (newest_rows rows)

-- their listing
abbrev pub log_listing : Option ℕ → List ℕ → List RowValue → List ℕ
log_listing asked n rows = rows_listing n (asked_rows asked rows)

-- the numbers of a listing of rows that were offered to a log
abbrev pub show_counts : JoinCounts → ShowCounts
show_counts counts = record { rows = counts.rows; refused = counts.refused; first = counts.first }

-- what is shown of a log: the listing that is asked for, and the numbers
abbrev pub shown : Option ℕ → Log → List ℕ × ShowCounts
shown asked log = (log_listing asked log.kept.namespace (live_rows log.kept), show_counts log.counts)

-- how the reading and listing of an input ends, where the log of its rows is given in place of what is shown of it
abbrev pub ShowsInputLog : Option ℕ → SourceFacts → SourceFacts → Result Log Stop → Type 0
ShowsInputLog asked i i' (Ok log) = ShowsInput asked i i' (Ok (shown asked log))
ShowsInputLog asked i i' (Err e) = ShowsInput asked i i' (Err e)
