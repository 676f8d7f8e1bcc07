-- The machine of a log: what an event makes of it, and what is replied. What threads make of one log is a list of events,
-- in whatever order.
use Rattle.std.specs.Prelude.{ℕ, Bool, nat_lt, if◌then◌else◌, List, [], ◌∷◌, ◌++◌, map, length}
use Rattle.std.specs.List.{list_any}
use Rattle.willow_entry.specs.LogRow.{LogValue}
use Rattle.willow_entry.specs.Row.{RowValue, is_covering, live}
use Rattle.ns_state.specs.declared.live_log.TheConstants.{LOG_LIMIT}

-- a pass offers a row; a pass asks for what is live
pub data Event : Type 0 where
  Offer : LogValue → Event
  Snapshot : ℕ → Event

-- the row is stored at this position; a row of the log is it or dominates it; the log is full; what is live
pub data Reply : Type 0 where
  StoredAt : ℕ → Reply
  Covered : Reply
  Full : Reply
  Live : List RowValue → Reply

-- the rows of a log
abbrev pub rows_logged : List LogValue → List RowValue
rows_logged log = map (λ l. l.row) log

-- whether a row of the log is the row or dominates it
abbrev pub is_covered : List LogValue → RowValue → Bool
is_covered log r = list_any (λ s. is_covering s r) (rows_logged log)

-- what is replied to an event
unfoldable pub reply : List LogValue → Event → Reply
reply log (Offer l) = if is_covered log l.row then Covered else (if nat_lt (length log) LOG_LIMIT then StoredAt (length log) else Full)
reply log (Snapshot pass) = Live (live (rows_logged log))

-- the log after an event to which this is replied
abbrev pub log_after : List LogValue → Event → Reply → List LogValue
log_after log (Offer l) (StoredAt at) = log ++ l ∷ []
log_after log (Offer l) Covered = log
log_after log (Offer l) Full = log
log_after log (Offer l) (Live rows) = log
log_after log (Snapshot pass) r = log

-- the log after an event
abbrev pub next : List LogValue → Event → List LogValue
next log event = log_after log event (reply log event)

-- the log after some events, one after the other
abbrev pub run : List LogValue → List Event → List LogValue
run log [] = log
run log (e ∷ es) = run (next log e) es

-- the row that is offered, where the log is not full for it
abbrev pub taken : Event → Reply → List RowValue
taken (Offer l) (StoredAt at) = l.row ∷ []
taken (Offer l) Covered = l.row ∷ []
taken (Offer l) Full = []
taken (Offer l) (Live rows) = []
taken (Snapshot pass) r = []

-- the rows that are offered and not refused, in order
abbrev pub unrefused : List LogValue → List Event → List RowValue
unrefused log [] = []
unrefused log (e ∷ es) = taken e (reply log e) ++ unrefused (next log e) es

-- the rows that are accepted: those that the log has at first, and those that are offered and stored or covered
abbrev pub accepted : List LogValue → List Event → List RowValue
accepted log events = rows_logged log ++ unrefused log events
