-- A feed that is read, as a function of its bytes.
use Rattle.std.specs.Prelude.{◌≡◌, ℕ, ◌+◌, List, [], ◌∷◌, Result, Ok, Err, if◌then◌else◌}
use Rattle.willow_area.specs.declared.area.Area.{Area}
use Rattle.willow_entry.specs.Row.{RowValue}
use Rattle.sync_msg.specs.declared.refusal.CoreRefusal.{CoreRefusal}
use Rattle.sync_msg.specs.declared.refusal.CoreRefusal.TheVariants.{EntryOutside}
use Rattle.session_end.specs.declared.end.SessionEnd.{SessionEnd}
use Rattle.session_end.specs.declared.end.SessionEnd.TheVariants.{LinkRead, LinkWrite, ClosedEarly, BadMessage, Hello, Core, SignFault, LogFull, NoMemory}
use Rattle.session_rules.specs.Machine.{Step, Goes, Ends, Refuses, Machine}
use Rattle.session_rules.specs.Reading as reading
use Rattle.sync_follow.specs.Feeds.{has_entry}
use Rattle.sync_follow.specs.Grammar.{FeedMessage, FedRow, FeedEnd, feed_seen}

-- a row outside of the area is refused; the rows before it were taken
abbrev pub feed_step : Area → ℕ → FeedMessage → Step ℕ FeedMessage RowValue CoreRefusal
feed_step area count (FedRow r) = if has_entry area r then Goes (count + 1) [] (r ∷ []) else Refuses EntryOutside
feed_step area count FeedEnd = Ends [] []

-- The stage is the number of rows so far. It says nothing. Its laws of pieces, of growing and of ends are those of every machine
-- that reads messages.
abbrev pub feed_of : Area → Machine ℕ FeedMessage FeedMessage RowValue CoreRefusal
feed_of area = record { opening = []; first = 0; sees = feed_seen; step = feed_step area; spelling = λ m. [] }

-- the rows inside of the area that stand in some bytes of a feed, up to its end or to what is none
abbrev pub rows_fed : Area → List ℕ → List RowValue
rows_fed area bytes = reading.got (feed_of area) bytes

abbrev pub feed_ending : Area → List ℕ → reading.Ending CoreRefusal
feed_ending area bytes = reading.ending (feed_of area) bytes

-- How one who follows ends to the bytes that were read, of which there are so many. Nothing is written, nothing greeted and
-- nothing signed.
abbrev pub EndsFeed : {A : Type 0} → reading.Ending CoreRefusal → ℕ → Result A SessionEnd → Type 0
EndsFeed end read (Ok report) = end ≡ reading.Done
EndsFeed end read (Err LinkRead) = end ≡ reading.More
EndsFeed end read (Err LinkWrite) = ⊥
EndsFeed end read (Err (ClosedEarly at)) = (end ≡ reading.More) × (at ≡ read)
EndsFeed end read (Err (BadMessage at)) = end ≡ reading.BadMessage at
EndsFeed end read (Err (Hello cause)) = ⊥
EndsFeed end read (Err (Core cause)) = end ≡ reading.Refusal cause
EndsFeed end read (Err SignFault) = ⊥
EndsFeed end read (Err (LogFull missed)) = end ≡ reading.Done
EndsFeed end read (Err NoMemory) = Unit {0}
