-- The messages of a feed, as they are read from left to right.
use Rattle.std.specs.Prelude.{ℕ, ◌==◌, List, Option, Some, nat_lt, if◌then◌else◌}
use Rattle.std.specs.Int.{w32, to_be_bytes}
use Rattle.spelling.specs.Front.{Front, Whole, ◌>>=◌}
use Rattle.spelling.specs.Reading.{guard, byte_at, exactly_at}
use Rattle.willow_entry.specs.Row.{RowValue}
use Rattle.ns_state.specs.declared.live_log.TheConstants.{LOG_LIMIT}
use Rattle.sync_msg.specs.ItemReading.{body_at}
use Rattle.session_rules.specs.Machine.{Seen}
use Rattle.row_intake.specs.Readers.{all_seen, judged_whole, row_spelled_as}

-- what stands in a feed, by its bytes alone: the body of a frame, whatever it is, or the end
pub data FeedText : Type 0 where
  Body : List ℕ → FeedText
  Stop : FeedText

-- behind 0a a frame
unfoldable pub framed_at : List ℕ → Front FeedText
framed_at bytes = do
  body ← body_at bytes
  Whole (Body body.0) body.1

-- behind 0b the number of the rows, wrong at the first byte that differs
unfoldable pub stop_at : ℕ → List ℕ → Front FeedText
stop_at count bytes = do
  stop ← exactly_at (to_be_bytes w32 count) bytes
  Whole Stop stop.1

-- Behind so many rows: a row, as long as there may be more; or the end.
unfoldable pub behind_kind : ℕ → ℕ → List ℕ → Front FeedText
behind_kind count kind bytes = if kind == 10 then guard (nat_lt count LOG_LIMIT) (framed_at bytes) else guard (kind == 11) (stop_at count bytes)

unfoldable pub text_in_feed : ℕ → List ℕ → Front FeedText
text_in_feed count bytes = do
  kind ← byte_at bytes
  behind_kind count kind.0 kind.1

-- ---- messages

-- a row, or the end
pub data FeedMessage : Type 0 where
  FedRow : RowValue → FeedMessage
  FeedEnd : FeedMessage

-- the body of a frame is judged once all of it is there
abbrev pub message_of : FeedText → Option FeedMessage
message_of (Body body) = row_spelled_as FedRow body
message_of Stop = Some FeedEnd

-- what all of some bytes are behind so many rows
unfoldable pub feed_seen : ℕ → List ℕ → Seen FeedMessage
feed_seen count bytes = judged_whole message_of (all_seen (text_in_feed count bytes))
