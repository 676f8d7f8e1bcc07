-- What is read of feeds, by the bytes of feeds.
use Rattle.std.specs.Prelude.{◌≡◌, true, ◌≤◌, ℕ, List, [], ◌++◌, length, All}
use Rattle.spelling.specs.Form.{AreBytes}
use Rattle.willow_area.specs.declared.area.Area.{Area}
use Rattle.willow_entry.specs.Frame.{HasFrame}
use Rattle.willow_entry.specs.Row.{RowValue}
use Rattle.cap_codec.specs.Rows.{IsRawRow}
use Rattle.ns_state.specs.declared.live_log.TheConstants.{LOG_LIMIT}
use Rattle.session_rules.specs.Reading.{Shows, Done}
use Rattle.sync_follow.specs.Feeds.{has_entry, feed_spelling}
use Rattle.sync_follow.specs.Following.{feed_of, feed_ending, rows_fed}

-- rows that a feed may have, whose entries the area includes
pub record AreFit (area : Area) (rows : List RowValue) : Type 0 where
  pub read_out : All IsRawRow rows
  pub framed : All HasFrame rows
  pub inside : All (λ row. has_entry area row ≡ true) rows
  pub few : length rows ≤ LOG_LIMIT

-- the feed of such rows is read as these
abbrev pub FeedsAreRead : Type 0
FeedsAreRead = (area : Area) (rows : List RowValue) → AreFit area rows → Shows (feed_of area) (feed_spelling rows) [] rows Done

-- Bytes that bring one to the end of a feed begin with the feed of the rows that were read.
pub record IsWhole (area : Area) (bytes : List ℕ) : Type 0 where
  pub fit : AreFit area (rows_fed area bytes)
  pub rest : List ℕ
  pub parts : bytes ≡ feed_spelling (rows_fed area bytes) ++ rest

abbrev pub WholeFeedsAreFeeds : Type 0
WholeFeedsAreFeeds = (area : Area) (bytes : List ℕ) → AreBytes bytes → feed_ending area bytes ≡ Done → IsWhole area bytes
