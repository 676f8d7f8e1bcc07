-- What comes of the bytes of a feed that are read: how one stands then, and which rows came.
use Rattle.std.specs.Prelude.{◌≡◌, ℕ, ◌+◌, ◌<◌, ◌≤◌, ◌^◌, true, false, List, [], ◌∷◌, ◌++◌, length, map, take, drop, Option, None, Some}
use Rattle.willow_area.specs.declared.area.Area.{Area}
use Rattle.cap_codec.specs.Rows.{RawValue, row_of}
use Rattle.ns_state.specs.declared.live_log.TheConstants.{LOG_LIMIT}
use Rattle.sync_msg.specs.declared.refusal.CoreRefusal.{CoreRefusal}
use Rattle.sync_msg.specs.declared.refusal.CoreRefusal.TheVariants.{EntryOutside}
use Rattle.session_rules.specs.Messages.{ArePart}
use Rattle.session_rules.specs.Reading.{Stand, Waits, Over, Broken, Refused, read, stay}
use Rattle.row_intake.specs.Found.{IsFound, GoWrong}
use Rattle.sync_follow.specs.Feeds.{has_entry}
use Rattle.sync_follow.specs.Grammar.{FeedText, Body, Stop, FedRow, FeedEnd, feed_seen}
use Rattle.sync_follow.specs.Following.{feed_of}
use Rattle.sync_follow.specs.declared.find.Found.{Found}
use Rattle.sync_follow.specs.declared.find.Found.TheVariants as found
use Rattle.sync_follow.specs.declared.hear.Ear.{Ear}
use Rattle.sync_follow.specs.declared.place.Due.{Due}
use Rattle.sync_follow.specs.declared.place.Due.TheVariants.{Message, Nothing, Bad, Outside}
use Rattle.sync_follow.specs.declared.place.Place.{Place}

-- ---- a message in front

-- the body of a frame, or the end
abbrev pub text_of : Option (List ℕ) → FeedText
text_of (Some body) = Body body
text_of None = Stop

-- what stands at the front of the bytes, which stand behind so many rows
abbrev pub Finds : ℕ → List ℕ → Found → Type 0
Finds count bytes found.More = ArePart (feed_seen count) [] bytes
Finds count bytes found.Bad = GoWrong (feed_seen count) [] bytes
Finds count bytes (found.Row row taken) = IsFound (feed_seen count) bytes (FedRow (row_of row)) taken × (count < LOG_LIMIT)
Finds count bytes (found.Stop taken) = IsFound (feed_seen count) bytes FeedEnd taken

-- ---- how one stands

-- by what is due behind so many rows, which begins at an offset, and of which these bytes are held
abbrev pub stand_by : Due → ℕ → ℕ → List ℕ → Stand ℕ CoreRefusal
stand_by Message count at held = Waits count at held
stand_by Nothing count at held = Over
stand_by Bad count at held = Broken at
stand_by Outside count at held = Refused EntryOutside

abbrev pub stand_of : Place → ℕ → List ℕ → Stand ℕ CoreRefusal
stand_of place at held = stand_by place.due place.count at held

abbrev pub stand_in : Ear → Stand ℕ CoreRefusal
stand_in ear = stand_of ear.place ear.at ear.held.items

-- ---- rows that come

-- One who stood so stands so behind these bytes, and the rows that came stand behind those before; each is counted.
pub record Hears (area : Area) (from to : Stand ℕ CoreRefusal) (bytes : List ℕ) (count_old count_new : ℕ) (came_old came_new : List RawValue) : Type 0 where
  pub more : List RawValue
  pub came : came_new ≡ came_old ++ more
  pub count : count_new ≡ count_old + length more
  pub reads : read (feed_of area) from bytes ≡ record { stand = to; says = []; rows = map row_of more }

-- a row comes where the area includes its entry
pub record TakesInside (old new : Place) (row : RawValue) (came_old came_new : List RawValue) : Type 0 where
  pub came : came_new ≡ came_old ++ row ∷ []
  pub place : new ≡ record old { count = old.count + 1 }

pub record LeavesOutside (old new : Place) (came_old came_new : List RawValue) : Type 0 where
  pub came : came_new ≡ came_old
  pub place : new ≡ record old { due = Outside }

-- The row came, and the area includes its entry; or it is refused, and the area does not.
pub record TakesRow (area : Area) (old new : Place) (row : RawValue) (came_old came_new : List RawValue) : Type 0 where
  pub inside : has_entry area (row_of row) ≡ true → TakesInside old new row came_old came_new
  pub outside : has_entry area (row_of row) ≡ false → LeavesOutside old new came_old came_new

-- a message is taken in so many bytes, and the next begins behind them; or the bytes are all read, with no message whole
abbrev pub TakesMessage : Area → Place → Place → List ℕ → Option ℕ → List RawValue → List RawValue → Type 0
TakesMessage area old new bytes None came_old came_new =
    (at : ℕ) → Hears area (stand_of old at []) (stand_of new at bytes) bytes old.count new.count came_old came_new × (read (feed_of area) (stand_of new at []) bytes ≡ stay (stand_of new at bytes))
TakesMessage area old new bytes (Some taken) came_old came_new =
    (0 < taken) × ((taken ≤ length bytes) × ((at : ℕ) → Hears area (stand_of old at []) (stand_of new (at + taken) []) (take taken bytes) old.count new.count came_old came_new))

-- All the bytes are read: so many are of whole messages, and the others are a part of one, where one is due.
pub record TakesAll (area : Area) (old new : Place) (bytes : List ℕ) (taken : ℕ) (came_old came_new : List RawValue) : Type 0 where
  pub within : taken ≤ length bytes
  pub hears : (at : ℕ) → Hears area (stand_of old at []) (stand_of new (at + taken) (drop taken bytes)) bytes old.count new.count came_old came_new
  pub holds : (at : ℕ) → read (feed_of area) (stand_of new at []) (drop taken bytes) ≡ stay (stand_of new at (drop taken bytes))

-- the first bytes are read, and are of whole messages
pub record TakesFront (area : Area) (old new : Place) (bytes : List ℕ) (taken : ℕ) (came_old came_new : List RawValue) : Type 0 where
  pub within : taken ≤ length bytes
  pub hears : (at : ℕ) → Hears area (stand_of old at []) (stand_of new (at + taken) []) (take taken bytes) old.count new.count came_old came_new

-- ---- a piece

-- The bytes that are held are a part of the message that is due; all bytes that were read can be counted.
pub record IsHeld (area : Area) (ear : Ear) : Type 0 where
  pub holds : (at : ℕ) → read (feed_of area) (stand_of ear.place at []) ear.held.items ≡ stay (stand_of ear.place at ear.held.items)
  pub counted : ear.at + length ear.held.items < 2 ^ 64

abbrev pub HearsPiece : Area → Ear → Ear → List ℕ → List RawValue → List RawValue → Type 0
HearsPiece area old new piece came_old came_new = Hears area (stand_in old) (stand_in new) piece old.place.count new.place.count came_old came_new
