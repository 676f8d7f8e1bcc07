-- How a side of an exchange stands.
use Rattle.std.specs.Prelude.{ℕ, ◌+◌, ◌*◌, List, [], length, Option, None, Some}
use Rattle.willow_area.specs.Boxes.{Ranges}
use Rattle.willow_entry.specs.Row.{RowValue}
use Rattle.block_store.specs.InBox.{rows_in}
use Rattle.exchange_rules.specs.Answer.{turn, opened}
use Rattle.exchange_rules.specs.Exchange.{first_turn, first_asks}
use Rattle.exchange_rules.specs.Items.{bye}
use Rattle.sync_msg.specs.Items.{ItemValue}
use Rattle.sync_msg.specs.declared.role.Role.{Role}
use Rattle.sync_msg.specs.declared.role.Role.TheVariants.{Caller, Answerer}
use Rattle.sync_msg.specs.declared.refusal.CoreRefusal.{CoreRefusal}
use Rattle.sync_core.specs.SyncRules.{sync_rules}
use Rattle.sync_core.specs.Flat.{AskValue, TurnValue, turn_items}
use Rattle.sync_core.specs.declared.stage.Stage.{Stage}
use Rattle.sync_core.specs.declared.stage.Stage.TheVariants as stage
use Rattle.sync_core.specs.declared.stage.TheConstants.{SNAPSHOT_MAX}

-- What a side is doing.
pub data Doing : Type 0 where
  -- it says a turn: the items that are still to be written, and the asks that the turn opens to the peer
  Saying : List ItemValue → List AskValue → Doing
  -- it answers the peer's farewell
  Replying : Doing
  -- it has read nothing yet, and the peer begins
  Beginning : Doing
  -- it reads a turn: the asks that the peer still has to answer, and those that the turn opened so far
  Hearing : List AskValue → List AskValue → Doing
  -- so many rows are due for the first of the asks that the peer still has to answer; with the rows read for it that
  -- are remembered, and the asks that the turn opened before it
  HearingRows : List AskValue → ℕ → List RowValue → List AskValue → Doing
  -- it has said its farewell, and the peer's is due
  Parting : Doing
  -- both have said farewell
  Finished : Doing
  -- what it read was refused
  Refused : CoreRefusal → Doing

-- the version of the session, its side, its rows, the box of the area that both peers read, where there is one, the counted
-- items that it sent and read, and what it is doing
pub record Place : Type 0 where
  pub version : ℕ
  pub role : Role
  pub rows : List RowValue
  pub area : Option Ranges
  pub sent : ℕ
  pub read : ℕ
  pub doing : Doing

-- the own rows of the area
abbrev pub rows_of_area : Option Ranges → List RowValue → List RowValue
rows_of_area None rows = []
rows_of_area (Some area) rows = rows_in area rows

-- no more counted items may be sent and read, where the last of them is read
abbrev pub most_items : Option Ranges → List RowValue → ℕ
most_items area rows = 3 * (length (rows_of_area area rows) + SNAPSHOT_MAX)

-- it begins to say a turn
abbrev pub saying : ℕ → TurnValue → List AskValue → Doing
saying version t asks = Saying (turn_items version t) asks

-- it begins to say its answers to some asks
abbrev pub answering : ℕ → List RowValue → List AskValue → Doing
answering version rows asks = saying version (turn (sync_rules version) rows asks) (opened (sync_rules version) rows asks)

-- what a side begins with: the caller with the fingerprint of the area, or without one with a farewell
abbrev pub first_doing : ℕ → Role → Option Ranges → List RowValue → Doing
first_doing version Caller None rows = saying version bye []
first_doing version Caller (Some area) rows = saying version (first_turn (sync_rules version) rows area) (first_asks (sync_rules version) rows area)
first_doing version Answerer area rows = Beginning

-- the place of a side at the beginning of a session of a version
abbrev pub first_place : ℕ → Role → List RowValue → Option Ranges → Place
first_place version role rows area = record { version = version; role = role; rows = rows; area = area; sent = 0; read = 0; doing = first_doing version role area rows }

-- it writes, reads, is done, or has refused
abbrev pub stage_of : Doing → Stage
stage_of (Saying items asks) = stage.Writing
stage_of Replying = stage.Writing
stage_of Beginning = stage.Reading
stage_of (Hearing asks opens) = stage.Reading
stage_of (HearingRows asks left read opens) = stage.Reading
stage_of Parting = stage.Reading
stage_of Finished = stage.Done
stage_of (Refused cause) = stage.Refused

-- why it has refused
abbrev pub refusal_of : Doing → Option CoreRefusal
refusal_of (Saying items asks) = None
refusal_of Replying = None
refusal_of Beginning = None
refusal_of (Hearing asks opens) = None
refusal_of (HearingRows asks left read opens) = None
refusal_of Parting = None
refusal_of Finished = None
refusal_of (Refused cause) = Some cause
