-- One message of a session, taken from the front of bytes.
use Rattle.std.specs.Prelude.{◌≡◌, ℕ, ◌+◌, ◌<◌, ◌≤◌, List, [], length, map, take, Option, None, Some}
use Rattle.scheme_core.specs.Rules.{Rules}
use Rattle.willow_entry.specs.Row.{RowValue}
use Rattle.cap_codec.specs.Rows.{row_of}
use Rattle.sync_msg.specs.Items.{ItemValue}
use Rattle.sync_msg.specs.Reader.{moved_on}
use Rattle.sync_msg.specs.declared.role.Role.{Role}
use Rattle.sync_hello.specs.Checked.{hello_refusal}
use Rattle.sync_hello.specs.HelloForm.{HasSpelling, IsHello}
use Rattle.sync_hello.specs.declared.hello.Hello.{Hello}
use Rattle.sync_core.specs.Place.{Doing, Saying, Replying, Beginning, Hearing, HearingRows, Parting, Finished, Refused, stage_of}
use Rattle.sync_core.specs.declared.stage.Stage.TheVariants.{Reading, Writing}
use Rattle.session_rules.specs.Messages.{ArePart}
use Rattle.session_rules.specs.Reading.{Stand, read, stay}
use Rattle.sync_link.specs.Readers.{hello_seen, proof_seen, item_seen}
use Rattle.sync_link.specs.Sessions.{Party, SessionStage, SessionCause, session_of}
use Rattle.sync_link.specs.Sound.{IsSound}
use Rattle.row_intake.specs.Found.{IsFound, GoWrong}
use Rattle.sync_link.specs.Found.{is_due}
use Rattle.sync_link.specs.Hearing.{HearsItem, RefusesItem}
use Rattle.sync_link.specs.Standing.{Side, ReadsPiece, party_of}
use Rattle.sync_link.specs.Progress.{noting}
use Rattle.sync_link.specs.Awaited.{stand_of}
use Rattle.sync_link.specs.Talking.{HearsHello, HearsProof, SpeaksSome, UnsignedIf, proof_cause, side_with}
use Rattle.sync_link.specs.declared.side.awaited.Cause.TheVariants as causes
use Rattle.sync_link.specs.declared.side.awaited.Awaited.{Awaited}
use Rattle.sync_link.specs.declared.side.awaited.Awaited.TheVariants as awaited
use Rattle.sync_link.specs.declared.side.awaited.Exchange.{Exchange}
use Rattle.sync_link.specs.declared.side.lists.Lists.{Lists}
use Rattle.sync_link.specs.declared.side.take.GreetingTaken.{GreetingTaken}
use Rattle.sync_link.specs.declared.side.take.GreetingTaken.TheVariants as came
use Rattle.sync_link.specs.declared.side.take.ItemTaken.{ItemTaken}
use Rattle.sync_link.specs.declared.side.take.ItemTaken.TheVariants as items
use Rattle.sync_link.specs.declared.side.participant.Participant.{Participant}

-- ---- what there is to know of a side that waits

-- so many rows are due, by what a side of an exchange is doing
abbrev pub AreDueIn : ℕ → Doing → Type 0
AreDueIn due (Saying items asks) = due ≡ 0
AreDueIn due Replying = due ≡ 0
AreDueIn due Beginning = due ≡ 0
AreDueIn due (Hearing asks opens) = due ≡ 0
AreDueIn due (HearingRows asks left read opens) = (due ≡ left) × (0 < due)
AreDueIn due Parting = due ≡ 0
AreDueIn due Finished = due ≡ 0
AreDueIn due (Refused cause) = due ≡ 0

-- An exchange that has said what it says until it reads, and whose reader reads its version and knows how many rows are due.
pub record IsExchange {R : Type 0} (exchange : Exchange R) : Type 0 where
  pub sound : IsSound exchange.core
  pub silent : stage_of exchange.core.doing ≡ Writing → ⊥
  pub due : AreDueIn exchange.reader.due exchange.core.doing
  pub version : exchange.reader.version ≡ exchange.core.version

-- what is due of a side that is this one and has this signature
abbrev pub Fits : {R : Type 0} → Role → Option (List ℕ) → Awaited R → Type 0
Fits role made awaited.Hello = made ≡ None
Fits role made (awaited.Proof other) = HasSpelling other × (SpeaksSome other × UnsignedIf role made)
Fits role made (awaited.Items exchange) = IsExchange exchange
Fits role made (awaited.Nothing cause) = Unit {0}

-- how many bytes the reader of items took
abbrev pub read_by : {R : Type 0} → Awaited R → ℕ
read_by awaited.Hello = 0
read_by (awaited.Proof other) = 0
read_by (awaited.Items exchange) = exchange.reader.taken
read_by (awaited.Nothing cause) = 0

-- a message is due, or nothing was
abbrev pub IsOpen : {R : Type 0} → Awaited R → Type 0
IsOpen awaited.Hello = Unit {0}
IsOpen (awaited.Proof other) = Unit {0}
IsOpen (awaited.Items exchange) = stage_of exchange.core.doing ≡ Reading
IsOpen (awaited.Nothing cause) = ⊥

-- ---- what came

-- nothing is said or signed
abbrev pub Stays : {R S : Type 0} → Participant R S → Participant R S → List ℕ → List ℕ → Type 0
Stays old new out_old out_new = (new ≡ old) × (out_new ≡ out_old)

-- where a hello is due
abbrev pub ComesHello : {R S : Type 0} → Rules → Participant R S → Participant R S → List ℕ → List ℕ → List ℕ → GreetingTaken R → Type 0
ComesHello rules old new bytes out_old out_new came.More = ArePart hello_seen [] bytes × Stays old new out_old out_new
ComesHello rules old new bytes out_old out_new came.Bad = GoWrong hello_seen [] bytes × Stays old new out_old out_new
ComesHello rules old new bytes out_old out_new (came.Next due taken) =
    (other : Hello) × (IsFound hello_seen bytes other taken × (IsHello other × HearsHello old new other due out_old out_new (hello_refusal rules old.namespace other)))

-- where the proof is due of the side that said a hello
abbrev pub ComesProof : {R S : Type 0} → Rules → (R → RowValue) → Participant R S → Participant R S → Hello → List ℕ → List ℕ → List ℕ → GreetingTaken R → Type 0
ComesProof rules value old new other bytes out_old out_new came.More = ArePart proof_seen [] bytes × Stays old new out_old out_new
ComesProof rules value old new other bytes out_old out_new came.Bad = GoWrong proof_seen [] bytes × Stays old new out_old out_new
ComesProof rules value old new other bytes out_old out_new (came.Next due taken) =
    (proof : List ℕ) × (IsFound proof_seen bytes proof taken × HearsProof value old new other due out_old out_new (proof_cause rules old.role old.hello other proof))

-- An item stands in front, and is heard.
pub record TakesItem {R : Type 0} (old new : Exchange R) (bytes : List ℕ) (taken : ℕ) (out_old out_new : List ℕ) (rows_old rows_new : List RowValue) : Type 0 where
  pub item : ItemValue
  pub found : IsFound (item_seen old.reader.version (is_due old.reader.due)) bytes item taken
  pub reader : new.reader ≡ moved_on old.reader item taken
  pub hears : HearsItem old.core new.core item out_old out_new rows_old rows_new
  pub area : new.area ≡ old.area
  pub silent : stage_of new.core.doing ≡ Writing → ⊥

-- where an item is due
abbrev pub ComesItem : {R : Type 0} → Exchange R → Exchange R → List ℕ → List ℕ → List ℕ → List RowValue → List RowValue → ItemTaken → Type 0
ComesItem old new bytes out_old out_new rows_old rows_new items.More = ArePart (item_seen old.reader.version (is_due old.reader.due)) [] bytes × ((new ≡ old) × ((out_new ≡ out_old) × (rows_new ≡ rows_old)))
ComesItem old new bytes out_old out_new rows_old rows_new items.Bad = GoWrong (item_seen old.reader.version (is_due old.reader.due)) [] bytes × ((out_new ≡ out_old) × (rows_new ≡ rows_old))
ComesItem old new bytes out_old out_new rows_old rows_new (items.Taken taken) = TakesItem old new bytes taken out_old out_new rows_old rows_new
ComesItem old new bytes out_old out_new rows_old rows_new (items.Refused cause taken) =
    (item : ItemValue) × (IsFound (item_seen old.reader.version (is_due old.reader.due)) bytes item taken × RefusesItem old.core item cause out_old out_new rows_old rows_new)

-- ---- the step of a side

-- A message is taken in so many bytes, and the next begins behind them; or the bytes are all read, with no message whole.
-- The side is seen by the offset of what is due, and what is held of that.
abbrev pub Steps : (ℕ → List ℕ → Side) → (ℕ → List ℕ → Side) → ℕ → List ℕ → Option ℕ → List ℕ → List ℕ → List RowValue → List RowValue → Type 0
Steps old new at bytes None out_old out_new rows_old rows_new = ReadsPiece (old at []) (new at bytes) bytes out_old out_new rows_old rows_new
Steps old new at bytes (Some taken) out_old out_new rows_old rows_new =
    (0 < taken) × ((taken ≤ length bytes) × ReadsPiece (old at []) (new (at + taken) []) (take taken bytes) out_old out_new rows_old rows_new)

-- a side that waits for what is due
abbrev pub waiting_side : {R S : Type 0} → Rules → (R → RowValue) → Participant R S → Awaited R → ℕ → List ℕ → Side
waiting_side rules value participant due at held = side_with rules value participant (stand_of due at held)

-- the rows of lists, as a store sees them
abbrev pub listed : Lists → List RowValue
listed lists = map row_of lists.rows.items

-- the step of a side that waits for what is due: what it says then, and the rows that come, stand behind those before
abbrev pub TakesOne : {R S : Type 0} → Rules → (R → RowValue) → Participant R S → Awaited R → Participant R S → Awaited R → ℕ → List ℕ → Option ℕ → List ℕ → List ℕ → Lists → Lists → Type 0
TakesOne rules value old due new next at bytes taken out_old out_new lists_old lists_new =
    Steps (waiting_side rules value old due) (waiting_side rules value new next) at bytes taken out_old out_new (listed lists_old) (listed lists_new)

-- so many bytes were taken
abbrev pub taken_of : Option ℕ → ℕ
taken_of None = 0
taken_of (Some taken) = taken

-- what is due then, and how many bytes were taken of a message that is whole
abbrev pub due_after : {R : Type 0} → Awaited R → GreetingTaken R → Awaited R
due_after due came.More = due
due_after due came.Bad = awaited.Nothing causes.Bad
due_after due (came.Next next taken) = next

abbrev pub taken_after : {R : Type 0} → GreetingTaken R → Option ℕ
taken_after came.More = None
taken_after came.Bad = None
taken_after (came.Next next taken) = Some taken

abbrev pub due_behind : {R : Type 0} → Awaited R → ItemTaken → Awaited R
due_behind due items.More = due
due_behind due items.Bad = awaited.Nothing causes.Bad
due_behind due (items.Taken taken) = due
due_behind due (items.Refused cause taken) = awaited.Nothing (causes.Core cause)

abbrev pub taken_behind : ItemTaken → Option ℕ
taken_behind items.More = None
taken_behind items.Bad = None
taken_behind (items.Taken taken) = Some taken
taken_behind (items.Refused cause taken) = Some taken

-- nothing is said to the bytes, and no message is whole in them
abbrev pub IsSilent : Party → List RowValue → Stand SessionStage SessionCause → List ℕ → Stand SessionStage SessionCause → Type 0
IsSilent p rows from bytes to = (read (session_of p rows) from bytes ≡ stay to) × (read (noting (session_of p rows)) from bytes ≡ stay to)

-- the bytes are a part of the message that is due; where nothing is due they do not count
abbrev pub Holds : {R S : Type 0} → Rules → (R → RowValue) → Participant R S → Awaited R → List ℕ → Type 0
Holds rules value participant due bytes =
    (at : ℕ) (signature : List ℕ)
    → IsSilent (party_of (waiting_side rules value participant due at []) signature) (map value participant.snapshot) (stand_of due at []) bytes (stand_of due at bytes)
