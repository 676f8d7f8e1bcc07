-- What the own side of a session keeps to.
use Rattle.std.specs.Prelude.{ℕ, ◌+◌, ◌<◌, ◌≤◌, ◌^◌, List, [], length, map, take, Option, None, Some}
use Rattle.scheme_core.specs.Rules.{Rules}
use Rattle.willow_area.specs.declared.area.Area.{Area}
use Rattle.willow_entry.specs.Row.{RowValue}
use Rattle.sync_hello.specs.HelloForm.{HasSpelling}
use Rattle.sync_link.specs.Sound.{AreSound}
use Rattle.sync_link.specs.Progress.{Progress, State, CountsOn}
use Rattle.sync_link.specs.Standing.{Side}
use Rattle.sync_link.specs.Awaited.{stand_of}
use Rattle.sync_link.specs.Talking.{SpeaksSome}
use Rattle.sync_link.specs.Taking.{Fits, Holds, read_by, waiting_side}
use Rattle.sync_link.specs.declared.side.awaited.Awaited.{Awaited}
use Rattle.sync_link.specs.declared.side.awaited.Awaited.TheVariants as awaited
use Rattle.sync_link.specs.declared.side.inbox.Inbox.{Inbox}
use Rattle.sync_link.specs.declared.side.participant.Participant.{Participant}

-- how many counted items it said and read; they are forgotten once something is refused
abbrev pub sent_of : {R : Type 0} → Awaited R → ℕ
sent_of awaited.Hello = 0
sent_of (awaited.Proof other) = 0
sent_of (awaited.Items exchange) = exchange.core.sent
sent_of (awaited.Nothing cause) = 0

abbrev pub read_of : {R : Type 0} → Awaited R → ℕ
read_of awaited.Hello = 0
read_of (awaited.Proof other) = 0
read_of (awaited.Items exchange) = exchange.core.read
read_of (awaited.Nothing cause) = 0

-- the area that both may read, as long as an exchange lasts or is done
abbrev pub area_agreed : {R : Type 0} → Awaited R → Option Area
area_agreed awaited.Hello = None
area_agreed (awaited.Proof other) = None
area_agreed (awaited.Items exchange) = exchange.area
area_agreed (awaited.Nothing cause) = None

-- what contracts see of a side in memory
abbrev pub progress_with : {R S : Type 0} → Rules → (R → RowValue) → Participant R S → Awaited R → ℕ → List ℕ → Progress
progress_with rules value participant due at held = record { side = waiting_side rules value participant due at held; sent = sent_of due; read = read_of due; area = area_agreed due }

-- the same of a side by its inbox, which has what is due and is there of it
abbrev pub heard_side : {R S : Type 0} → Rules → (R → RowValue) → Participant R S → Inbox R → Side
heard_side rules value participant inbox = waiting_side rules value participant inbox.due inbox.at inbox.held.items

abbrev pub heard_progress : {R S : Type 0} → Rules → (R → RowValue) → Participant R S → Inbox R → Progress
heard_progress rules value participant inbox = progress_with rules value participant inbox.due inbox.at inbox.held.items

abbrev pub state_of : {R S : Type 0} → (R → RowValue) → Participant R S → Awaited R → ℕ → List ℕ → State
state_of value participant due at held = record {
  namespace = participant.namespace;
  role = participant.role;
  hello = participant.hello;
  interest = participant.interest;
  signature = participant.signature;
  rows = map value participant.snapshot;
  stand = stand_of due at held;
  sent = sent_of due;
  read = read_of due;
  area = area_agreed due;
}

-- it counts what comes of a message in so many bytes, behind which the next begins; or of all the bytes, with no message whole
abbrev pub CountsStep : (ℕ → List ℕ → Progress) → (ℕ → List ℕ → Progress) → ℕ → List ℕ → Option ℕ → Type 0
CountsStep old new at bytes None = CountsOn (old at []) (new at bytes) bytes
CountsStep old new at bytes (Some taken) = CountsOn (old at []) (new (at + taken) []) (take taken bytes)

-- Its rows can be said, and so can its hello, which speaks some version; what is due fits which side it is and its signature;
-- and the bytes that are held are a part of what is due. All bytes that were read can be counted.
pub record IsHeld {R S : Type 0} (rules : Rules) (value : R → RowValue) (participant : Participant R S) (due : Awaited R) (at : ℕ) (held : List ℕ) : Type 0 where
  pub own : HasSpelling participant.hello
  pub speaks : SpeaksSome participant.hello
  pub rows : AreSound (map value participant.snapshot)
  pub fits : Fits participant.role participant.signature due
  pub few : read_by due ≤ at
  pub counted : at + length held < 2 ^ 64
  pub holds : Holds rules value participant due held
