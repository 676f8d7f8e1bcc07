-- How far a side of a session has come: what contracts see of it, what it counts, and what it is behind all that it read.
use Rattle.std.specs.Prelude.{◌≡◌, ◌⊎◌, ℕ, ◌+◌, List, [], ◌∷◌, Option, None}
use Rattle.scheme_core.specs.Rules.{Rules}
use Rattle.willow_area.specs.declared.area.Area.{Area}
use Rattle.willow_entry.specs.Row.{RowValue}
use Rattle.area_interest.specs.declared.interest.Interest.{Interest}
use Rattle.sync_msg.specs.declared.role.Role.{Role}
use Rattle.sync_msg.specs.declared.role.Role.TheVariants.{Caller, Answerer}
use Rattle.sync_hello.specs.HelloForm.{hello_spelling}
use Rattle.sync_hello.specs.declared.hello.Hello.{Hello}
use Rattle.sync_core.specs.Steps.{count_one}
use Rattle.session_rules.specs.Machine.{Step, Goes, Ends, Refuses, Machine}
use Rattle.session_rules.specs.Reading.{Stand, Waits, Over, Broken, Refused, Ending, start}
use Rattle.session_rules.specs.Reading as reading
use Rattle.session_rules.specs.Greeting.{HasHello}
use Rattle.session_rules.specs.Session.{Opening, Proving, Talking, Hello as HelloMessage, Proof, Item, InGreeting, InTalk}
use Rattle.sync_link.specs.Greetings.{greeting}
use Rattle.sync_link.specs.Sessions.{Party, SessionStage, SessionMessage, SessionCause, session_of, said, out, got}
use Rattle.sync_link.specs.Signing.{SignsFor, anyone}
use Rattle.sync_link.specs.Standing.{Side, MayBe, party_of}
use Rattle.sync_link.specs.Talking.{area_between}
use Rattle.sync_link.specs.declared.side.standing.Standing.{Standing}
use Rattle.sync_link.specs.declared.side.standing.Standing.TheVariants as standings

-- ---- what contracts see

-- A side, with how many counted items it said and read, and the area that both may read, once an exchange has begun.
pub record Progress : Type 0 where
  pub side : Side
  pub sent : ℕ
  pub read : ℕ
  pub area : Option Area

-- The same as a value in memory: all but the rules of the scheme, which its type tells.
pub record State : Type 0 where
  pub namespace : List ℕ
  pub role : Role
  pub hello : Hello
  pub interest : Interest
  pub signature : Option (List ℕ)
  pub rows : List RowValue
  pub stand : Stand SessionStage SessionCause
  pub sent : ℕ
  pub read : ℕ
  pub area : Option Area

abbrev pub progress_in : Rules → State → Progress
progress_in rules state = record {
  side = record { rules = rules; namespace = state.namespace; role = state.role; hello = state.hello; interest = state.interest; signature = state.signature; rows = state.rows; stand = state.stand };
  sent = state.sent;
  read = state.read;
  area = state.area;
}

-- a side that read nothing yet
abbrev pub begun : List ℕ → Role → Hello → Interest → List RowValue → State
begun namespace role hello limits rows = record { namespace = namespace; role = role; hello = hello; interest = limits; signature = None; rows = rows; stand = Waits Opening 0 []; sent = 0; read = 0; area = None }

-- the bytes that a side writes before it reads: the caller's hello
abbrev pub first_bytes : Role → Hello → List ℕ
first_bytes Caller hello = hello_spelling hello
first_bytes Answerer hello = []

-- how a session stands, to those outside
abbrev pub standing_as : Ending SessionCause → Standing
standing_as reading.Done = standings.Done
standing_as reading.More = standings.More
standing_as (reading.BadMessage at) = standings.BadMessage at
standing_as (reading.Refusal (InGreeting cause)) = standings.Hello cause
standing_as (reading.Refusal (InTalk cause)) = standings.Core cause

-- ---- counted items

-- the message, in place of the rows that are taken with it
abbrev pub noted : {S M O R E : Type 0} → M → Step S O R E → Step S O M E
noted m (Goes s says rows) = Goes s says (m ∷ [])
noted m (Ends says rows) = Ends says (m ∷ [])
noted m (Refuses e) = Refuses e

-- the same machine, that takes the messages which it reads in place of rows
abbrev pub noting : {S M O R E : Type 0} → Machine S M O R E → Machine S M O M E
noting a = record { opening = a.opening; first = a.first; sees = a.sees; step = λ s m. noted m (a.step s m); spelling = a.spelling }

-- the messages that a session reads, but for one that is refused
abbrev pub heard : Party → List RowValue → List ℕ → List SessionMessage
heard p rows bytes = reading.got (noting (session_of p rows)) bytes

-- how many of some messages are counted items
abbrev pub counted : List SessionMessage → ℕ
counted [] = 0
counted (HelloMessage hello ∷ messages) = counted messages
counted (Proof proof ∷ messages) = counted messages
counted (Item item ∷ messages) = count_one item + counted messages

-- nothing was refused
abbrev pub GoesWell : Stand SessionStage SessionCause → Type 0
GoesWell (Waits s at held) = Unit {0}
GoesWell Over = Unit {0}
GoesWell (Broken at) = ⊥
GoesWell (Refused cause) = ⊥

-- ---- the area that both may read

-- the exchange has begun, and nothing was refused
abbrev pub TalksOn : Stand SessionStage SessionCause → Type 0
TalksOn (Waits Opening at held) = ⊥
TalksOn (Waits (Proving hello) at held) = ⊥
TalksOn (Waits (Talking place) at held) = Unit {0}
TalksOn Over = Unit {0}
TalksOn (Broken at) = ⊥
TalksOn (Refused cause) = ⊥

-- in the piece the side comes to wait for the proof of one, and this is the area that both may read
abbrev pub MeetsIn : Side → List ℕ → List ℕ → Option Area → Type 0
MeetsIn side piece signature area = (met : SignsFor anyone side piece signature) × (area ≡ area_between side.role side.hello met.other)

-- the area stays where the side talks on, and is that of one that it meets in the piece where it begins to talk
abbrev pub KeepsArea : Progress → Progress → List ℕ → List ℕ → Type 0
KeepsArea old new piece signature = TalksOn new.side.stand → (TalksOn old.side.stand × (new.area ≡ old.area)) ⊎ MeetsIn old.side piece signature new.area

-- The area is that which a side and the one whose hello passes in front of the bytes may read, if there is one.
pub record AgreesOn (p : Party) (bytes : List ℕ) (area : Option Area) : Type 0 where
  pub other : Hello
  pub stands : HasHello (greeting p.rules p.namespace) bytes other
  pub is : area ≡ area_between p.role p.hello other

-- ---- a piece

-- A side that reads a piece counts the items that it says and those that it reads, unless one is refused, and knows the area that
-- both may read (`agreed`).
pub record Counts (p : Party) (old new : Progress) (piece : List ℕ) : Type 0 where
  pub sent : new.sent ≡ old.sent + counted (reading.read (session_of p old.side.rows) old.side.stand piece).says
  pub read : new.read ≡ old.read + counted (reading.read (noting (session_of p old.side.rows)) old.side.stand piece).rows
  pub agreed : KeepsArea old new piece p.signature

abbrev pub CountsOn : Progress → Progress → List ℕ → Type 0
CountsOn old new piece = GoesWell new.side.stand → (signature : List ℕ) → MayBe new.side.signature signature → Counts (party_of old.side signature) old new piece

-- ---- all that was read

-- A side that is this party, with these rows, and read just these bytes since it began: how it stands, all that it wrote and
-- the rows that it took are those of its session; so are its counts, unless something was refused, and the area that both may
-- read, once an exchange has begun.
pub record HasRead (p : Party) (rows : List RowValue) (s : Progress) (bytes written : List ℕ) (taken : List RowValue) : Type 0 where
  pub stands : s.side.stand ≡ (reading.read (session_of p rows) (start (session_of p rows)) bytes).stand
  pub wrote : written ≡ out p rows bytes
  pub took : taken ≡ got p rows bytes
  pub sent : GoesWell s.side.stand → s.sent ≡ counted (said p rows bytes)
  pub read : GoesWell s.side.stand → s.read ≡ counted (heard p rows bytes)
  pub agreed : TalksOn s.side.stand → AgreesOn p bytes s.area

-- so it is with the signature that was made; with each while none was
abbrev pub HaveRead : Progress → List ℕ → List ℕ → List RowValue → Type 0
HaveRead s bytes written taken = (signature : List ℕ) → MayBe s.side.signature signature → HasRead (party_of s.side signature) s.side.rows s bytes written taken
