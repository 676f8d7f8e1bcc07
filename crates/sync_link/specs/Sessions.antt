-- The session of a store as a function of its rows and of the bytes that it reads.
use Rattle.std.specs.Prelude.{◌≡◌, ℕ, List, Option, None}
use Rattle.scheme_core.specs.Rules.{Rules}
use Rattle.willow_area.specs.Boxes.{Ranges}
use Rattle.willow_entry.specs.Row.{RowValue}
use Rattle.area_interest.specs.declared.interest.Interest.{Interest}
use Rattle.sync_msg.specs.Items.{ItemValue}
use Rattle.sync_msg.specs.declared.role.Role.{Role}
use Rattle.sync_msg.specs.declared.refusal.CoreRefusal.{CoreRefusal}
use Rattle.session_end.specs.declared.refusal.HelloRefusal.{HelloRefusal}
use Rattle.sync_hello.specs.declared.hello.Hello.{Hello}
use Rattle.sync_core.specs.Place.{Place}
use Rattle.session_rules.specs.Machine.{Machine}
use Rattle.session_rules.specs.Reading as reading
use Rattle.session_rules.specs.Greeting.{Own, HasHello, agreed_with}
use Rattle.session_rules.specs.Session.{Message, Stage, Cause, rows_offered, session, message_rows, OfferSame}
use Rattle.sync_link.specs.Greetings.{Agreement, side_of, greeting}
use Rattle.sync_link.specs.Places.{of_interest, offers_of, places}

-- what a side brings to a session, besides its rows
pub record Party : Type 0 where
  -- which signatures are accepted
  pub rules : Rules
  -- the namespace of the rows
  pub namespace : List ℕ
  -- whether it calls or answers
  pub role : Role
  -- its hello: the version, the nonce, the ask and the capability
  pub hello : Hello
  -- how much of an area it offers
  pub interest : Interest
  -- the signature that is its proof
  pub signature : List ℕ

-- a hello, a proof or an item; which of them is due; why one is refused
abbrev pub SessionMessage : Type 0
SessionMessage = Message Hello (List ℕ) ItemValue

abbrev pub SessionStage : Type 0
SessionStage = Stage Hello Place

abbrev pub SessionCause : Type 0
SessionCause = Cause HelloRefusal CoreRefusal

-- its own part: which side it is, its hello and its proof
abbrev pub own_part : Party → Own Hello (List ℕ)
own_part p = record { role = side_of p.role; hello = p.hello; proof = p.signature }

-- its session, message by message, with the rows that it has as it begins
abbrev pub session_of : Party → List RowValue → Machine SessionStage SessionMessage SessionMessage RowValue SessionCause
session_of p rows = session (greeting p.rules p.namespace) places (own_part p) (offers_of p.interest rows)

-- ---- the session as a function

-- the messages that it says that has these rows and reads these bytes
abbrev pub said : Party → List RowValue → List ℕ → List SessionMessage
said p rows bytes = reading.said (session_of p rows) bytes

-- the rows that stand in these, in order
abbrev pub told_rows : Party → List RowValue → List ℕ → List RowValue
told_rows p rows bytes = message_rows places (said p rows bytes)

-- the bytes that it writes: the spellings of these messages, in order
abbrev pub out : Party → List RowValue → List ℕ → List ℕ
out p rows bytes = reading.out (session_of p rows) bytes

-- the rows that it is sent, but for one that is refused
abbrev pub got : Party → List RowValue → List ℕ → List RowValue
got p rows bytes = reading.got (session_of p rows) bytes

-- how it ends: it is done behind the last farewell; else by the first message that it refuses or that is none, which
-- begins at an offset; else more is due
abbrev pub ending : Party → List RowValue → List ℕ → reading.Ending SessionCause
ending p rows bytes = reading.ending (session_of p rows) bytes

-- ---- what both agree on

-- what it and one that said this hello agree on
abbrev pub agreement_with : Party → Hello → Agreement
agreement_with p hello = agreed_with (greeting p.rules p.namespace) (own_part p) hello

-- the version of their session
abbrev pub version_with : Party → Hello → ℕ
version_with p hello = (agreement_with p hello).version

-- the box of the area that both may read, if there is one
abbrev pub box_with : Party → Hello → Option Ranges
box_with p hello = (agreement_with p hello).box

-- the rows of a store that it offers: those of interest in it; without one all, of which none is told
abbrev pub offered_to : Party → Hello → List RowValue → List RowValue
offered_to p hello rows = of_interest p.interest (box_with p hello) rows

-- those in it, over which the exchange begins
abbrev pub rows_with : Party → Hello → List RowValue → List RowValue
rows_with p hello rows = rows_offered (greeting p.rules p.namespace) (own_part p) (offers_of p.interest rows) hello

-- it limits nothing, and is as it is but for that
abbrev pub without_limits : Party → Party
without_limits p = record p { interest = record { newest = None; bytes = None } }

-- to whatever hello passes in front of the bytes these of the rows are offered
abbrev pub AreOfferedTo : Party → List ℕ → List RowValue → List RowValue → Type 0
AreOfferedTo p bytes rows shown = (hello : Hello) → HasHello (greeting p.rules p.namespace) bytes hello → shown ≡ offered_to p hello rows

-- by whatever hello passes in front of the bytes, of two lists the same rows in it are offered
abbrev pub AreSameInCommon : Party → List ℕ → List RowValue → List RowValue → Type 0
AreSameInCommon p bytes rows others = OfferSame (greeting p.rules p.namespace) (own_part p) bytes (offers_of p.interest rows) (offers_of p.interest others)
