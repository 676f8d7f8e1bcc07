-- Sessions that were run, and what holds of them where the other side is one of the same kind.
use Rattle.std.specs.Prelude.{◌≡◌, ◌⊎◌, ℕ, ◌+◌, ◌*◌, ◌<◌, max, Bool, true, List, length, Option, None, Some, map, All, Contains, Ok, Err, IsTrue}
use Rattle.std.specs.List.{IsDistinct}
use Rattle.scheme_core.specs.Rules.{Rules}
use Rattle.willow_outside.specs.Counts.{HasRisen}
use Rattle.willow_outside.specs.Facts.{LinkFacts}
use Rattle.willow_area.specs.Boxes.{Ranges}
use Rattle.willow_entry.specs.Row.{RowValue, HasCovering, live, same_row}
use Rattle.mc_cap.specs.Grant.{receiver_of}
use Rattle.mc_cap.specs.Signature.{IsSignature}
use Rattle.cap_codec.specs.Rows.{RawValue, IsRaw, row_of}
use Rattle.auth_entry.specs.Authorised.{AuthorisedValue, IsAuthorised}
use Rattle.ns_cell.specs.Passes.{PassValue}
use Rattle.session_end.specs.declared.end.SessionEnd.{SessionEnd}
use Rattle.session_end.specs.declared.end.SessionEnd.TheVariants.{LinkRead, LinkWrite, ClosedEarly, BadMessage, Hello, Core, SignFault, LogFull, NoMemory}
use Rattle.sync_msg.specs.Items.{ItemValue}
use Rattle.sync_msg.specs.declared.item.Item.TheVariants.{Row}
use Rattle.sync_msg.specs.declared.role.Role.{Role}
use Rattle.sync_msg.specs.declared.role.Role.TheVariants.{Caller, Answerer}
use Rattle.sync_hello.specs.HelloForm.{hello_spelling}
use Rattle.sync_core.specs.Place.{rows_of_area}
use Rattle.session_rules.specs.Reading as reading
use Rattle.session_rules.specs.Rounds.{IsFront}
use Rattle.session_rules.specs.Session.{Item}
use Rattle.sync_link.specs.Sessions.{Party, SessionCause, said, told_rows, out, box_with, offered_to, rows_with, version_with}
use Rattle.sync_link.specs.Granting.{IsGranted, GrantsRow, message_due}
use Rattle.sync_link.specs.Settling.{IsOpening, Accepts, AreApartIn}
use Rattle.sync_link.specs.Kept.{log_rows}
use Rattle.row_intake.specs.Answers.{AreAllOf, IsAllOf}
use Rattle.sync_link.specs.Run.{Answer, Ends, Runs}

-- ---- a session that was run

-- A session of a side that brings this, each by its signature: which signatures its signer may give; its pass, its link and
-- its signer's count of faults before it and after; what it answered; and what it did.
pub record Ran (p : List ℕ → Party) : Type 0 where
  pub gives : List ℕ → List ℕ → Bool
  pub before : PassValue AuthorisedValue
  pub after : PassValue AuthorisedValue
  pub link : LinkFacts
  pub link' : LinkFacts
  pub faults : ℕ
  pub faults' : ℕ
  pub answer : Answer
  pub did : Runs p gives before after link link' faults faults' answer

-- what it brought, with its signature
abbrev pub side : {p : List ℕ → Party} → Ran p → Party
side {p} ran = p ran.did.signature

-- its rows as it began: what is live of the log
abbrev pub opening_of : {p : List ℕ → Party} → Ran p → List RowValue
opening_of ran = live (log_rows ran.did.log)

-- the store behind it: what is live of the log that its pass has then seen
abbrev pub store_of : {p : List ℕ → Party} → Ran p → List RowValue
store_of ran = live (log_rows ran.after.seen)

-- the store covers each of the rows
abbrev pub LiesAbove : List RowValue → List RowValue → Type 0
LiesAbove store rows = All (HasCovering store) rows

-- ---- two worlds

-- the same is brought, but that the signatures may differ
abbrev pub BringSame : Party → Party → Type 0
BringSame p q = q ≡ record p { signature = q.signature }

-- more was written than the own hello: behind it stands the own proof, or a front of it
abbrev pub HasProved : {p : List ℕ → Party} → Ran p → Type 0
HasProved ran = length (hello_spelling (side ran).hello) < length ran.did.written

-- neither a fault came nor was memory wanting
abbrev pub IsUnfailed : Answer → Type 0
IsUnfailed (Ok report) = Unit {0}
IsUnfailed (Err LinkRead) = ⊥
IsUnfailed (Err LinkWrite) = ⊥
IsUnfailed (Err (ClosedEarly at)) = Unit {0}
IsUnfailed (Err (BadMessage at)) = Unit {0}
IsUnfailed (Err (Hello cause)) = Unit {0}
IsUnfailed (Err (Core cause)) = Unit {0}
IsUnfailed (Err SignFault) = ⊥
IsUnfailed (Err (LogFull missed)) = Unit {0}
IsUnfailed (Err NoMemory) = ⊥

-- the exchange was done, whether or not the log had room
abbrev pub IsDone : Answer → Type 0
IsDone (Ok report) = Unit {0}
IsDone (Err LinkRead) = ⊥
IsDone (Err LinkWrite) = ⊥
IsDone (Err (ClosedEarly at)) = ⊥
IsDone (Err (BadMessage at)) = ⊥
IsDone (Err (Hello cause)) = ⊥
IsDone (Err (Core cause)) = ⊥
IsDone (Err SignFault) = ⊥
IsDone (Err (LogFull missed)) = Unit {0}
IsDone (Err NoMemory) = ⊥

-- both are done, or both ended so
abbrev pub EndAlike : Answer → Answer → Type 0
EndAlike one other = (IsDone one × IsDone other) ⊎ ((end : SessionEnd) × (one ≡ Err end) × (other ≡ Err end))

-- Two sessions did alike: there are the bytes of which each wrote all, or a front where it failed, and the rows of which each
-- was sent all, or a front; and how the session ends to what both read is one. Where neither failed they answer alike.
pub record AreAlike {p q : List ℕ → Party} (one : Ran p) (other : Ran q) : Type 0 where
  pub bytes : List ℕ
  pub wrote : IsAllOf bytes one.did.written one.answer × IsAllOf bytes other.did.written other.answer
  pub rows : List RowValue
  pub sent : AreAllOf rows (map row_of one.did.rows) one.answer × AreAllOf rows (map row_of other.did.rows) other.answer
  pub end : reading.Ending SessionCause
  pub ended : Ends end (length one.did.bytes) one.answer × Ends end (length other.did.bytes) other.answer
  pub answered : IsUnfailed one.answer → IsUnfailed other.answer → EndAlike one.answer other.answer

-- ---- granted reading

-- What was written is what is due to the bytes that were read, or a front of it. An item is among the messages of that, be it
-- a row or a fingerprint, only where what was read begins with the other side's hello and a proof that is accepted; and each
-- row among them is one of the own, which what that hello's capability grants includes, and one of those that are offered to
-- that side in the area that both may read. No row is told twice.
pub record TellsGranted {p : List ℕ → Party} (ran : Ran p) : Type 0 where
  pub wrote : IsFront ran.did.written (out (side ran) (opening_of ran) ran.did.bytes)
  pub items : (item : ItemValue) → Contains (said (side ran) (opening_of ran) ran.did.bytes) (Item item) → IsGranted (side ran) ran.did.bytes
  pub rows : (row : RowValue) → Contains (said (side ran) (opening_of ran) ran.did.bytes) (Item (Row row))
      → (granted : IsGranted (side ran) ran.did.bytes) × (Contains (opening_of ran) row × GrantsRow granted.hello row)
  pub offered : (row : RowValue) → Contains (told_rows (side ran) (opening_of ran) ran.did.bytes) row
      → (granted : IsGranted (side ran) ran.did.bytes) × Contains (rows_with (side ran) granted.hello (opening_of ran)) row
  pub once : IsDistinct same_row (told_rows (side ran) (opening_of ran) ran.did.bytes)

-- ---- the other side

-- The row is authorised in the namespace, with its token read out.
pub record IsAuthorisedRow (rules : Rules) (namespace : List ℕ) (row : RowValue) : Type 0 where
  pub raw : RawValue
  pub fits : IsRaw raw
  pub read_out : row_of raw ≡ row
  pub authorised : IsAuthorised rules namespace raw

-- the one calls and the other answers
abbrev pub AreBothRoles : Role → Role → Type 0
AreBothRoles one other = ((one ≡ Caller) × (other ≡ Answerer)) ⊎ ((one ≡ Answerer) × (other ≡ Caller))

-- the other's signature is accepted for its capability's receiver, over the message that is due of it
abbrev pub IsProved : Party → Party → Type 0
IsProved p other = IsTrue (p.rules.user (receiver_of other.hello.capability) (message_due p.role p.hello other.hello) other.signature)

-- Two sessions can meet: one calls and one answers, by one scheme and in one namespace, and both proofs are accepted.
pub record CanMeetAs {p q : List ℕ → Party} (one : Ran p) (other : Ran q) : Type 0 where
  pub roles : AreBothRoles (side one).role (side other).role
  pub same_rules : (side other).rules ≡ (side one).rules
  pub same_namespace : (side other).namespace ≡ (side one).namespace
  pub accepts : IsProved (side one) (side other)
  pub is_accepted : IsProved (side other) (side one)

-- The session read what the other side, which has these rows, writes to what this one wrote, or a front of that.
abbrev pub HearsFrom : {p : List ℕ → Party} → Ran p → Party → List RowValue → Type 0
HearsFrom ran q others = IsFront ran.did.bytes (out q others ran.did.written)

-- The other side of a session: a store with these rows, whose bytes the session read. It is of the other role, by the same
-- scheme and in the same namespace; its hello and proof are accepted, and it accepts the own proof.
pub record IsOther {p : List ℕ → Party} (ran : Ran p) (q : Party) (others : List RowValue) : Type 0 where
  pub roles : AreBothRoles (side ran).role q.role
  pub same_rules : q.rules ≡ (side ran).rules
  pub same_namespace : q.namespace ≡ (side ran).namespace
  pub accepts : Accepts (side ran) q
  pub is_accepted : IsProved q (side ran)
  pub opens : IsOpening (side ran).namespace others
  pub hears : HearsFrom ran q others

-- each of the rows is authorised by the rules of the session, in its namespace
abbrev pub AreAuthorised : {p : List ℕ → Party} → Ran p → List RowValue → Type 0
AreAuthorised ran others = All (IsAuthorisedRow (side ran).rules (side ran).namespace) others

-- the fingerprints of the exchange of a caller's rows and an answerer's in a version tell rows apart
abbrev pub AreApartAs : ℕ → Role → Option Ranges → List RowValue → List RowValue → Type 0
AreApartAs version Caller box rows others = AreApartIn version box rows others
AreApartAs version Answerer box rows others = AreApartIn version box others rows

-- the rows that the two offer each other: of the own store, and of the other side's
abbrev pub own_offered : {p : List ℕ → Party} → Ran p → Party → List RowValue
own_offered ran q = offered_to (side ran) q.hello (opening_of ran)

abbrev pub other_offered : {p : List ℕ → Party} → Ran p → Party → List RowValue → List RowValue
other_offered ran q others = offered_to q (side ran).hello others

-- the fingerprints of their exchange tell rows apart
abbrev pub AreToldApart : {p : List ℕ → Party} → Ran p → Party → List RowValue → Type 0
AreToldApart ran q others = AreApartAs (version_with (side ran) q.hello) (side ran).role (box_with (side ran) q.hello) (own_offered ran q) (other_offered ran q others)

-- those of these rows that lie in the area that both may read
abbrev pub own_common : {p : List ℕ → Party} → Ran p → Party → List RowValue
own_common ran q = rows_of_area (box_with (side ran) q.hello) (own_offered ran q)

abbrev pub other_common : {p : List ℕ → Party} → Ran p → Party → List RowValue → List RowValue
other_common ran q others = rows_of_area (box_with (side ran) q.hello) (other_offered ran q others)

-- of so many rows of both sides in the area that both may read there are at most so many counted items, and none without one
abbrev pub most_counted : Option Ranges → ℕ → ℕ → ℕ
most_counted None own other = 0
most_counted (Some box) own other = max 3 (3 * (own + other))

-- ---- a session that comes to its end

-- whatever the signer may give of a message, and is a signature in form, is one of the own capability's receiver
abbrev pub SignsWell : {p : List ℕ → Party} → Ran p → Type 0
SignsWell ran = (message signature : List ℕ) → IsSignature signature → ran.gives message signature ≡ true
    → IsTrue ((side ran).rules.user (receiver_of (side ran).hello.capability) message signature)

-- no count of faults rose, of reads, of writes or of the signer
pub record IsFaultless {p : List ℕ → Party} (ran : Ran p) : Type 0 where
  pub reads : HasRisen ran.link.read_faults ran.link'.read_faults → ⊥
  pub writes : HasRisen ran.link.write_faults ran.link'.write_faults → ⊥
  pub signs : HasRisen ran.faults ran.faults' → ⊥

-- The other side is one that can meet this one, if only the own signer signs well: it is of the other role, by the same
-- scheme and in the same namespace, and its hello and proof are accepted. The session read what it writes, or a front of that;
-- and a read met the end only where all of it was read.
pub record HasOther {p : List ℕ → Party} (ran : Ran p) (q : Party) (others : List RowValue) : Type 0 where
  pub roles : AreBothRoles (side ran).role q.role
  pub same_rules : q.rules ≡ (side ran).rules
  pub same_namespace : q.namespace ≡ (side ran).namespace
  pub accepts : Accepts (side ran) q
  pub opens : IsOpening (side ran).namespace others
  pub hears : HearsFrom ran q others
  pub hears_all : HasRisen ran.link.ends ran.link'.ends → ran.did.bytes ≡ out q others ran.did.written
