-- What a session does.
use Rattle.std.specs.Prelude.{◌≡◌, ◌⊎◌, ℕ, ◌+◌, ◌≤◌, Bool, true, List, [], ◌++◌, map, length, All, Contains, Result, Ok, Err, IfOk}
use Rattle.std.specs.Io.KnownBytes.{Consumes}
use Rattle.spelling.specs.Form.{AreBytes}
use Rattle.willow_outside.specs.Told.{Extends}
use mathlib.Core.List.{IsPrefix}
use Rattle.willow_outside.specs.Counts.{HasRisen}
use Rattle.willow_outside.specs.Facts.{LinkFacts}
use Rattle.willow_entry.specs.Row.{RowValue, live}
use Rattle.willow_entry.specs.declared.row.LogRow.{LogRow}
use Rattle.mc_cap.specs.Signature.{IsSignature}
use Rattle.cap_codec.specs.Rows.{RawValue, IsRaw, row_of}
use Rattle.auth_entry.specs.Authorised.{AuthorisedValue}
use Rattle.ns_cell.specs.Passes.{PassValue, FirstFound, IsLater}
use Rattle.session_end.specs.declared.end.SessionEnd.{SessionEnd}
use Rattle.session_end.specs.declared.end.SessionEnd.TheVariants.{LinkRead, LinkWrite, ClosedEarly, BadMessage, Hello, Core, SignFault, LogFull, NoMemory}
use Rattle.sync_hello.specs.Checked.{Passes}
use Rattle.sync_hello.specs.HelloForm.{hello_spelling, IsHello}
use Rattle.sync_hello.specs.declared.hello.Hello as hello
use Rattle.session_rules.specs.Greeting.{HasHello}
use Rattle.session_rules.specs.Reading as reading
use Rattle.session_rules.specs.Rounds.{IsFront}
use Rattle.session_rules.specs.Session.{Proof, InGreeting, InTalk}
use Rattle.sync_link.specs.Greetings.{greeting}
use Rattle.sync_link.specs.Sessions.{Party, SessionCause, said, out, got, ending}
use Rattle.sync_link.specs.Settling.{IsOpening}
use Rattle.sync_link.specs.Talking.{own_message}
use Rattle.sync_link.specs.Progress.{AgreesOn, heard, counted}
use Rattle.auth_entry.specs.Rows.{authorised_rows, first_refused}
use Rattle.row_intake.specs.Answers.{AreAllOf, IsAllOf, Covers, CountsReads, CountsWrites, CountsEnds}
use Rattle.row_intake.specs.Kept.{CoversOrIsFull, IsPart}
use Rattle.sync_link.specs.Kept.{log_rows}
use Rattle.sync_link.specs.declared.plan.SessionReport.{SessionReport}

-- what a session answers
abbrev pub Answer : Type 0
Answer = Result SessionReport SessionEnd

-- ---- how the session stands, by the answer

-- How the session ends to the bytes that were read, of which there are so many.
abbrev pub Ends : reading.Ending SessionCause → ℕ → Answer → Type 0
Ends end read (Ok report) = end ≡ reading.Done
Ends end read (Err LinkRead) = end ≡ reading.More
Ends end read (Err LinkWrite) = Unit {0}
Ends end read (Err (ClosedEarly at)) = (end ≡ reading.More) × (at ≡ read)
Ends end read (Err (BadMessage at)) = end ≡ reading.BadMessage at
Ends end read (Err (Hello cause)) = end ≡ reading.Refusal (InGreeting cause)
Ends end read (Err (Core cause)) = end ≡ reading.Refusal (InTalk cause)
Ends end read (Err SignFault) = Unit {0}
Ends end read (Err (LogFull missed)) = end ≡ reading.Done
Ends end read (Err NoMemory) = Unit {0}

-- ---- the rows that came

-- What was written is due to a first part of the bytes that were read, with which these rows came. The log covered the
-- authorised ones before, but for those for which it had no room: rows go to the log before what they make due is written.
pub record KeptFirst (p : Party) (opening : List RowValue) (bytes written : List ℕ) (seen : List (LogRow AuthorisedValue)) : Type 0 where
  pub front : List ℕ
  pub rows : List RawValue
  pub log : List (LogRow AuthorisedValue)
  pub of_bytes : IsFront front bytes
  pub due : IsFront written (out p opening front)
  pub came : map row_of rows ≡ got p opening front
  pub of_seen : IsPrefix log seen
  pub covers : CoversOrIsFull (log_rows log) (authorised_rows p.rules p.namespace rows)

-- ---- causes

-- a signer's count of faults rose where that is answered, and nowhere else: no signer that failed is told as want of memory
abbrev pub CountsSigns : ℕ → ℕ → Answer → Type 0
CountsSigns before now (Ok report) = now ≡ before
CountsSigns before now (Err LinkRead) = now ≡ before
CountsSigns before now (Err LinkWrite) = now ≡ before
CountsSigns before now (Err (ClosedEarly at)) = now ≡ before
CountsSigns before now (Err (BadMessage at)) = now ≡ before
CountsSigns before now (Err (Hello cause)) = now ≡ before
CountsSigns before now (Err (Core cause)) = now ≡ before
CountsSigns before now (Err SignFault) = HasRisen before now
CountsSigns before now (Err (LogFull missed)) = now ≡ before
CountsSigns before now (Err NoMemory) = now ≡ before

-- The counts of the link and of the signer: each answer that names a fault comes only where its count rose, and none rises
-- else.
pub record Counts (link link' : LinkFacts) (faults faults' : ℕ) (answer : Answer) : Type 0 where
  pub reads : CountsReads link.read_faults link'.read_faults answer
  pub writes : CountsWrites link.write_faults link'.write_faults answer
  pub ends : CountsEnds link.ends link'.ends answer
  pub signs : CountsSigns faults faults' answer

-- ---- the numbers that are reported

-- The report of a session of a side that began with the rows of a log, read these bytes and was sent these rows, where its
-- own list grew by so many and the log that it has seen has so many. The area is that which both may read.
pub record Reports (p : Party) (log : List (LogRow AuthorisedValue)) (bytes : List ℕ) (rows : List RawValue) (grown closed : ℕ) (report : SessionReport) : Type 0 where
  pub opened : report.opened ≡ length log
  pub closed_at : report.closed ≡ closed
  pub stored : report.stored ≡ grown
  pub kept : report.stored + report.kept ≡ length (authorised_rows p.rules p.namespace rows)
  pub refused : length (authorised_rows p.rules p.namespace rows) + report.refused ≡ length rows
  pub first : report.first ≡ first_refused p.rules p.namespace rows
  pub sent : report.sent ≡ counted (said p (live (log_rows log)) bytes)
  pub read : report.read ≡ counted (heard p (live (log_rows log)) bytes)
  pub area : AgreesOn p bytes report.area

-- ---- all of it

-- nothing was read, and nothing written
abbrev pub IsSilent : List ℕ → List ℕ → Type 0
IsSilent bytes written = (bytes ≡ []) × (written ≡ [])

-- The signature is one in form, and one that the signer may give of the proof message of the own hello and of one that passes
-- in front of the bytes.
pub record IsProofOf (p : Party) (gives : List ℕ → List ℕ → Bool) (bytes : List ℕ) : Type 0 where
  pub other : hello.Hello
  pub stands : HasHello (greeting p.rules p.namespace) bytes other
  pub given : gives (own_message p.role p.hello other) p.signature ≡ true
  pub fits : IsSignature p.signature

-- What a session did, of a side that brings this, each by its signature: to its pass and to its link.
-- `signature`: the own proof, a signature in form (`proof_fits`). The signer may give it for this session, unless no more was
-- written than the own hello (`signed`). The own hello is in the grammar and passes (`own_fits`, `own_passes`).
-- `log`: the log as the session began, with all that the pass had seen (`opening`): the whole log as it stood at the first turn
-- that the pass had in this call (`turn`). What is live of it are the own rows, which can be told to the other (`opens`). Both
-- unless memory was wanting before anything was read or written (`turn`, `begun`).
-- `bytes`, `written`: what was read of the link, each number a byte (`are_bytes`), and what was written to it (`taken`,
-- `held`). The latter is all that is due to the former, or a front of it (`wrote`), and the session ends so (`ended`).
-- `rows`: the rows that came, read out (`sent`). Some of those that are authorised came to the own list, in their order
-- (`grew`), and the log covers them all where there was room (`covers`), before anything was written to them (`kept_first`).
-- `reported`, `counted`: the numbers of the report, and the counts that tell of faults.
pub record Runs (p : List ℕ → Party) (gives : List ℕ → List ℕ → Bool) (before after : PassValue AuthorisedValue) (link link' : LinkFacts) (faults faults' : ℕ) (answer : Answer) : Type 0 where
  pub signature : List ℕ
  pub log : List (LogRow AuthorisedValue)
  pub bytes : List ℕ
  pub written : List ℕ
  pub rows : List RawValue
  pub grown : List (LogRow AuthorisedValue)
  pub proof_fits : IsSignature (p signature).signature
  pub own_fits : IsHello (p signature).hello
  pub own_passes : Passes (p signature).rules (p signature).namespace (p signature).hello
  pub later : IsLater before after
  pub opening : IsPrefix before.seen log × IsPrefix log after.seen
  pub turn : FirstFound before log after ⊎ ((answer ≡ Err NoMemory) × IsSilent bytes written)
  pub opens : (answer ≡ Err NoMemory → ⊥) → IsOpening (p signature).namespace (live (log_rows log))
  pub begun : IsOpening (p signature).namespace (live (log_rows log)) ⊎ IsSilent bytes written
  pub are_bytes : AreBytes bytes
  pub taken : Consumes link.left link'.left bytes × Extends link.taken link'.taken bytes
  pub held : Extends link.held link'.held written
  pub signed : IsProofOf (p signature) gives bytes ⊎ IsFront written (hello_spelling (p signature).hello)
  pub wrote : IsAllOf (out (p signature) (live (log_rows log)) bytes) written answer
  pub ended : Ends (ending (p signature) (live (log_rows log)) bytes) (length bytes) answer
  pub sent : AreAllOf (got (p signature) (live (log_rows log)) bytes) (map row_of rows) answer
  pub read_out : All IsRaw rows
  pub grew : (after.own ≡ before.own ++ grown) × IsPart (log_rows grown) (authorised_rows (p signature).rules (p signature).namespace rows)
  pub covers : Covers (log_rows after.seen) (authorised_rows (p signature).rules (p signature).namespace rows) answer
  pub kept_first : KeptFirst (p signature) (live (log_rows log)) bytes written after.seen
  pub reported : IfOk answer (Reports (p signature) log bytes rows (length grown) (length after.seen))
  pub counted_faults : Counts link link' faults faults' answer

-- ---- when it did it

-- so it may answer that read nothing: a session that read nothing is open
abbrev pub CanEndUnread : Answer → Type 0
CanEndUnread (Ok report) = ⊥
CanEndUnread (Err LinkRead) = Unit {0}
CanEndUnread (Err LinkWrite) = Unit {0}
CanEndUnread (Err (ClosedEarly at)) = Unit {0}
CanEndUnread (Err (BadMessage at)) = ⊥
CanEndUnread (Err (Hello cause)) = ⊥
CanEndUnread (Err (Core cause)) = ⊥
CanEndUnread (Err SignFault) = ⊥
CanEndUnread (Err (LogFull missed)) = ⊥
CanEndUnread (Err NoMemory) = Unit {0}

-- The bytes are a front and a last part, of 1 to so many bytes. The front leaves the session open (`goes_on`): it read nothing
-- behind the piece in which it came to its end. All that is due to the front stands in front of what was written (`answered`): it
-- read nothing before it had written all that was due.
pub record StopsInTime (p : Party) (opening : List RowValue) (most : ℕ) (bytes written : List ℕ) : Type 0 where
  pub front : List ℕ
  pub last : List ℕ
  pub joined : bytes ≡ front ++ last
  pub some : 1 ≤ length last
  pub few : length last ≤ most
  pub goes_on : ending p opening front ≡ reading.More
  pub answered : IsFront (out p opening front) written

-- the own proof is due to the bytes: with whatever signature, it is among the messages that the session says to them
abbrev pub OwesProof : (List ℕ → Party) → List RowValue → List ℕ → Type 0
OwesProof p opening bytes = (signature : List ℕ) → Contains (said (p signature) opening bytes) (Proof (p signature).signature)

-- What a session did over a link that gives at most so many bytes at once, and that it did each thing in its time.
-- `asked`: the signer is as it was (`still`), or the own proof is due to the bytes that were read.
-- `stops`: nothing was read, or all but the last piece of the link was read of a session that was open, behind all that was due.
pub record ActsInTime (still : Type 0) (most : ℕ) (p : List ℕ → Party) (gives : List ℕ → List ℕ → Bool) (before after : PassValue AuthorisedValue) (link link' : LinkFacts) (faults faults' : ℕ) (answer : Answer) : Type 0 where
  pub did : Runs p gives before after link link' faults faults' answer
  pub asked : still ⊎ OwesProof p (live (log_rows did.log)) did.bytes
  pub stops : (CanEndUnread answer × (did.bytes ≡ [])) ⊎ StopsInTime (p did.signature) (live (log_rows did.log)) most did.bytes did.written
