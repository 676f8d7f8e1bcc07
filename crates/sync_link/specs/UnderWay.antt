-- A session that is under way: what it did so far.
use Rattle.std.specs.Prelude.{◌≡◌, ◌⊎◌, ℕ, ◌≤◌, ◌<◌, ◌^◌, Bool, List, [], map, length, All, Contains, Option, None, Some, Result, Ok, Err}
use Rattle.std.specs.Io.KnownBytes.{Consumes}
use Rattle.spelling.specs.Form.{AreBytes}
use Rattle.willow_outside.specs.Told.{Extends}
use mathlib.Core.List.{IsPrefix}
use Rattle.scheme_core.specs.Rules.{Rules}
use Rattle.willow_outside.specs.Facts.{LinkFacts}
use Rattle.willow_entry.specs.Frame.{HasFrame}
use Rattle.willow_entry.specs.Row.{RowValue, live}
use Rattle.willow_entry.specs.declared.row.LogRow.{LogRow}
use Rattle.area_interest.specs.declared.interest.Interest.{Interest}
use Rattle.cap_codec.specs.Rows.{RawValue, IsRaw, IsRawRow, row_of}
use Rattle.auth_entry.specs.Authorised.{AuthorisedValue}
use Rattle.ns_cell.specs.Passes.{PassValue, FirstFound, HadTurn, IsPass, IsLater}
use Rattle.session_end.specs.declared.end.SessionEnd.{SessionEnd}
use Rattle.sync_msg.specs.declared.role.Role.{Role}
use Rattle.sync_hello.specs.Checked.{Passes}
use Rattle.sync_hello.specs.HelloForm.{IsHello}
use Rattle.sync_hello.specs.declared.hello.Hello.{Hello}
use Rattle.session_rules.specs.Session.{Proof}
use Rattle.sync_link.specs.Sessions.{Party, said}
use Rattle.sync_link.specs.Settling.{IsOpening}
use Rattle.sync_link.specs.Standing.{Side, MayBe}
use Rattle.sync_link.specs.Progress.{Progress, HaveRead, progress_in}
use Rattle.auth_entry.specs.Rows.{entry_row}
use Rattle.sync_link.specs.Kept.{log_rows}
use Rattle.row_intake.specs.Tallies.{IsSum}
use Rattle.sync_link.specs.Tallies.{IsTally}
use Rattle.sync_link.specs.Run.{Answer, ActsInTime, IsProofOf, StopsInTime}
use Rattle.sync_link.specs.declared.run.piece.Session.{Session}
use Rattle.row_intake.specs.declared.tally.Tally.{Tally}

-- ---- the rows

-- the tokens of the rows are in the grammar, and frames carry them
pub record AreTold (rows : List RowValue) : Type 0 where
  pub read_out : All IsRawRow rows
  pub framed : All HasFrame rows

-- ---- the session

-- What a session began with: what it brings, whose hello is in the grammar and passes, how much it offers, and which signatures
-- its signer may give; the log; and its pass, its link, which gives at most so many bytes at once, and its signer as they were.
pub record Start : Type 0 where
  pub rules : Rules
  pub namespace : List ℕ
  pub role : Role
  pub hello : Hello
  pub own_fits : IsHello hello
  pub own_passes : Passes rules namespace hello
  pub interest : Interest
  pub gives : List ℕ → List ℕ → Bool
  pub log : List (LogRow AuthorisedValue)
  pub pass : PassValue AuthorisedValue
  pub link : LinkFacts
  pub most : ℕ
  pub left : ℕ
  pub faults : ℕ

-- what the side brings, where this is its signature
abbrev pub brought : Start → List ℕ → Party
brought start signature = record { rules = start.rules; namespace = start.namespace; role = start.role; hello = start.hello; interest = start.interest; signature = signature }

-- It is a session by these rules, in this namespace, over a link that gives at most so much at once, and with a signer that may
-- give this and has a signature left.
pub record IsBy (start : Start) (rules : Rules) (namespace : List ℕ) (gives : List ℕ → List ℕ → Bool) (most : ℕ) : Type 0 where
  pub by_rules : start.rules ≡ rules
  pub in_namespace : start.namespace ≡ namespace
  pub gives_so : start.gives ≡ gives
  pub at_once : start.most ≡ most
  pub signs : 1 ≤ start.left

-- What it has come to: its side, the numbers of the rows that came, how many bytes it read, and its pass, its link and its
-- signer.
pub record Now : Type 0 where
  pub progress : Progress
  pub tally : Tally
  pub count : ℕ
  pub pass : PassValue AuthorisedValue
  pub link : LinkFacts
  pub left : ℕ
  pub faults : ℕ

-- no more rows came than bytes, and each is counted once; a u64 counts them
pub record IsCounted {S : Type 0} (session : Session S) : Type 0 where
  pub few : session.tally.rows ≤ session.count
  pub sums : IsSum session.tally
  pub fits : session.count < 2 ^ 64

-- a session as it stands in memory, and what it works on
abbrev pub now_of : {S : Type 0} → Rules → Session S → PassValue AuthorisedValue → LinkFacts → ℕ → ℕ → Now
now_of rules session pass link left faults = record { progress = progress_in rules session.side; tally = session.tally; count = session.count; pass = pass; link = link; left = left; faults = faults }

-- These are the rows of the log that the pass found whole, as the session began, in a turn that it had then.
pub record IsReady (start : Start) (rows : List RowValue) (now : PassValue AuthorisedValue) : Type 0 where
  pub rows_are : rows ≡ live (log_rows start.log)
  pub opens : IsOpening start.namespace rows
  pub later : IsLater start.pass now
  pub seen : now.seen ≡ start.log
  pub own : now.own ≡ start.pass.own
  pub turn : HadTurn start.pass now
  pub pass : IsPass entry_row now

-- the side is that of the session
abbrev pub IsSideOf : Start → Side → Type 0
IsSideOf start side = side ≡ record side { rules = start.rules; namespace = start.namespace; role = start.role; hello = start.hello; interest = start.interest; rows = live (log_rows start.log) }

-- What the side of a session has come to that read these bytes: what is due to them, and the rows that came, read out. Where
-- it is signed, its signer may give that for this session, and the own proof is due to the bytes.
pub record Reached (start : Start) (side : Progress) (bytes written : List ℕ) (rows : List RawValue) : Type 0 where
  pub side_is : IsSideOf start side.side
  pub are_bytes : AreBytes bytes
  pub read : HaveRead side bytes written (map row_of rows)
  pub read_out : All IsRaw rows
  pub signed : (signature : List ℕ) → side.side.signature ≡ Some signature → IsProofOf (brought start signature) start.gives bytes
  pub owes : (signature : List ℕ) → side.side.signature ≡ Some signature → Contains (said (brought start signature) (live (log_rows start.log)) bytes) (Proof signature)

-- nothing was read yet; or the session was open before the last piece, and had written all that was due
abbrev pub WasOpen : Start → Option (List ℕ) → List ℕ → List ℕ → Type 0
WasOpen start made bytes written = (bytes ≡ []) ⊎ ((signature : List ℕ) → MayBe made signature → StopsInTime (brought start signature) (live (log_rows start.log)) start.most bytes written)

-- A session did its work so far: it read these bytes and wrote what is due to them, and the rows that came were offered to
-- the log.
pub record IsUnderWay (start : Start) (now : Now) : Type 0 where
  pub bytes : List ℕ
  pub written : List ℕ
  pub rows : List RawValue
  pub reached : Reached start now.progress bytes written rows
  pub opens : IsOpening start.namespace (live (log_rows start.log))
  pub opening : IsPrefix start.pass.seen start.log × IsPrefix start.log now.pass.seen
  pub turn : FirstFound start.pass start.log now.pass
  pub taken : Consumes start.link.left now.link.left bytes × Extends start.link.taken now.link.taken bytes
  pub held : Extends start.link.held now.link.held written
  pub count : now.count ≡ length bytes
  pub was_open : WasOpen start now.progress.side.signature bytes written
  pub unsigned : now.progress.side.signature ≡ None → now.left ≡ start.left
  pub tally : IsTally start.rules start.namespace start.pass rows now.pass now.tally
  pub reads : now.link.read_faults ≡ start.link.read_faults
  pub writes : now.link.write_faults ≡ start.link.write_faults
  pub ends : now.link.ends ≡ start.link.ends
  pub faults : now.faults ≡ start.faults

-- What it has done that answers so, each thing in its time. The signer is as it was where `still` is so.
abbrev pub EndsInTime : Start → PassValue AuthorisedValue → LinkFacts → ℕ → Type 0 → Answer → Type 0
EndsInTime start pass link faults still answer = ActsInTime still start.most (brought start) start.gives start.pass pass start.link link start.faults faults answer

-- the same of one that ended so
abbrev pub EndsSo : Start → PassValue AuthorisedValue → LinkFacts → ℕ → Type 0 → SessionEnd → Type 0
EndsSo start pass link faults still end = EndsInTime start pass link faults still (Err end)

-- a side was not signed, and its signer is as it was
abbrev pub IsStill : {K : Type 0} → Option (List ℕ) → K → K → Type 0
IsStill made old new = (made ≡ None) × (new ≡ old)

-- it goes on, or it has ended
abbrev pub GoesOnOrEnds : Start → Now → Type 0 → Result (Unit {0}) SessionEnd → Type 0
GoesOnOrEnds start now still (Ok u) = IsUnderWay start now
GoesOnOrEnds start now still (Err end) = EndsSo start now.pass now.link now.faults still end

-- a session that began, or has ended before its signer was asked
abbrev pub Opens : {S : Type 0} → Start → PassValue AuthorisedValue → LinkFacts → Result (Session S) SessionEnd → Type 0
Opens start pass link (Ok session) = IsUnderWay start (now_of start.rules session pass link start.left start.faults)
Opens start pass link (Err end) = EndsSo start pass link start.faults (Unit {0}) end
