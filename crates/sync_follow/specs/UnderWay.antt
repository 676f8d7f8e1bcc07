-- A feed that is under way to one who follows: what was done so far.
use Rattle.std.specs.Prelude.{◌≡◌, ◌⊎◌, ℕ, List, [], map, length, All, None, Result, Ok, Err}
use Rattle.std.specs.Io.KnownBytes.{Consumes}
use Rattle.spelling.specs.Form.{AreBytes}
use Rattle.willow_outside.specs.Facts.{LinkFacts}
use Rattle.willow_outside.specs.Told.{Extends}
use Rattle.scheme_core.specs.Rules.{Rules}
use Rattle.willow_area.specs.declared.area.Area.{Area}
use Rattle.cap_codec.specs.Rows.{RawValue, IsRaw, row_of}
use Rattle.auth_entry.specs.Authorised.{AuthorisedValue}
use Rattle.ns_cell.specs.Passes.{PassValue}
use Rattle.session_end.specs.declared.end.SessionEnd.{SessionEnd}
use Rattle.sync_msg.specs.declared.refusal.CoreRefusal.{CoreRefusal}
use Rattle.session_rules.specs.Reading.{Stand, Waits}
use Rattle.session_rules.specs.Reading as reading
use Rattle.row_intake.specs.Links.{WritesNothing}
use Rattle.row_intake.specs.Tallies.{IsFirstOf, IsSum}
use Rattle.row_intake.specs.declared.tally.Tally.{Tally}
use Rattle.sync_follow.specs.Following.{feed_of}
use Rattle.sync_follow.specs.Hearing.{IsHeld, stand_in}
use Rattle.sync_follow.specs.Tallies.{IsTally}
use Rattle.sync_follow.specs.Follows.{FollowAnswer, Follows, StopsInTime}
use Rattle.sync_follow.specs.declared.piece.Course.{Course}
use Rattle.sync_follow.specs.declared.place.Due.TheVariants.{Message}

-- What one began with who follows: the rules, the namespace and the area of the rows; the pass, and the link, which gives at most
-- so many bytes at once, as they were.
pub record Start : Type 0 where
  pub rules : Rules
  pub namespace : List ℕ
  pub area : Area
  pub most : ℕ
  pub pass : PassValue AuthorisedValue
  pub link : LinkFacts

-- It goes by these rules, in this namespace and area, over a link that gives at most so many bytes at once.
pub record IsBy (start : Start) (rules : Rules) (namespace : List ℕ) (area : Area) (most : ℕ) : Type 0 where
  pub by_rules : start.rules ≡ rules
  pub in_namespace : start.namespace ≡ namespace
  pub in_area : start.area ≡ area
  pub at_once : start.most ≡ most

-- What it has come to: how one stands who follows, the numbers of the rows that came, how many bytes were read, and the pass and
-- the link.
pub record Now : Type 0 where
  pub stand : Stand ℕ CoreRefusal
  pub tally : Tally
  pub count : ℕ
  pub pass : PassValue AuthorisedValue
  pub link : LinkFacts

abbrev pub now_of : Course → PassValue AuthorisedValue → LinkFacts → Now
now_of course pass link = record { stand = stand_in course.ear; tally = course.tally; count = course.count; pass = pass; link = link }

-- what it has come to at the beginning
abbrev pub first_now : Start → Now
first_now start = record {
  stand = Waits 0 0 [];
  tally = record { rows = 0; stored = 0; kept = 0; missed = 0; refused = 0; first = None };
  count = 0;
  pass = start.pass;
  link = start.link;
}

-- Nothing was read yet.
pub record IsNew (course : Course) : Type 0 where
  pub place : course.ear.place ≡ record { due = Message; count = 0 }
  pub at : course.ear.at ≡ 0
  pub held : course.ear.held.items ≡ []
  pub tally : course.tally ≡ record { rows = 0; stored = 0; kept = 0; missed = 0; refused = 0; first = None }
  pub count : course.count ≡ 0

-- what is held is a part of what is due, and each row that came is counted once
pub record IsCounted (area : Area) (course : Course) : Type 0 where
  pub held : IsHeld area course.ear
  pub rows : course.tally.rows ≡ course.ear.place.count
  pub sums : IsSum course.tally
  pub first : IsFirstOf course.tally

-- These bytes were read so far, and the rows that stand in them were offered to the log.
pub record IsUnderWay (start : Start) (now : Now) : Type 0 where
  pub bytes : List ℕ
  pub rows : List RawValue
  pub are_bytes : AreBytes bytes
  pub reads : reading.read (feed_of start.area) (reading.start (feed_of start.area)) bytes ≡ record { stand = now.stand; says = []; rows = map row_of rows }
  pub read_out : All IsRaw rows
  pub count : now.count ≡ length bytes
  pub taken : Consumes start.link.left now.link.left bytes × Extends start.link.taken now.link.taken bytes
  pub unwritten : WritesNothing start.link now.link
  pub was_due : (bytes ≡ []) ⊎ StopsInTime start.area start.most bytes
  pub tally : IsTally start.rules start.namespace start.pass rows now.pass now.tally
  pub faults : now.link.read_faults ≡ start.link.read_faults
  pub ends : now.link.ends ≡ start.link.ends

-- what it has done that ended so
abbrev pub EndsAs : Start → PassValue AuthorisedValue → LinkFacts → FollowAnswer → Type 0
EndsAs start pass link answer = Follows start.rules start.namespace start.area start.most start.pass pass start.link link answer

-- it goes on, or it has ended
abbrev pub GoesOnOrEnds : Start → Now → Result (Unit {0}) SessionEnd → Type 0
GoesOnOrEnds start now (Ok u) = IsUnderWay start now
GoesOnOrEnds start now (Err end) = EndsAs start now.pass now.link (Err end)
