-- What one who follows does.
use Rattle.std.specs.Prelude.{◌≡◌, ◌⊎◌, ℕ, ◌+◌, ◌≤◌, List, [], ◌++◌, map, length, All, option_map, Result, IfOk}
use Rattle.std.specs.Io.KnownBytes.{Consumes}
use Rattle.spelling.specs.Form.{AreBytes}
use Rattle.willow_outside.specs.Facts.{LinkFacts}
use Rattle.willow_outside.specs.Told.{Extends}
use Rattle.scheme_core.specs.Rules.{Rules}
use Rattle.willow_area.specs.declared.area.Area.{Area}
use Rattle.willow_entry.specs.declared.row.LogRow.{LogRow}
use Rattle.mc_cap.specs.declared.refusal.RefusedRow.{RefusedRow}
use Rattle.mc_cap.specs.declared.refusal.RowRefusal.{RowRefusal}
use Rattle.cap_codec.specs.Rows.{RawValue, IsRaw, row_of}
use Rattle.auth_entry.specs.Authorised.{AuthorisedValue}
use Rattle.auth_entry.specs.Rows.{authorised_rows, first_refused}
use Rattle.ns_cell.specs.Passes.{PassValue, IsLater}
use Rattle.session_end.specs.declared.end.SessionEnd.{SessionEnd}
use Rattle.session_rules.specs.Reading.{More}
use Rattle.row_intake.specs.Kept.{IsPart}
use Rattle.row_intake.specs.Links.{WritesNothing}
use Rattle.row_intake.specs.Answers.{AreAllOf, Covers, CountsReads, CountsEnds}
use Rattle.sync_follow.specs.Following.{EndsFeed, feed_ending, rows_fed}
use Rattle.sync_follow.specs.Tallies.{log_rows}
use Rattle.sync_follow.specs.declared.report.FollowReport.{FollowReport}

-- what one who follows answers
abbrev pub FollowAnswer : Type 0
FollowAnswer = Result FollowReport SessionEnd

-- a row's number and why it is refused, as a report tells them
abbrev pub told_first : RefusedRow → ℕ × RowRefusal
told_first refused = (refused.row, refused.refusal)

-- The report of one who read these rows, where the own list grew by so many.
pub record ReportsFeed (rules : Rules) (namespace : List ℕ) (rows : List RawValue) (grown : ℕ) (report : FollowReport) : Type 0 where
  pub read : report.read ≡ length rows
  pub stored : report.stored ≡ grown
  pub kept : report.stored + report.kept ≡ length (authorised_rows rules namespace rows)
  pub refused : length (authorised_rows rules namespace rows) + report.refused ≡ length rows
  pub first : report.first ≡ option_map told_first (first_refused rules namespace rows)

-- Without some last part of them, of 1 to so many bytes, more of the feed was due: none was read behind the piece in which the
-- feed came to its end.
pub record StopsInTime (area : Area) (most : ℕ) (bytes : List ℕ) : Type 0 where
  pub front : List ℕ
  pub last : List ℕ
  pub joined : bytes ≡ front ++ last
  pub some : 1 ≤ length last
  pub few : length last ≤ most
  pub goes_on : feed_ending area front ≡ More

-- What one did who follows, to the pass and to the link.
-- `bytes`: what was read of the link, each number a byte; nothing was written. It ends so to them (`ended`). If any were read, they
-- end in the piece in which the feed came to its end, or earlier (`stops`).
-- `rows`: the rows inside of the area that stand in them, read out (`sent`). Some of those that are authorised came to the own
-- list, in their order (`grew`), and the log covers them all where there was room (`covers`).
-- `reported`, `reads`, `ends`: the numbers of the report, and the counts that tell of faults and of an end too early.
pub record Follows (rules : Rules) (namespace : List ℕ) (area : Area) (most : ℕ) (before after : PassValue AuthorisedValue) (link link' : LinkFacts) (answer : FollowAnswer) : Type 0 where
  pub bytes : List ℕ
  pub rows : List RawValue
  pub grown : List (LogRow AuthorisedValue)
  pub later : IsLater before after
  pub are_bytes : AreBytes bytes
  pub taken : Consumes link.left link'.left bytes × Extends link.taken link'.taken bytes
  pub unwritten : WritesNothing link link'
  pub ended : EndsFeed (feed_ending area bytes) (length bytes) answer
  pub stops : (bytes ≡ []) ⊎ StopsInTime area most bytes
  pub sent : AreAllOf (rows_fed area bytes) (map row_of rows) answer
  pub read_out : All IsRaw rows
  pub grew : (after.own ≡ before.own ++ grown) × IsPart (log_rows grown) (authorised_rows rules namespace rows)
  pub covers : Covers (log_rows after.seen) (authorised_rows rules namespace rows) answer
  pub reported : IfOk answer (ReportsFeed rules namespace rows (length grown))
  pub reads : CountsReads link.read_faults link'.read_faults answer
  pub ends : CountsEnds link.ends link'.ends answer
