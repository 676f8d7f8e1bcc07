-- What a caller has behind its session and the feed that it follows: each row of the server's store in the area that both may
-- read, or one that replaces it.
use Rattle.std.specs.Prelude.{◌≡◌, true, ℕ, List, length, All, Contains, Some, Ok}
use mathlib.Core.List.{IsPrefix}
use Rattle.scheme_core.specs.Rules.{Rules}
use Rattle.willow_outside.specs.Facts.{LinkFacts}
use Rattle.willow_outside.specs.Told.{Extends}
use Rattle.willow_area.specs.declared.area.Area.{Area}
use Rattle.willow_entry.specs.Row.{RowValue, HasCovering, live}
use Rattle.cap_codec.specs.Rows.{RawValue, IsRaw, row_of}
use Rattle.auth_entry.specs.Authorised.{AuthorisedValue, IsAuthorised}
use Rattle.auth_entry.specs.Rows.{entry_row}
use Rattle.log_rule.specs.Views.{rows_of_pass}
use Rattle.ns_state.specs.Log.{logged}
use Rattle.ns_cell.specs.Passes.{PassValue, IsPass}
use Rattle.session_rules.specs.Reading.{got}
use Rattle.session_rules.specs.Pairs.{calling, answering}
use Rattle.sync_follow.specs.BothEnds.{BothEnds, AreEnds, Session, HasRun}
use Rattle.sync_follow.specs.Feeding.{IsFed}
use Rattle.sync_follow.specs.Feeds.{fed, has_entry}
use Rattle.sync_follow.specs.Follows.{Follows}
use Rattle.sync_follow.specs.Tallies.{log_rows}
use Rattle.sync_follow.specs.declared.feeding.Fed.{Fed}
use Rattle.sync_follow.specs.declared.report.FollowReport.{FollowReport}

-- The row is authorised in the namespace, with its token read out.
pub record IsAuthorisedRow (rules : Rules) (namespace : List ℕ) (row : RowValue) : Type 0 where
  pub raw : RawValue
  pub fits : IsRaw raw
  pub read_out : row_of raw ≡ row
  pub authorised : IsAuthorised rules namespace raw

-- A caller that follows and a server that feeds it: the scheme and the namespace of both and the area that both may read; their
-- sessions, with what they wrote; the pass that fed, behind the feed, its link before and behind that, and what it answered;
-- and the caller's pass behind the follow, with the same of its link, which gives at most so many bytes at once.
pub record Scene (H P A F X T I G C : Type 0) : Type 0 where
  pub rules : Rules
  pub namespace : List ℕ
  pub area : Area
  pub ends : BothEnds H P A F X T I G C
  pub caller : Session
  pub server : Session
  pub feeder : PassValue AuthorisedValue
  pub feeding : LinkFacts
  pub feeding' : LinkFacts
  pub fed : Fed
  pub after : PassValue AuthorisedValue
  pub most : ℕ
  pub following : LinkFacts
  pub following' : LinkFacts
  pub report : FollowReport

-- Both sessions answered Ok, and each was the other end of the other.
-- `ends`, `called`, `served`: each was sent what the other wrote to it, by one scheme and in one namespace.
-- `in_box`: the box of their exchange has all rows of the area. `caller_offers`: the caller offered none but rows of its store as
-- its session opened. `server_offers`: the server offered all rows of the area of its store, with no limit.
-- `authorised`: the rows that the server offered are authorised for the caller.
pub record HaveMet {H P A F X T I G C : Type 0} (r : Scene H P A F X T I G C) : Type 0 where
  pub ends : AreEnds r.ends
  pub called : HasRun r.rules r.namespace r.caller (got (calling r.ends.pair) r.ends.by_server)
  pub served : HasRun r.rules r.namespace r.server (got (answering r.ends.pair) r.ends.by_caller)
  pub in_box : (row : RowValue) → has_entry r.area row ≡ true → r.ends.rules.has r.ends.box row ≡ true
  pub caller_offers : (row : RowValue) → Contains r.ends.caller_rows row → Contains (live (log_rows r.caller.opening)) row
  pub server_offers : (row : RowValue) → Contains (live (log_rows r.server.opening)) row → has_entry r.area row ≡ true → Contains r.ends.server_rows row
  pub authorised : All (IsAuthorisedRow r.rules r.namespace) r.ends.server_rows

-- the rows that the server is to feed: those of the area behind what its session opened with, but for those of that session's
-- pass
abbrev pub rows_to_feed : {H P A F X T I G C : Type 0} → Scene H P A F X T I G C → List RowValue
rows_to_feed r = fed (logged entry_row r.feeder.seen) r.area r.server.after.number (length r.server.opening) (length r.feeder.seen)

-- The feed and the follow behind two such sessions answered Ok.
-- `fed_later`, `fed_pass`: the feed was called over the cell of the server's session, after it: the pass that fed had then seen a
-- log of which the other had seen a front. `none_stored`: the session's pass stored nothing from its end to the feed's.
-- `feeds`: the feed was of the area that both may read, with the session's number, from what that opened with.
-- `follows`: the caller followed with the pass of its session, after it, over the same area.
-- `tells`, `took`: the server's link tells its bytes, and those that the follow took are those that the feed wrote.
-- `authorised`: all rows that were fed are authorised for the caller.
pub record IsFollowed {H P A F X T I G C : Type 0} (r : Scene H P A F X T I G C) : Type 0 where
  pub met : HaveMet r
  pub fed_later : IsPrefix r.server.after.seen r.feeder.seen
  pub fed_pass : IsPass entry_row r.feeder
  pub none_stored : rows_of_pass r.server.after.number r.feeder.seen ≡ r.server.after.own
  pub feeds : IsFed (rows_to_feed r) (length r.feeder.seen) r.feeding r.feeding' r.fed
  pub follows : Follows r.rules r.namespace r.area r.most r.caller.after r.after r.following r.following' (Ok r.report)
  pub told : List ℕ
  pub tells : r.feeding.held ≡ Some told
  pub took : Extends r.feeding.held r.feeding'.held follows.bytes
  pub authorised : All (IsAuthorisedRow r.rules r.namespace) (rows_to_feed r)

-- Then the caller's store, what is live of all that its pass has seen, covers each row of the server's store in the area, as far
-- as the feed went.
abbrev pub FollowingCovers : (H P A F X T I G C : Type 0) → Type 0
FollowingCovers H P A F X T I G C = (r : Scene H P A F X T I G C) → IsFollowed r
    → (row : RowValue) → Contains (live (log_rows r.feeder.seen)) row → has_entry r.area row ≡ true → HasCovering (live (log_rows r.after.seen)) row
