-- What followed a session on its link: the pass is the same later, and no count fell.
use Rattle.std.proofs.Common.{◌≡◌, ◌≤◌, ℕ, Bool, true, false, List, Option, Some, None, sym, subst, arith}
use Rattle.std.specs.Prelude.{Result, Ok, Err}
use Rattle.scheme_core.specs.Rules.{Rules}
use Rattle.willow_outside.specs.Facts.{LinkFacts}
use Rattle.willow_area.specs.declared.area.Area.{Area}
use Rattle.willow_entry.specs.declared.row.LogRow.{LogRow}
use Rattle.willow_entry.specs.Row.{RowValue}
use Rattle.auth_entry.specs.Authorised.{AuthorisedValue}
use Rattle.ns_cell.specs.Passes.{PassValue, IsLater}
use Rattle.session_end.specs.declared.end.SessionEnd.{SessionEnd}
use Rattle.session_end.specs.declared.end.SessionEnd.TheVariants as ending
use Rattle.row_intake.specs.Answers.{CountsReads}
use Rattle.sync_follow.specs.Feeding.{WritesFeed}
use Rattle.sync_follow.specs.declared.feeding.Fed.{Fed as FedCounts}
use Rattle.sync_link.specs.Run.{Answer}
use Rattle.sync_link.proofs.Offered.{later_self}
use Rattle.peer_run.specs.Feeding.{FeedsArea, FeedsBehind}
use Rattle.peer_run.specs.Following.{FollowsBehind, area_to_follow}
use Rattle.peer_run.specs.Visiting.{Visit, IsFollowedUp}
use Rattle.peer_run.specs.declared.tails.Tail.{Tail}
use Rattle.peer_run.specs.declared.tails.Tail.TheVariants.{Nothing, Fed, Followed}

-- ---- the pass

pub follows_later : (rules : Rules) (namespace : List ℕ) (area : Option Area) (before after : PassValue AuthorisedValue) (link link' : LinkFacts) (tail : Tail) → FollowsBehind rules namespace area before after link link' tail → IsLater before after
follows_later rules namespace None before after link link' Nothing did = subst (IsLater before) (sym did.0) (later_self before)
follows_later rules namespace (Some area) before after link link' (Followed answer) did = did.follows.later
follows_later rules namespace None before after link link' tail did = absurd did
follows_later rules namespace (Some area) before after link link' tail did = absurd did

pub followed_later : (awaited follows : Bool) (rules : Rules) (namespace : List ℕ) (log : List (LogRow AuthorisedValue)) (number : ℕ) (visit : Visit) → IsFollowedUp awaited follows rules namespace log number visit → IsLater visit.between visit.after
followed_later true follows rules namespace log number visit did = subst (IsLater visit.between) (sym did.same_pass) (later_self visit.between)
followed_later false follows rules namespace log number visit did = follows_later rules namespace (area_to_follow follows visit.answer) visit.between visit.after visit.behind visit.link visit.tail did

-- ---- the counts of the link

-- no count of failed reads or writes fell
pub record CountsUp (old new : LinkFacts) : Type 0 where
  pub reads : old.read_faults ≤ new.read_faults
  pub writes : old.write_faults ≤ new.write_faults

same_up : (old new : LinkFacts) → new ≡ old → CountsUp old new
same_up old new same = subst (λ (l : LinkFacts). CountsUp old l) (sym same) (record { reads = omega arith; writes = omega arith })

reads_up : {A : Type 0} (before now : ℕ) (answer : Result A SessionEnd) → CountsReads before now answer → before ≤ now
reads_up before now (Err ending.LinkRead) counts = counts.never_falls
reads_up before now (Err end) counts = omega (arith, counts)
reads_up before now (Ok report) counts = omega (arith, counts)

feed_up : (rows : List RowValue) (seen : ℕ) (old new : LinkFacts) (answer : Result FedCounts SessionEnd) → WritesFeed rows seen old new answer → old.write_faults ≤ new.write_faults
feed_up rows seen old new (Ok fed) did = omega (arith, did.faults)
feed_up rows seen old new (Err ending.LinkWrite) did = did.1.never_falls
feed_up rows seen old new (Err ending.NoMemory) did = omega (arith, did.1)
feed_up rows seen old new (Err end) did = absurd did

area_up : (log : List (LogRow AuthorisedValue)) (number from : ℕ) (area : Option Area) (old new : LinkFacts) (tail : Tail) → FeedsArea log number from area old new tail → CountsUp old new
area_up log number from None old new Nothing did = same_up old new did
area_up log number from (Some area) old new (Fed answer) did = record { reads = omega (arith, did.1.faults); writes = feed_up _ _ old new answer did.0 }
area_up log number from None old new tail did = absurd did
area_up log number from (Some area) old new tail did = absurd did

fed_up : (feeds : Bool) (log : List (LogRow AuthorisedValue)) (number : ℕ) (answer : Answer) (old new : LinkFacts) (tail : Tail) → FeedsBehind feeds log number answer old new tail → CountsUp old new
fed_up true log number (Ok report) old new tail did = area_up log number report.opened report.area old new tail did
fed_up true log number (Err end) old new tail did = area_up log number 0 None old new tail did
fed_up false log number answer old new tail did = area_up log number 0 None old new tail did

follows_up : (rules : Rules) (namespace : List ℕ) (area : Option Area) (before after : PassValue AuthorisedValue) (old new : LinkFacts) (tail : Tail) → FollowsBehind rules namespace area before after old new tail → CountsUp old new
follows_up rules namespace None before after old new Nothing did = same_up old new did.1
follows_up rules namespace (Some area) before after old new (Followed answer) did = record { reads = reads_up old.read_faults new.read_faults answer did.follows.reads; writes = omega (arith, did.follows.unwritten.faults) }
follows_up rules namespace None before after old new tail did = absurd did
follows_up rules namespace (Some area) before after old new tail did = absurd did

pub followed_up : (awaited follows : Bool) (rules : Rules) (namespace : List ℕ) (log : List (LogRow AuthorisedValue)) (number : ℕ) (visit : Visit) → IsFollowedUp awaited follows rules namespace log number visit → CountsUp visit.behind visit.link
followed_up true follows rules namespace log number visit did = fed_up follows log number visit.answer visit.behind visit.link visit.tail did.fed
followed_up false follows rules namespace log number visit did = follows_up rules namespace (area_to_follow follows visit.answer) visit.between visit.after visit.behind visit.link visit.tail did
