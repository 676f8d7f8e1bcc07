-- What one who calls does over its link: a session, and where it follows the feed behind that.
use Rattle.std.specs.Prelude.{◌≡◌, ◌⊎◌, ℕ, Bool, true, List, [], Some, None, Ok}
use Rattle.std.specs.declared.option.Option.{Option}
use Rattle.willow_outside.specs.Facts.{LinkFacts}
use Rattle.willow_area.specs.declared.area.Area.{Area}
use Rattle.willow_entry.specs.Row.{live}
use Rattle.auth_entry.specs.Authorised.{AuthorisedValue}
use Rattle.scheme_core.specs.Rules.{Rules}
use Rattle.ns_cell.specs.Passes.{PassValue}
use Rattle.sync_follow.specs.Follows.{FollowAnswer, Follows}
use Rattle.sync_link.specs.Kept.{log_rows}
use Rattle.sync_link.specs.Run.{Answer, Runs, CanEndUnread, StopsInTime}
use Rattle.sync_link.specs.Sessions.{Party}
use Rattle.peer_run.specs.declared.tails.Tail.{Tail}
use Rattle.peer_run.specs.declared.tails.Tail.TheVariants.{Nothing, Followed}

-- the area of the feed behind a session: that which both sides may read, where it is followed, was done and came to one
abbrev pub area_to_follow : Bool → Answer → Option Area
area_to_follow true (Ok report) = report.area
area_to_follow follows answer = None

-- A feed of the area was followed over the link, which gives at most so many bytes at once.
pub record HasFollowed (rules : Rules) (namespace : List ℕ) (area : Area) (before after : PassValue AuthorisedValue) (link link' : LinkFacts) (answer : FollowAnswer) : Type 0 where
  pub most : ℕ
  pub follows : Follows rules namespace area most before after link link' answer

-- where there is such an area a feed of it was followed, and else nothing more was done
abbrev pub FollowsBehind : Rules → List ℕ → Option Area → PassValue AuthorisedValue → PassValue AuthorisedValue → LinkFacts → LinkFacts → Tail → Type 0
FollowsBehind rules namespace None before after link link' Nothing = (after ≡ before) × (link' ≡ link)
FollowsBehind rules namespace (Some area) before after link link' (Followed answer) = HasFollowed rules namespace area before after link link' answer
FollowsBehind rules namespace area before after link link' tail = ⊥

-- Nothing was read, or all but the last byte of what was read left the session open: nothing behind its end was taken.
abbrev pub EndsAtByte : {p : List ℕ → Party} {gives : List ℕ → List ℕ → Bool} {before after : PassValue AuthorisedValue} {link link' : LinkFacts} {answer : Answer} → Runs p gives before after link link' 0 0 answer → Type 0
EndsAtByte {p} {gives} {before} {after} {link} {link'} {answer} ran = (CanEndUnread answer × (ran.bytes ≡ [])) ⊎ StopsInTime (p ran.signature) (live (log_rows ran.log)) 1 ran.bytes ran.written

-- What one did over its link whose session is of a side that brings this.
-- `between`, `behind`: the pass and the link behind the session and before what followed it.
-- `ran`, `by_byte`: the session; where it is followed, the link is read a byte at a time.
-- `followed`: what followed it, over the bytes behind those.
pub record TalksOverLink (follows : Bool) (p : List ℕ → Party) (gives : List ℕ → List ℕ → Bool) (before after : PassValue AuthorisedValue) (link link' : LinkFacts) (answer : Answer) (tail : Tail) : Type 0 where
  pub between : PassValue AuthorisedValue
  pub behind : LinkFacts
  pub ran : Runs p gives before between link behind 0 0 answer
  pub by_byte : follows ≡ true → EndsAtByte ran
  pub followed : FollowsBehind (p ran.signature).rules (p ran.signature).namespace (area_to_follow follows answer) between after behind link' tail
