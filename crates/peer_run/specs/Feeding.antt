-- What a server that is followed does behind all its sessions, before it gives the links back: over each link whose session came
-- to an area it feeds the rows that came into the log since that session began.
use Rattle.std.specs.Prelude.{◌≡◌, ℕ, ◌+◌, ◌<◌, ◌≤◌, Bool, true, List, length, get_or, Some, None, Ok, IfOk}
use Rattle.std.specs.declared.option.Option.{Option}
use Rattle.willow_outside.specs.Facts.{LinkFacts}
use Rattle.willow_area.specs.declared.area.Area.{Area}
use Rattle.willow_entry.specs.declared.row.LogRow.{LogRow}
use Rattle.auth_entry.specs.Authorised.{AuthorisedValue}
use Rattle.auth_entry.specs.Rows.{entry_row}
use Rattle.ns_state.specs.Log.{logged}
use Rattle.ns_cell.specs.Passes.{PassValue, IsLater, IsPass}
use Rattle.row_intake.specs.Links.{ReadsNothing}
use Rattle.sync_follow.specs.Feeding.{WritesFeed}
use Rattle.sync_follow.specs.Feeds.{fed}
use Rattle.sync_link.specs.Run.{Answer}
use Rattle.peer_run.specs.declared.tails.Tail.{Tail}
use Rattle.peer_run.specs.declared.tails.Tail.TheVariants.{Nothing, Fed}

-- ---- one link

-- Of the log the rows from this position on that the area includes and that are not of this number were fed, or a front of the feed
-- of these was written, and why; nothing was read. Where there is no area the link is as it was.
abbrev pub FeedsArea : List (LogRow AuthorisedValue) → ℕ → ℕ → Option Area → LinkFacts → LinkFacts → Tail → Type 0
FeedsArea log number from None old new Nothing = new ≡ old
FeedsArea log number from (Some area) old new (Fed answer) = WritesFeed (fed (logged entry_row log) area number from (length log)) (length log) old new answer × ReadsNothing old new
FeedsArea log number from area old new tail = ⊥

-- so it is behind the session of this number where links are fed, from where that began and of the area that it came to, if it was
-- done; else nothing is fed
abbrev pub FeedsBehind : Bool → List (LogRow AuthorisedValue) → ℕ → Answer → LinkFacts → LinkFacts → Tail → Type 0
FeedsBehind true log number (Ok report) = FeedsArea log number report.opened report.area
FeedsBehind feeds log number answer = FeedsArea log number 0 None

-- the pass has seen all of the log with which the session began, where that was done
abbrev pub HasSeenOpening : PassValue AuthorisedValue → Answer → Type 0
HasSeenOpening pass answer = IfOk answer (λ report. report.opened ≤ length pass.seen)

-- ---- all of them

-- so it is over each link, behind the sessions numbered from this number on
abbrev pub AreFed : Bool → List (LogRow AuthorisedValue) → ℕ → List Answer → List LinkFacts → List LinkFacts → List Tail → Type 0
AreFed feeds log from answers olds news tails = (at : ℕ) (answer : Answer) (old new : LinkFacts) (tail : Tail) → at < length olds
    → FeedsBehind feeds log (from + at) (get_or answers at answer) (get_or olds at old) (get_or news at new) (get_or tails at tail)

-- One pass went over all links, and stored nothing. Where nothing came to the log meanwhile, all feeds are of the log that it had
-- seen.
pub record FeedsAll (feeds : Bool) (from : ℕ) (before after : PassValue AuthorisedValue) (answers : List Answer) (olds news : List LinkFacts) (tails : List Tail) : Type 0 where
  pub is_pass : IsPass entry_row before
  pub later : IsLater before after
  pub own : after.own ≡ before.own
  pub as_many : (length news ≡ length olds) × (length tails ≡ length olds)
  pub fed : after.seen ≡ before.seen → AreFed feeds before.seen from answers olds news tails
