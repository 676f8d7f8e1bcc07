-- What is told of sessions and of what followed them: how each ended, and the first refused row.
use Rattle.std.specs.Prelude.{◌≡◌, ℕ, ◌+◌, Bool, true, List, [], ◌∷◌, ◌++◌, map, All, Option, Some, None, option_map, Result, Ok, Err}
use Rattle.std.specs.List.{sum_by}
use Rattle.spelling.specs.Answers.{or_else}
use Rattle.auth_entry.specs.Authorised.{AuthorisedValue}
use Rattle.mc_cap.specs.declared.refusal.RefusedRow.{RefusedRow}
use Rattle.mc_cap.specs.declared.refusal.RowRefusal.{RowRefusal}
use Rattle.ns_state.specs.Log.{StateValue}
use Rattle.session_end.specs.declared.end.SessionEnd.{SessionEnd}
use Rattle.session_end.specs.declared.end.SessionEnd.TheVariants as ending
use Rattle.sync_follow.specs.declared.report.FollowReport.{FollowReport}
use Rattle.sync_link.specs.Run.{Answer}
use Rattle.peer_stage.specs.Status.{session_status, tail_status, accept_status, put_status, first_status}
use Rattle.peer_stage.specs.declared.outcome.Done.{Done}
use Rattle.peer_stage.specs.declared.outcome.Done.TheVariants as done
use Rattle.peer_stage.specs.declared.outcome.FollowCounts.{FollowCounts}
use Rattle.peer_stage.specs.declared.outcome.Hosted.{Hosted}
use Rattle.peer_stage.specs.declared.outcome.SessionCounts.{SessionCounts}
use Rattle.peer_run.specs.Closing.{IsForWant, counts_of, refused_after}
use Rattle.peer_run.specs.declared.hosting.Attended.{Attended}
use Rattle.peer_run.specs.declared.tails.Tail.{Tail}
use Rattle.peer_run.specs.declared.tails.Tail.TheVariants.{Fed, Followed}

-- ---- of each session

-- the numbers of a session, or how else it ended
abbrev pub told_of : Answer → Result SessionCounts SessionEnd
told_of (Ok report) = Ok (counts_of report)
told_of (Err end) = Err end

-- how many rows came in a session that was done
abbrev pub rows_told : Answer → ℕ
rows_told (Ok report) = report.stored + (report.kept + report.refused)
rows_told (Err end) = 0

-- the first row that was refused in a session that was done
abbrev pub refused_in : Answer → Option RefusedRow
refused_in (Ok report) = report.first
refused_in (Err end) = None

-- the first refused row of all sessions, numbered over so many rows and then those that came, link by link
abbrev pub first_of_links : ℕ → List Answer → Option RefusedRow
first_of_links before [] = None
first_of_links before (answer ∷ answers) = or_else (refused_after before (refused_in answer)) (first_of_links (before + rows_told answer) answers)

-- memory was wanting in none of the sessions
abbrev pub AreNotForWant : List Answer → Type 0
AreNotForWant answers = All (λ answer. IsForWant answer → ⊥) answers

-- ---- of what followed each session

-- the numbers of a feed that was read whole
abbrev pub feed_counts : FollowReport → FollowCounts
feed_counts r = record { read = r.read; stored = r.stored; kept = r.kept; refused = r.refused }

-- one who followed tells these numbers, or how else it ended; one who fed only that
abbrev pub told_tail : Tail → Option (Result FollowCounts SessionEnd)
told_tail (Followed (Ok report)) = Some (Ok (feed_counts report))
told_tail (Followed (Err end)) = Some (Err end)
told_tail (Fed (Err end)) = Some (Err end)
told_tail tail = None

-- it is want of memory
abbrev pub IsWant : SessionEnd → Type 0
IsWant ending.NoMemory = Unit {0}
IsWant end = ⊥

-- memory was wanting in what followed
abbrev pub IsTailForWant : Tail → Type 0
IsTailForWant (Fed (Err end)) = IsWant end
IsTailForWant (Followed (Err end)) = IsWant end
IsTailForWant tail = ⊥

-- memory was wanting in nothing that followed
abbrev pub AreTailsNotForWant : List Tail → Type 0
AreTailsNotForWant tails = All (λ tail. IsTailForWant tail → ⊥) tails

-- a row by its number, and why it is refused
abbrev pub refused_row : ℕ × RowRefusal → RefusedRow
refused_row first = record { row = first.0; refusal = first.1 }

-- the first row that was refused in a feed that was read whole, by its number there
abbrev pub refused_in_tail : Tail → Option RefusedRow
refused_in_tail (Followed (Ok report)) = option_map refused_row report.first
refused_in_tail tail = None

-- the same of all feeds
abbrev pub first_in_tails : List Tail → Option RefusedRow
first_in_tails [] = None
first_in_tails (tail ∷ tails) = or_else (refused_in_tail tail) (first_in_tails tails)

-- the first refused row of all: this one, or that of the sessions, or that of the feed, whose rows are numbered over so many, then
-- those of the sessions
abbrev pub first_with_tails : ℕ → Option RefusedRow → List Answer → List Tail → Option RefusedRow
first_with_tails before first answers tails = or_else (or_else first (first_of_links before answers)) (refused_after (before + sum_by rows_told answers) (first_in_tails tails))

-- ---- of all of them

-- how the sessions ended, and what followed each, whether all links came, the first refused row, how many of those who watch left,
-- whether the image was put, and the log so far
pub record Told : Type 0 where
  pub answers : List Answer
  pub tails : List Tail
  pub all_came : Bool
  pub first : Option RefusedRow
  pub left : ℕ
  pub put : Bool
  pub state : StateValue AuthorisedValue

-- before any link: this is the log of the image, of which this is the first refused row
abbrev pub none_told : StateValue AuthorisedValue → Option RefusedRow → Told
none_told state first = record { answers = []; tails = []; all_came = true; first = first; left = 0; put = true; state = state }

-- behind the sessions over all links, which began behind an image of so many rows
abbrev pub told_behind : ℕ → Option RefusedRow → Attended → Told
told_behind rows first x = record { answers = x.ends.items; tails = x.tails.items; all_came = x.all_came; first = first_with_tails rows first x.ends.items x.tails.items; left = x.left; put = true; state = x.state }

-- the statuses of what was met
abbrev pub statuses : Told → List ℕ
statuses t = map session_status (map told_of t.answers) ++ (map tail_status (map told_tail t.tails) ++ (accept_status t.all_came ∷ (put_status t.put ∷ (first_status t.first ∷ []))))

-- The end of a command tells just this, and no log is kept.
pub record TellsJust (awaited : Bool) (t : Told) (s : Hosted) : Type 0 where
  pub awaited_is : s.awaited ≡ awaited
  pub sessions : s.sessions.items ≡ map told_of t.answers
  pub tails : s.tails.items ≡ map told_tail t.tails
  pub accepted_is : s.all_came ≡ t.all_came
  pub first_is : s.first ≡ t.first
  pub left_is : s.left ≡ t.left
  pub no_log : s.kept ≡ None
  pub put_is : s.put ≡ t.put

abbrev pub TellsHosted : Bool → Told → Done → Type 0
TellsHosted awaited t (done.Hosted s) = TellsJust awaited t s
TellsHosted awaited t d = ⊥
