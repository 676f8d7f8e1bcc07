-- What every run keeps: the headline, why each status comes, and that a command that is ready comes to its end.
use Rattle.std.specs.Prelude.{◌≡◌, ◌≢◌, ℕ, ◌≤◌, ◌⊎◌, List, Contains, Option, Some, Result, Ok, Err}
use Rattle.willow_outside.specs.Counts.{Rose}
use Rattle.peer_stage.specs.World.{NeverFall, Unfailed}
use Rattle.peer_stage.specs.Status.{status_of}
use Rattle.peer_stage.specs.Stages.{IsWritten}
use Rattle.session_end.specs.declared.end.SessionEnd.{SessionEnd}
use Rattle.session_end.specs.declared.end.SessionEnd.TheVariants as ending
use Rattle.peer_stage.specs.declared.outcome.FollowCounts.{FollowCounts}
use Rattle.peer_stage.specs.declared.outcome.SessionCounts.{SessionCounts}
use Rattle.peer_stage.specs.declared.outcome.Done.{Done}
use Rattle.peer_stage.specs.declared.outcome.Done.TheVariants as done
use Rattle.peer_stage.specs.declared.outcome.Hosted.{Hosted}
use Rattle.peer_stage.specs.declared.outcome.Stop.{Stop}
use Rattle.peer_stage.specs.declared.outcome.Stop.TheVariants as stop
use Rattle.peer_report.specs.Report.{IsReportWithoutMemory, report_of}
use Rattle.peer_words.specs.Commands.{IsWords, IsNoCommand}
use Rattle.peer_words.specs.declared.command.Command.{Command}
use Rattle.peer_run.specs.Deeds.{deed_of}
use Rattle.peer_run.specs.Run.{Run, RunsWords, before_report}
use Rattle.peer_run.specs.Headline.{Headline}
use Rattle.peer_run.specs.MeetHeadline.{MeetHeadline}
use Rattle.peer_run.specs.WatchHeadline.{WatchHeadline}
use Rattle.peer_run.specs.Ending.{HasTold}
use Rattle.peer_run.specs.HostHeadline.{SyncHeadline, ServeHeadline}

-- ---- 0 and 1

-- what was to be made is refused
abbrev pub IsRefusedMaking : Stop → Type 0
IsRefusedMaking (stop.Refused refusal) = Unit {0}
IsRefusedMaking e = ⊥

-- an end of a command that gives 0 or 1: what was to be done is done, or what was to be made is refused
abbrev pub IsEnd : Result Done Stop → Type 0
IsEnd (Ok (done.Stopped s)) = IsRefusedMaking s.stop
IsEnd (Ok d) = Unit {0}
IsEnd (Err e) = IsRefusedMaking e

-- The words are a command that came to such an end, and its lines are reported.
pub record HasEnded (run : Run) : Type 0 where
  pub command : Command
  pub is_words : IsWords run.words command
  pub end : Result Done Stop
  pub is_end : IsEnd end
  pub meets : (deed_of command).meets run.old (before_report run) end
  pub reported : IsWritten run.old.report run.new.report (report_of end)
  pub status_is : run.status ≡ status_of end

-- ---- 2

-- the words are no command, or one that is not built yet
abbrev pub IsNoRun : List (List ℕ) → Type 0
IsNoRun words = IsNoCommand words ⊎ ((command : Command) × IsWords words command × (deed_of command).unbuilt)

-- the words are a command that is built
abbrev pub IsSomeRun : List (List ℕ) → Type 0
IsSomeRun words = (command : Command) × IsWords words command × ((deed_of command).unbuilt → ⊥)

-- ---- 3 and 4

-- The words are a command, and a count of what it reads rose.
pub record HasReadFault (run : Run) : Type 0 where
  pub command : Command
  pub is_words : IsWords run.words command
  pub rose : (deed_of command).reads run.old (before_report run)

-- The words are a command, and a count of what it writes rose, or that of the report.
pub record HasWriteFault (run : Run) : Type 0 where
  pub command : Command
  pub is_words : IsWords run.words command
  pub rose : (deed_of command).writes run.old (before_report run) ⊎ Rose run.old.report.faults run.new.report.faults

-- ---- 5, 6, 8 and 9

-- bytes of the input or of a name are not in their grammar or too many, a name is missing or taken
abbrev pub IsBadStop : Stop → Type 0
IsBadStop (stop.BadInput origin at) = Unit {0}
IsBadStop (stop.NotRising origin row) = Unit {0}
IsBadStop (stop.Pruned origin row by) = Unit {0}
IsBadStop (stop.Missing name) = Unit {0}
IsBadStop (stop.Taken name) = Unit {0}
IsBadStop e = ⊥

-- a run stopped so, with a log open or without
abbrev pub IsBadEnd : Result Done Stop → Type 0
IsBadEnd (Err e) = IsBadStop e
IsBadEnd (Ok (done.Stopped s)) = IsBadStop s.stop
IsBadEnd end = ⊥

-- what was read in a session is refused, or ended too early; no session fails to sign
abbrev pub IsRefusedSession : Result SessionCounts SessionEnd → Type 0
IsRefusedSession (Err (ending.ClosedEarly at)) = Unit {0}
IsRefusedSession (Err (ending.BadMessage at)) = Unit {0}
IsRefusedSession (Err (ending.Hello refusal)) = Unit {0}
IsRefusedSession (Err (ending.Core refusal)) = Unit {0}
IsRefusedSession session = ⊥

-- one of the sessions is such a one
abbrev pub HasSession : (Result SessionCounts SessionEnd → Type 0) → Hosted → Type 0
HasSession IsOne s = (session : Result SessionCounts SessionEnd) × Contains s.sessions.items session × IsOne session

-- what was read of a feed behind a session is refused so, or ended too early
abbrev pub IsRefusedFeed : Option (Result FollowCounts SessionEnd) → Type 0
IsRefusedFeed (Some (Err end)) = IsRefusedSession (Err end)
IsRefusedFeed followed = ⊥

-- one of the feeds behind the sessions is such a one
abbrev pub HasFeed : (Option (Result FollowCounts SessionEnd) → Type 0) → Hosted → Type 0
HasFeed IsOne s = (followed : Option (Result FollowCounts SessionEnd)) × Contains s.tails.items followed × IsOne followed

-- a session is refused before it begins
abbrev pub IsRefusedStop : Stop → Type 0
IsRefusedStop (stop.SessionRefused refusal) = Unit {0}
IsRefusedStop e = ⊥

-- a session is refused before it begins or in it, or a feed behind it
abbrev pub IsRefusedEnd : Result Done Stop → Type 0
IsRefusedEnd (Err e) = IsRefusedStop e
IsRefusedEnd (Ok (done.Stopped s)) = IsRefusedStop s.stop
IsRefusedEnd (Ok (done.Hosted s)) = HasSession IsRefusedSession s ⊎ HasFeed IsRefusedFeed s
IsRefusedEnd end = ⊥

-- a session left rows uncovered for which the log had no room
abbrev pub IsFullSession : Result SessionCounts SessionEnd → Type 0
IsFullSession (Err (ending.LogFull missed)) = Unit {0}
IsFullSession session = ⊥

-- a feed left such rows
abbrev pub IsFullFeed : Option (Result FollowCounts SessionEnd) → Type 0
IsFullFeed (Some (Err end)) = IsFullSession (Err end)
IsFullFeed followed = ⊥

-- a row of what is read before sessions met one
abbrev pub IsFullStop : Stop → Type 0
IsFullStop stop.LogFull = Unit {0}
IsFullStop e = ⊥

-- a row that would be stored met a full log
abbrev pub IsFullEnd : Result Done Stop → Type 0
IsFullEnd (Err e) = IsFullStop e
IsFullEnd (Ok (done.Stopped s)) = IsFullStop s.stop
IsFullEnd (Ok (done.Hosted s)) = HasSession IsFullSession s ⊎ HasFeed IsFullFeed s
IsFullEnd end = ⊥

-- a key file has no index left
abbrev pub IsSpentStop : Stop → Type 0
IsSpentStop stop.KeySpent = Unit {0}
IsSpentStop e = ⊥

-- a run stopped for that
abbrev pub IsSpentEnd : Result Done Stop → Type 0
IsSpentEnd (Err e) = IsSpentStop e
IsSpentEnd (Ok (done.Stopped s)) = IsSpentStop s.stop
IsSpentEnd end = ⊥

-- the words are a command that ended so, which is one of these ends, and the report tells just this one
pub record HasStopped (IsOne : Result Done Stop → Type 0) (run : Run) : Type 0 where
  pub command : Command
  pub is_words : IsWords run.words command
  pub end : Result Done Stop
  pub is_one : IsOne end
  pub meets : (deed_of command).meets run.old (before_report run) end
  pub told : HasTold run.old.report run.new.report (report_of end)

-- ---- 7

-- no memory was found for the lines of the report
pub record LacksLines (run : Run) : Type 0 where
  pub end : Result Done Stop
  pub other : status_of end ≢ 7
  pub lines : IsReportWithoutMemory run.old.report run.new.report end run.status

-- No fault is hidden by want of memory: before the report no count of faults rose; or the words are a server's, which listened at
-- its place, went on behind a link that failed to come, and wanted memory later; or the report found none for its lines.
abbrev pub HidesNone : Run → Type 0
HidesNone run =
    Unfailed run.old (before_report run) ⊎ (((command : Command) × IsWords run.words command × (deed_of command).wants_later run.old (before_report run)) ⊎ LacksLines run)

-- ---- completeness

-- The words are a command, and it is ready: no condition keeps it from its end.
pub record CanEnd (run : Run) : Type 0 where
  pub some_command : Command
  pub is_words : IsWords run.words some_command
  pub is_ready : (command : Command) → IsWords run.words command → (deed_of command).ready run.old (before_report run)

-- no count of faults rose in the run, of the objects that its command calls and of the report
pub record HasNoFault (run : Run) : Type 0 where
  pub reads : (command : Command) → IsWords run.words command → (deed_of command).reads run.old (before_report run) → ⊥
  pub writes : (command : Command) → IsWords run.words command → (deed_of command).writes run.old (before_report run) → ⊥
  pub report_stands : Rose run.old.report.faults run.new.report.faults → ⊥

-- ---- all of it

pub record KeepsPromises (run : Run) : Type 0 where
  -- what the run does, by its command and its end, and what the report and the status say of it
  pub runs : RunsWords run
  -- a join leaves the join of all authorised entries
  pub joined : Headline run
  -- a watch leaves the image of both, and those who watch hear of what is new of the input
  pub watched : WatchHeadline run
  -- a meeting leaves each side the join of its rows with those sent to it, which the rows in the area alone decide
  pub met : MeetHeadline run
  -- a call stores what came and is authorised, over the link that the door has back
  pub synced : SyncHeadline run
  -- a server stores what came and is authorised, over the links that the door has back
  pub served : ServeHeadline run
  -- 0 and 1: the command came to its end, and its lines are reported
  pub ended : run.status ≤ 1 → HasEnded run
  -- 2: the words are no command, or one that is not built yet
  pub usage : run.status ≡ 2 → IsNoRun run.words
  -- and nothing but the report is touched
  pub untouched : run.status ≡ 2 → before_report run ≡ run.old
  -- at any other but 7 the words are a command that is built
  pub command : run.status ≢ 2 → run.status ≢ 7 → IsSomeRun run.words
  -- 3: a count rose of what the command reads
  pub read_fault : run.status ≡ 3 → HasReadFault run
  -- 4: a count rose of what it writes, or that of the report
  pub write_fault : run.status ≡ 4 → HasWriteFault run
  -- 5: bytes or a name are not as they must be, and the report tells which
  pub bad_input : run.status ≡ 5 → HasStopped IsBadEnd run
  -- 6: a session is refused, and the report tells why
  pub refused : run.status ≡ 6 → HasStopped IsRefusedEnd run
  -- 8: a row met a full log, and the report tells it
  pub log_full : run.status ≡ 8 → HasStopped IsFullEnd run
  -- 9: a key file has no index left, and the report tells it
  pub key_spent : run.status ≡ 9 → HasStopped IsSpentEnd run
  -- at 0, 1, 2, 5, 6, 8 and 9 no fault was passed over: before the report no count of faults rose of any object
  pub unfailed : run.status ≢ 3 → run.status ≢ 4 → run.status ≢ 7 → Unfailed run.old (before_report run)
  -- and 7 hides none
  pub want : run.status ≡ 7 → HidesNone run
  -- and at 0 and 1 that of the report did not rise either
  pub report_unfailed : run.status ≤ 1 → run.new.report.faults ≡ run.old.report.faults
  -- no other status comes but 7, for want of memory
  pub statuses : run.status ≤ 9
  -- no count falls, that of the report's faults included
  pub counts : NeverFall run.old run.new
  -- a command that is ready comes to its end, but for faults and want of memory
  pub complete : CanEnd run → HasNoFault run → run.status ≢ 7 → run.status ≤ 1
