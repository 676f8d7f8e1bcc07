-- The status and the report's lines for each end of a run.
use Rattle.std.specs.Prelude.{◌≡◌, ℕ, ◌+◌, ◌==◌, nat_le, Bool, true, false, ◌&&◌, if◌then◌else◌, is_ok, ◌⊎◌, List, [], ◌∷◌, ◌++◌, map, codes, Option, Some, None, Result, Ok, Err}
use Rattle.std.specs.Fmt.{decimal}
use Rattle.std.specs.List.{list_all}
use Rattle.std.specs.String.{string_bytes}
use Rattle.willow_outside.specs.Counts.{Rose}
use Rattle.willow_outside.specs.Facts.{SinkFacts}
use Rattle.mc_cap.specs.declared.refusal.RowRefusal.{RowRefusal}
use Rattle.session_end.specs.declared.end.SessionEnd.{SessionEnd}
use Rattle.session_end.specs.declared.end.SessionEnd.TheVariants as ending
use Rattle.peer_text.specs.Refusals.{row_refusal_text}
use Rattle.peer_text.specs.Sessions.{session_end_text}
use Rattle.peer_stage.specs.Status.{status_of, tail_status, accept_status, put_status, first_status}
use Rattle.peer_stage.specs.Stages.{IsWritten, IsPartlyWritten}
use Rattle.peer_stage.specs.declared.outcome.JoinCounts.{JoinCounts}
use Rattle.peer_stage.specs.declared.outcome.ShowCounts.{ShowCounts}
use Rattle.peer_stage.specs.declared.outcome.SideCounts.{SideCounts}
use Rattle.peer_stage.specs.declared.outcome.MeetCounts.{MeetCounts}
use Rattle.peer_stage.specs.declared.outcome.FollowCounts.{FollowCounts}
use Rattle.peer_stage.specs.declared.outcome.SessionCounts.{SessionCounts}
use Rattle.peer_stage.specs.declared.outcome.Hosted.{Hosted}
use Rattle.peer_stage.specs.declared.outcome.WatchCounts.{WatchCounts}
use Rattle.mc_cap.specs.declared.refusal.RefusedRow.{RefusedRow}
use Rattle.peer_stage.specs.declared.outcome.Origin.{Origin}
use Rattle.peer_stage.specs.declared.outcome.Origin.TheVariants as origin
use Rattle.peer_stage.specs.declared.outcome.Done.{Done}
use Rattle.peer_stage.specs.declared.outcome.Done.TheVariants as done
use Rattle.peer_stage.specs.declared.outcome.Stop.{Stop}
use Rattle.peer_stage.specs.declared.outcome.Stop.TheVariants as stop

-- ---- the lines

-- a line ends with one newline byte
abbrev pub line : List ℕ → List ℕ
line text = text ++ 10 ∷ []

-- `rows N stored S kept K refused R`, the numbers in decimal
abbrev pub numbers_line : ℕ → ℕ → ℕ → ℕ → List ℕ
numbers_line rows stored kept refused = line (codes "rows " ++ (decimal rows ++ (codes " stored " ++ (decimal stored ++ (codes " kept " ++ (decimal kept ++ (codes " refused " ++ decimal refused)))))))

-- that line of a join
abbrev pub rows_line : JoinCounts → List ℕ
rows_line counts = numbers_line counts.rows counts.stored counts.kept counts.refused

-- `rows N refused R`
abbrev pub shown_line : ShowCounts → List ℕ
shown_line counts = line (codes "rows " ++ (decimal counts.rows ++ (codes " refused " ++ decimal counts.refused)))

-- `NAME rows A stored S kept K` of one side of a meeting
abbrev pub side_line : List ℕ → SideCounts → List ℕ
side_line name counts = line (name ++ (codes " rows " ++ (decimal counts.rows ++ (codes " stored " ++ (decimal counts.stored ++ (codes " kept " ++ decimal counts.kept))))))

-- `items I turns T`
abbrev pub exchange_line : ℕ → ℕ → List ℕ
exchange_line items turns = line (codes "items " ++ (decimal items ++ (codes " turns " ++ decimal turns)))

-- the lines of a meeting: those of the left side, of the right side, and of the exchange
abbrev pub met_lines : MeetCounts → List ℕ
met_lines counts = side_line (codes "left") counts.left ++ (side_line (codes "right") counts.right ++ exchange_line counts.items counts.turns)

-- the text of a refusal, as the end of a line
abbrev pub refused_line : RowRefusal → List ℕ
refused_line refusal = line (row_refusal_text refusal)

-- `first refused row I: TEXT`, where a row was refused
abbrev pub first_line : Option RefusedRow → List ℕ
first_line None = []
first_line (Some first) = codes "first refused row " ++ (decimal first.row ++ (codes ": " ++ refused_line first.refusal))

-- `opened F closed G stored S kept K refused R sent X read Y` of a session that was done
abbrev pub log_text : SessionCounts → List ℕ
log_text counts = codes "opened " ++ (decimal counts.opened ++ (codes " closed " ++ (decimal counts.closed ++ (codes " stored " ++ (decimal counts.stored ++ (codes " kept " ++ decimal counts.kept))))))

abbrev pub items_line : SessionCounts → List ℕ
items_line counts = line (codes " refused " ++ (decimal counts.refused ++ (codes " sent " ++ (decimal counts.sent ++ (codes " read " ++ decimal counts.read)))))

abbrev pub counts_line : SessionCounts → List ℕ
counts_line counts = log_text counts ++ items_line counts

-- that line, or how else the session ended
abbrev pub session_line : Result SessionCounts SessionEnd → List ℕ
session_line (Ok counts) = counts_line counts
session_line (Err end) = line (session_end_text end)

-- `followed N stored S kept K refused R` of a feed that was read whole, or how else the following ended
abbrev pub followed_line : Result FollowCounts SessionEnd → List ℕ
followed_line (Ok counts) = line (codes "followed " ++ (decimal counts.read ++ (codes " stored " ++ (decimal counts.stored ++ (codes " kept " ++ (decimal counts.kept ++ (codes " refused " ++ decimal counts.refused)))))))
followed_line (Err end) = line (session_end_text end)

-- `left N`, where at least one watcher left
abbrev pub left_line : ℕ → List ℕ
left_line left = if left == 0 then [] else line (codes "left " ++ decimal left)

-- `kept N`, where a log was kept
abbrev pub kept_line : Option ℕ → List ℕ
kept_line None = []
kept_line (Some rows) = line (codes "kept " ++ decimal rows)

-- `write fault` where the image was not put
abbrev pub put_line : Bool → List ℕ
put_line true = []
put_line false = line (codes "write fault")

-- `link I: ` of a link that was waited for; of one that was called for nothing, since it is the only one
abbrev pub link_number : Bool → ℕ → List ℕ
link_number false number = []
link_number true number = codes "link " ++ (decimal number ++ codes ": ")

-- that and how the session of the link ended
abbrev pub link_line : Bool → ℕ → Result SessionCounts SessionEnd → List ℕ
link_line awaited number session = link_number awaited number ++ session_line session

-- that and what came of following behind it, where there is something to tell
abbrev pub tail_line : Bool → ℕ → Option (Result FollowCounts SessionEnd) → List ℕ
tail_line awaited number None = []
tail_line awaited number (Some followed) = link_number awaited number ++ followed_line followed

-- the line of each of a list in order, the first of this number
abbrev pub numbered : {X : Type 0} → (ℕ → X → List ℕ) → ℕ → List X → List ℕ
numbered line_of from [] = []
numbered line_of from (x ∷ rest) = line_of from x ++ numbered line_of (from + 1) rest

-- nothing was followed, or it came to its end
abbrev pub is_followed : Option (Result FollowCounts SessionEnd) → Bool
is_followed None = true
is_followed (Some followed) = is_ok followed

-- the row that is told as the first refused one: where every session was done, and what followed it, all links came and the
-- image was put, so at status 1 alone
abbrev pub hosted_first : Hosted → Option RefusedRow
hosted_first s = if list_all is_ok s.sessions.items && list_all is_followed s.tails.items && s.all_came && s.put then s.first else None

-- `read fault` where not all links came
abbrev pub accept_line : Bool → List ℕ
accept_line true = []
accept_line false = line (codes "read fault")

-- the lines of sessions over links: one of each, one of what followed each, the watchers that left, the first refused row,
-- what the log keeps, whether all links came, and whether the image was put
abbrev pub hosted_lines : Hosted → List ℕ
hosted_lines s =
    numbered (link_line s.awaited) 1 s.sessions.items
    ++ (numbered (tail_line s.awaited) 1 s.tails.items ++ (left_line s.left ++ (first_line (hosted_first s) ++ (kept_line s.kept ++ (accept_line s.all_came ++ put_line s.put)))))

-- the lines of a watch: its numbers, the watchers that left, and the first refused row
abbrev pub watched_lines : WatchCounts → List ℕ
watched_lines counts = numbers_line counts.rows counts.stored counts.kept counts.refused ++ (left_line counts.left ++ first_line counts.first)

-- the name of what bytes came from, `-` for the input
abbrev pub name_text : Origin → List ℕ
name_text origin.Input = codes "-"
name_text (origin.Name name) = string_bytes name

-- `bad input NAME at OFFSET`
abbrev pub bad_input_line : List ℕ → ℕ → List ℕ
bad_input_line name at = line (codes "bad input " ++ (name ++ (codes " at " ++ decimal at)))

-- `not rising NAME row I`
abbrev pub not_rising_line : List ℕ → ℕ → List ℕ
not_rising_line name row = line (codes "not rising " ++ (name ++ (codes " row " ++ decimal row)))

-- `pruned NAME row I by J`
abbrev pub pruned_line : List ℕ → ℕ → ℕ → List ℕ
pruned_line name row by = line (codes "pruned " ++ (name ++ (codes " row " ++ (decimal row ++ (codes " by " ++ decimal by)))))

-- the line of a stop
abbrev pub stop_line : Stop → List ℕ
stop_line stop.Usage = line (codes "usage")
stop_line stop.ReadFault = line (codes "read fault")
stop_line stop.WriteFault = line (codes "write fault")
stop_line (stop.BadInput from at) = bad_input_line (name_text from) at
stop_line (stop.NotRising from row) = not_rising_line (name_text from) row
stop_line (stop.Pruned from row by) = pruned_line (name_text from) row by
stop_line (stop.Missing name) = line (codes "missing " ++ string_bytes name)
stop_line (stop.Taken name) = line (codes "taken " ++ string_bytes name)
stop_line (stop.Refused refusal) = codes "refused: " ++ refused_line refusal
stop_line (stop.SessionRefused refusal) = line (session_end_text (ending.Hello refusal))
stop_line stop.NoMemory = line (codes "no memory")
stop_line stop.LogFull = line (codes "log full")
stop_line stop.KeySpent = line (codes "key spent")

-- whether the stop is a fault of reading or writing
abbrev pub is_fault : Stop → Bool
is_fault stop.ReadFault = true
is_fault stop.WriteFault = true
is_fault e = false

-- the lines of what is done; what was made needs none, and a stop with a log open has that of the stop, and what the log keeps
abbrev pub done_lines : Done → List ℕ
done_lines (done.Joined counts) = rows_line counts ++ first_line counts.first
done_lines (done.Shown counts) = shown_line counts ++ first_line counts.first
done_lines (done.Met counts) = met_lines counts ++ first_line counts.first
done_lines (done.Hosted s) = hosted_lines s
done_lines (done.Stopped s) = stop_line s.stop ++ kept_line (Some s.kept)
done_lines (done.Watched counts) = watched_lines counts
done_lines done.Made = []

-- the lines of an end
abbrev pub report_of : Result Done Stop → List ℕ
report_of (Ok d) = done_lines d
report_of (Err e) = stop_line e

-- ---- the status

-- a fault of the report gives 4 where the run itself ended with 0 or 1, and changes no other status
abbrev pub after_report_fault : ℕ → ℕ
after_report_fault status = if nat_le status 1 then 4 else status

-- the statuses of what was met behind all links
abbrev pub met_behind : Hosted → List ℕ
met_behind s = accept_status s.all_came ∷ (put_status s.put ∷ (first_status s.first ∷ []))

-- the statuses of what was met beside the sessions
abbrev pub others_met : Hosted → List ℕ
others_met s = map tail_status s.tails.items ++ met_behind s

-- the status behind the writing of the lines: that of the end, or what a fault makes of it, or 7 for want of memory
abbrev pub told_status : Result Done Stop → Result (Unit {0}) Stop → ℕ
told_status end (Ok u) = status_of end
told_status end (Err stop.NoMemory) = 7
told_status end (Err e) = after_report_fault (status_of end)

-- ---- both

-- the report took the lines whole, and no write of it failed
pub record IsReported (old new : SinkFacts) (end : Result Done Stop) (status : ℕ) : Type 0 where
  pub status_is : status ≡ status_of end
  pub written : IsWritten old new (report_of end)
  pub unfailed : new.faults ≡ old.faults

-- the report failed, after a front of the lines that is not all of them
pub record IsReportFault (old new : SinkFacts) (end : Result Done Stop) (status : ℕ) : Type 0 where
  pub status_is : status ≡ after_report_fault (status_of end)
  pub written : IsPartlyWritten old new (report_of end)
  pub fault : Rose old.faults new.faults

-- no memory was found for the lines, of which not all are written, and no write of it failed
pub record IsReportWithoutMemory (old new : SinkFacts) (end : Result Done Stop) (status : ℕ) : Type 0 where
  pub status_is : status ≡ 7
  pub written : IsPartlyWritten old new (report_of end)
  pub unfailed : new.faults ≡ old.faults

-- how the report stands after a run that ended so, and with which status
abbrev pub Reports : SinkFacts → SinkFacts → Result Done Stop → ℕ → Type 0
Reports old new end status = IsReported old new end status ⊎ (IsReportFault old new end status ⊎ IsReportWithoutMemory old new end status)
