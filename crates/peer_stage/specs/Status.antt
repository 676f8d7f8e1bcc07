-- The status of each end of a command.
use Rattle.std.specs.Prelude.{ℕ, ◌==◌, Bool, true, false, if◌then◌else◌, List, [], ◌∷◌, ◌++◌, map, Option, Some, None, Result, Ok, Err}
use Rattle.call_rules.specs.Told.{first_met, told_order}
use Rattle.mc_cap.specs.declared.refusal.RefusedRow.{RefusedRow}
use Rattle.session_end.specs.declared.end.SessionEnd.{SessionEnd}
use Rattle.session_end.specs.declared.end.SessionEnd.TheVariants as ending
use Rattle.peer_stage.specs.declared.outcome.FollowCounts.{FollowCounts}
use Rattle.peer_stage.specs.declared.outcome.SessionCounts.{SessionCounts}
use Rattle.peer_stage.specs.declared.outcome.Done.{Done}
use Rattle.peer_stage.specs.declared.outcome.Done.TheVariants as done
use Rattle.peer_stage.specs.declared.outcome.Stop.{Stop}
use Rattle.peer_stage.specs.declared.outcome.Stop.TheVariants as stop

-- ---- what is done

-- 0 where no row was refused, else 1
abbrev pub refused_status : ℕ → ℕ
refused_status refused = if refused == 0 then 0 else 1

-- 1 where there is a first refused row, else 0
abbrev pub first_status : Option RefusedRow → ℕ
first_status None = 0
first_status (Some first) = 1

-- how a session ended that was not done: 3 and 4 for a fault of its link, 8 for a log that became full, 7 for want of
-- memory, else 6
abbrev pub end_status : SessionEnd → ℕ
end_status ending.LinkRead = 3
end_status ending.LinkWrite = 4
end_status (ending.ClosedEarly at) = 6
end_status (ending.BadMessage at) = 6
end_status (ending.Hello refusal) = 6
end_status (ending.Core refusal) = 6
end_status ending.SignFault = 6
end_status (ending.LogFull missed) = 8
end_status ending.NoMemory = 7

-- 0 where the session was done
abbrev pub session_status : Result SessionCounts SessionEnd → ℕ
session_status (Ok counts) = 0
session_status (Err end) = end_status end

-- the same of what followed a session on its link, and 0 where nothing did
abbrev pub tail_status : Option (Result FollowCounts SessionEnd) → ℕ
tail_status None = 0
tail_status (Some (Ok counts)) = 0
tail_status (Some (Err end)) = end_status end

-- 4 where the image was not put, else 0
abbrev pub put_status : Bool → ℕ
put_status true = 0
put_status false = 4

-- 3 where fewer links came than were asked for, else 0
abbrev pub accept_status : Bool → ℕ
accept_status true = 0
accept_status false = 3

-- the statuses of what was met on the way to what is done, which stopped nothing; a refused row counts alike whether it
-- was read in the image, the file of a log, the input, a session or a feed
abbrev pub statuses_met : Done → List ℕ
statuses_met (done.Joined counts) = refused_status counts.refused ∷ []
statuses_met (done.Shown counts) = refused_status counts.refused ∷ []
statuses_met (done.Met counts) = first_status counts.first ∷ []
statuses_met (done.Hosted s) = map session_status s.sessions.items ++ (map tail_status s.tails.items ++ (accept_status s.all_came ∷ (put_status s.put ∷ (first_status s.first ∷ []))))
statuses_met (done.Stopped s) = []
statuses_met (done.Watched counts) = first_status counts.first ∷ []
statuses_met done.Made = []

-- ---- stops

abbrev pub stop_status : Stop → ℕ
stop_status (stop.Refused refusal) = 1
stop_status stop.Usage = 2
stop_status stop.ReadFault = 3
stop_status stop.WriteFault = 4
stop_status (stop.BadInput from at) = 5
stop_status (stop.NotRising from row) = 5
stop_status (stop.Pruned from row by) = 5
stop_status (stop.Missing name) = 5
stop_status (stop.Taken name) = 5
stop_status (stop.SessionRefused refusal) = 6
stop_status stop.NoMemory = 7
stop_status stop.LogFull = 8
stop_status stop.KeySpent = 9

-- ---- both

-- of what is done the first that was met on the way; where a log was open as the command stopped, that of the stop
abbrev pub done_status : Done → ℕ
done_status (done.Stopped s) = stop_status s.stop
done_status d = first_met told_order (statuses_met d)

abbrev pub status_of : Result Done Stop → ℕ
status_of (Ok d) = done_status d
status_of (Err e) = stop_status e
