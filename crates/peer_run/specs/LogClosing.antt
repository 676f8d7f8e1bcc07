-- What stands behind a run with a log file: its disk is given back, and the end tells what the file keeps.
use Rattle.std.specs.Prelude.{◌≡◌, ◌-◌, ◌&&◌, not, Some, None, Result, Ok, Err}
use Rattle.std.specs.declared.option.Option.{Option}
use Rattle.willow_outside.specs.Facts.{BayFacts}
use Rattle.willow_outside.specs.Links.{list_with}
use Rattle.peer_stage.specs.declared.outcome.Done.{Done}
use Rattle.peer_stage.specs.declared.outcome.Done.TheVariants as done
use Rattle.peer_stage.specs.declared.outcome.Hosted.{Hosted}
use Rattle.peer_stage.specs.declared.outcome.Stop.{Stop}
use Rattle.peer_run.specs.LogFiles.{FileState}

-- ---- the disk

-- the disk of the file, if there is one, is back
abbrev pub GivesBack : Option FileState → BayFacts → BayFacts → Type 0
GivesBack None old new = new ≡ old
GivesBack (Some f) old new = new ≡ record old { out = old.out - 1; back = list_with f.disk old.back }

-- ---- what is told

-- what sessions came to, with a file behind them: how many rows it keeps; a write of it that failed is told as a failed put
abbrev pub kept_told : FileState → Hosted → Hosted
kept_told f s = record s { kept = Some f.kept; put = s.put && not f.broken }

-- how a run ends that came to this with a file open
abbrev pub filed_end : FileState → Result Done Stop → Result Done Stop
filed_end f (Ok (done.Hosted s)) = Ok (done.Hosted (kept_told f s))
filed_end f (Ok d) = Ok d
filed_end f (Err e) = Ok (done.Stopped (record { stop = e; kept = f.kept }))

-- where there is a file
abbrev pub end_told : Option FileState → Result Done Stop → Result Done Stop
end_told None end = end
end_told (Some f) end = filed_end f end
