-- The headline of `watch`: with status 0 or 1 the name holds the image of what is live of the image's authorised rows followed by
-- the input's, and each of those who watch heard of just those of its area that are new behind the image's.
use Rattle.std.specs.Prelude.{◌≡◌, ◌≤◌, None, IsSome}
use Rattle.std.specs.String.{string_bytes}
use Rattle.std.specs.declared.string.String.{String}
use Rattle.std.specs.declared.alloc.Global.{Global}
use Rattle.peer_stage.specs.Stages.{IsWritten}
use Rattle.peer_stage.specs.declared.outcome.WatchCounts.{WatchCounts}
use Rattle.peer_report.specs.Report.{watched_lines}
use Rattle.peer_rows.specs.Watch.{HasWatched}
use Rattle.peer_words.specs.Commands.{IsWords}
use Rattle.peer_words.specs.declared.command.AreaWords.{AreaWords}
use Rattle.peer_words.specs.declared.command.Command.TheVariants as cmd
use Rattle.peer_run.specs.Run.{Run, before_report}

-- The name and the area of the words were watched, and the report grew by the lines of the numbers. The status tells whether
-- a row of the image or of the input is not authorised.
pub record IsWholeWatch (image : String Global) (area : AreaWords) (run : Run) : Type 0 where
  pub counts : WatchCounts
  pub watched : HasWatched (string_bytes image) area run.old (before_report run) counts
  pub reported : IsWritten run.old.report run.new.report (watched_lines counts)
  pub all_authorised : run.status ≡ 0 → counts.first ≡ None
  pub some_refused : run.status ≡ 1 → IsSome counts.first

abbrev pub WatchHeadline : Run → Type 0
WatchHeadline run = (image : String Global) (area : AreaWords) → IsWords run.words (cmd.Watch image area) → run.status ≤ 1 → IsWholeWatch image area run
