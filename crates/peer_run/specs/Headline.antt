-- The headline: for every order of the rows of the input, a `join` that ends with status 0 or 1 leaves the join of all
-- authorised entries.
use Rattle.std.specs.Prelude.{◌≡◌, ℕ, ◌<◌, ◌≤◌, List, ◌++◌}
use Rattle.cap_codec.specs.Rows.{RawValue, AreFrames}
use Rattle.peer_stage.specs.Stages.{IsReadWhole, IsWritten}
use Rattle.peer_stage.specs.declared.outcome.JoinCounts.{JoinCounts}
use Rattle.peer_stage.specs.declared.stage.TheConstants.{INPUT_LIMIT}
use Rattle.peer_report.specs.Report.{rows_line, first_line}
use Rattle.peer_rows.specs.Logged.{AreCounts, FitsLog}
use Rattle.peer_rows.specs.Join.{joined}
use Rattle.peer_words.specs.Commands.{IsWords}
use Rattle.peer_words.specs.declared.command.Command.TheVariants as cmd
use Rattle.peer_run.specs.Run.{Run}

-- The input was read to its end and is these rows, the output grew by the image of what is live of the authorised
-- ones, and the report by the line of numbers and that of the first row that is not authorised.
pub record IsWholeJoin (namespace : List ℕ) (run : Run) : Type 0 where
  pub bytes : List ℕ
  pub read : IsReadWhole INPUT_LIMIT run.old.input run.new.input bytes
  pub rows : List RawValue
  pub frames : AreFrames bytes rows
  pub fits_log : FitsLog namespace rows
  pub written : IsWritten run.old.output run.new.output (joined namespace rows)
  pub counts : JoinCounts
  pub counted : AreCounts namespace rows counts
  pub reported : IsWritten run.old.report run.new.report (rows_line counts ++ first_line counts.first)
  pub all_authorised : run.status ≡ 0 → counts.refused ≡ 0
  pub some_refused : run.status ≡ 1 → 0 < counts.refused

abbrev pub Headline : Run → Type 0
Headline run = (namespace : List ℕ) → IsWords run.words (cmd.Join namespace) → run.status ≤ 1 → IsWholeJoin namespace run
