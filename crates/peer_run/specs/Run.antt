-- A run of the program: the command of its words, what that does, and what is reported.
use Rattle.std.specs.Prelude.{◌≡◌, ℕ, ◌⊎◌, List, Result, Err}
use Rattle.peer_stage.specs.World.{World}
use Rattle.peer_stage.specs.declared.outcome.Done.{Done}
use Rattle.peer_stage.specs.declared.outcome.Stop.{Stop}
use Rattle.peer_stage.specs.declared.outcome.Stop.TheVariants as stop
use Rattle.peer_words.specs.Commands.{IsWords, IsNoCommand}
use Rattle.peer_words.specs.Memory.{AskForMemory}
use Rattle.peer_words.specs.declared.command.Command.{Command}
use Rattle.peer_report.specs.Report.{Reports}
use Rattle.peer_run.specs.Deeds.{deed_of}

-- the words, the objects outside before and after, and the status
pub record Run : Type 0 where
  pub words : List (List ℕ)
  pub old : World
  pub new : World
  pub status : ℕ

-- the objects as the command left them: the report is written after it
abbrev pub before_report : Run → World
before_report run = record (run.new) { report = run.old.report }

-- the words are a command, which ended so, and the report and the status say it
pub record RunsCommand (run : Run) : Type 0 where
  pub command : Command
  pub is_words : IsWords run.words command
  pub end : Result Done Stop
  pub meets : (deed_of command).meets run.old (before_report run) end
  pub reports : Reports run.old.report run.new.report end run.status

-- the words are no command, and nothing but the report was touched
pub record IsMisused (run : Run) : Type 0 where
  pub no_command : IsNoCommand run.words
  pub same : before_report run ≡ run.old
  pub reports : Reports run.old.report run.new.report (Err stop.Usage) run.status

-- no memory was found to read the words, which ask for some, and nothing but the report was touched
pub record IsUnread (run : Run) : Type 0 where
  pub asked : AskForMemory run.words
  pub same : before_report run ≡ run.old
  pub reports : Reports run.old.report run.new.report (Err stop.NoMemory) run.status

-- one of the three
abbrev pub RunsWords : Run → Type 0
RunsWords run = RunsCommand run ⊎ (IsMisused run ⊎ IsUnread run)
