-- What every run of a mesh keeps.
use Rattle.std.specs.Prelude.{◌≡◌, ◌≢◌, ℕ, ◌≤◌, ◌⊎◌, List, [], codes, Result}
use Rattle.willow_outside.specs.Counts.{Rose}
use Rattle.willow_outside.specs.Facts.{SinkFacts}
use Rattle.peer_stage.specs.World.{NeverFall, Unfailed}
use Rattle.peer_stage.specs.Stages.{IsWritten, IsPartlyWritten}
use Rattle.peer_stage.specs.Status.{status_of}
use Rattle.peer_stage.specs.declared.outcome.Done.{Done}
use Rattle.peer_stage.specs.declared.outcome.Stop.{Stop}
use Rattle.peer_report.specs.Report.{IsReportWithoutMemory, bad_input_line, line}
use Rattle.mesh_answers.specs.Rules.{MeshRules}
use Rattle.mesh_command.specs.Runs.{IsMeshInput, IsAnsweredRead, IsBadMesh, MeshRun, RunsMesh, before_told}

-- the report grew by these lines, or by a front of them where it failed
abbrev pub HasToldReport : SinkFacts → SinkFacts → List ℕ → Type 0
HasToldReport old new lines = IsWritten old new lines ⊎ (IsPartlyWritten old new lines × Rose old.faults new.faults)

-- there is no word, the input was read whole and is the lines of a mesh, and their text is written
pub record HasAnswered (rules : MeshRules) (run : MeshRun) : Type 0 where
  pub no_words : run.words ≡ []
  pub text : List ℕ
  pub read : IsAnsweredRead rules run.old.input run.new.input text
  pub written : IsWritten run.old.output run.new.output text
  pub reported : IsWritten run.old.report run.new.report []

-- the same, with all of the text written or a front of it
pub record HasBegun (rules : MeshRules) (run : MeshRun) : Type 0 where
  pub no_words : run.words ≡ []
  pub text : List ℕ
  pub read : IsAnsweredRead rules run.old.input run.new.input text
  pub written : IsWritten run.old.output run.new.output text ⊎ IsPartlyWritten run.old.output run.new.output text

-- there is a word; nothing but the report is touched, and it tells that
pub record HasRefusedWords (run : MeshRun) : Type 0 where
  pub some_word : run.words ≢ []
  pub untouched : before_told run ≡ run.old
  pub told : HasToldReport run.old.report run.new.report (line (codes "usage"))

-- the bytes taken of the input are too many or no mesh, nothing is written, and the report tells where they go wrong
pub record HasRefusedInput (run : MeshRun) : Type 0 where
  pub no_words : run.words ≡ []
  pub at : ℕ
  pub wrong : IsBadMesh run.old.input run.new.input at
  pub unwritten : run.new.output ≡ run.old.output
  pub told : HasToldReport run.old.report run.new.report (bad_input_line (codes "-") at)

-- no memory was found for the lines of the report
pub record LacksReport (run : MeshRun) : Type 0 where
  pub end : Result Done Stop
  pub other : status_of end ≢ 7
  pub lines : IsReportWithoutMemory run.old.report run.new.report end run.status

-- there is no word, and the input is ready to be answered
pub record CanRun (run : MeshRun) : Type 0 where
  pub no_words : run.words ≡ []
  pub ready : IsMeshInput run.old.input

-- no count of faults rose of the input, the output and the report
pub record HasNoMeshFault (run : MeshRun) : Type 0 where
  pub reads : Rose run.old.input.faults run.new.input.faults → ⊥
  pub writes : Rose run.old.output.faults run.new.output.faults → ⊥
  pub report_stands : Rose run.old.report.faults run.new.report.faults → ⊥

-- 0, 2, 3, 4, 5 or 7
pub record IsMeshStatus (status : ℕ) : Type 0 where
  pub small : status ≤ 7
  pub not_1 : status ≢ 1
  pub not_6 : status ≢ 6

pub record KeepsMesh (rules : MeshRules) (run : MeshRun) : Type 0 where
  -- what the run does, and what the report and the status say of it
  pub runs : RunsMesh rules run
  -- 0: the text of the input's lines is written, and the report says nothing
  pub answered : run.status ≡ 0 → HasAnswered rules run
  -- 2: there is a word, and the report tells it
  pub usage : run.status ≡ 2 → HasRefusedWords run
  -- and where there is one, no other status comes but 7
  pub words : run.words ≢ [] → run.status ≢ 7 → run.status ≡ 2
  -- 3: a count of the input's faults rose
  pub read_fault : run.status ≡ 3 → Rose run.old.input.faults run.new.input.faults
  -- 4: one of the output's or the report's
  pub write_fault : run.status ≡ 4 → Rose run.old.output.faults run.new.output.faults ⊎ Rose run.old.report.faults run.new.report.faults
  -- 5: the input is no mesh, and the report tells where
  pub bad_input : run.status ≡ 5 → HasRefusedInput run
  -- at 0 and 4 it is one
  pub good_input : run.status ≢ 2 → run.status ≢ 3 → run.status ≢ 5 → run.status ≢ 7 → HasBegun rules run
  -- no other status comes
  pub statuses : IsMeshStatus run.status
  -- at 0, 2 and 5 no fault was passed over
  pub unfailed : run.status ≢ 3 → run.status ≢ 4 → run.status ≢ 7 → Unfailed run.old (before_told run)
  -- and 7 hides none
  pub want : run.status ≡ 7 → Unfailed run.old (before_told run) ⊎ LacksReport run
  -- no count falls
  pub counts : NeverFall run.old run.new
  -- lines of a mesh are answered, but for faults and want of memory
  pub complete : CanRun run → HasNoMeshFault run → run.status ≢ 7 → run.status ≡ 0
