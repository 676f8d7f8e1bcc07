-- What a run of a mesh does, by its steps.
use Rattle.std.specs.Prelude.{◌≡◌, ◌≢◌, ℕ, ◌≤◌, ◌⊎◌, List, [], length, Some, Result, Ok, Err}
use Rattle.std.specs.Global.{Vec}
use Rattle.willow_outside.specs.Counts.{Rose}
use Rattle.willow_outside.specs.Facts.{SourceFacts}
use Rattle.mesh_lines.specs.Text.{IsMesh, IsWrongMesh}
use Rattle.mesh_lines.specs.declared.line.MeshLine.{MeshLine}
use Rattle.peer_stage.specs.World.{World}
use Rattle.peer_stage.specs.Deed.{Deed}
use Rattle.peer_stage.specs.Stages.{IsInput, IsReadWhole, IsReadTooFar, IsReadToFault, IsReadSomewhat, Writes}
use Rattle.peer_stage.specs.Steps.{Step, Then, OnInput, OnOutput}
use Rattle.peer_stage.specs.declared.outcome.Done.{Done}
use Rattle.peer_stage.specs.declared.outcome.Done.TheVariants as done
use Rattle.peer_stage.specs.declared.outcome.Stop.{Stop}
use Rattle.peer_stage.specs.declared.outcome.Stop.TheVariants as stop
use Rattle.peer_report.specs.Report.{Reports}
use Rattle.mesh_answers.specs.Rules.{MeshRules}
use Rattle.mesh_answers.specs.Answers.{IsTextOf}
use Rattle.mesh_command.specs.declared.run.TheConstants.{MESH_LIMIT}

-- ---- bytes

-- the bytes are the lines of a mesh, and this is their text
pub record IsTextFor (rules : MeshRules) (bytes text : List ℕ) : Type 0 where
  pub nodes : ℕ
  pub lines : List MeshLine
  pub is_mesh : IsMesh bytes nodes lines
  pub is_text : IsTextOf rules nodes lines text

-- how the answering of bytes ends
abbrev pub AnswersBytes : MeshRules → List ℕ → Result (Vec ℕ) Stop → Type 0
AnswersBytes rules bytes (Ok text) = IsTextFor rules bytes text.items
AnswersBytes rules bytes (Err (stop.BadInput origin at)) = IsWrongMesh bytes at × IsInput origin
AnswersBytes rules bytes (Err stop.NoMemory) = Unit {0}
AnswersBytes rules bytes (Err e) = ⊥

-- ---- the input

-- the whole input was read, and this is the text of its lines
pub record IsAnsweredRead (rules : MeshRules) (i i' : SourceFacts) (text : List ℕ) : Type 0 where
  pub bytes : List ℕ
  pub read : IsReadWhole MESH_LIMIT i i' bytes
  pub answered : IsTextFor rules bytes text

-- the bytes taken are too many, or are all of the input and go wrong at this place
abbrev pub IsBadMesh : SourceFacts → SourceFacts → ℕ → Type 0
IsBadMesh i i' at = (bytes : List ℕ) × ((IsReadTooFar MESH_LIMIT i i' bytes × (at ≡ MESH_LIMIT)) ⊎ (IsReadWhole MESH_LIMIT i i' bytes × IsWrongMesh bytes at))

-- how the answering of the input ends
abbrev pub AnswersInput : MeshRules → SourceFacts → SourceFacts → Result (Vec ℕ) Stop → Type 0
AnswersInput rules i i' (Ok text) = IsAnsweredRead rules i i' text.items
AnswersInput rules i i' (Err stop.ReadFault) = (bytes : List ℕ) × IsReadToFault MESH_LIMIT i i' bytes
AnswersInput rules i i' (Err (stop.BadInput origin at)) = IsBadMesh i i' at × IsInput origin
AnswersInput rules i i' (Err stop.NoMemory) = IsReadSomewhat i i'
AnswersInput rules i i' (Err e) = ⊥

-- ---- the run

-- It answers the input, and writes the text.
abbrev pub Answers : MeshRules → Step Done
Answers rules = Then (OnInput (AnswersInput rules)) (λ text. OnOutput (Writes text.items done.Made))

-- the input tells its bytes, which are the lines of a mesh and not too many
pub record IsMeshInput (i : SourceFacts) : Type 0 where
  pub had : List ℕ
  pub told : i.left ≡ Some had
  pub within : length had ≤ MESH_LIMIT
  pub nodes : ℕ
  pub lines : List MeshLine
  pub is_mesh : IsMesh had nodes lines

abbrev pub mesh_deed : MeshRules → Deed
mesh_deed rules =
    record {
      meets = Answers rules;
      ready = λ old new. IsMeshInput old.input;
      reads = λ old new. Rose old.input.faults new.input.faults;
      writes = λ old new. Rose old.output.faults new.output.faults;
      wants_later = λ old new. ⊥;
      unbuilt = ⊥;
    }

-- the words behind the program's name, the objects outside before and after, and the status
pub record MeshRun : Type 0 where
  pub words : List (List ℕ)
  pub old : World
  pub new : World
  pub status : ℕ

-- the objects as they were before the report was written
abbrev pub before_told : MeshRun → World
before_told run = record (run.new) { report = run.old.report }

-- there is no word, and the lines were answered
pub record RunsLines (rules : MeshRules) (run : MeshRun) : Type 0 where
  pub no_words : run.words ≡ []
  pub end : Result Done Stop
  pub meets : Answers rules run.old (before_told run) end
  pub reports : Reports run.old.report run.new.report end run.status

-- there is a word, and nothing but the report was touched
pub record RunsNothing (run : MeshRun) : Type 0 where
  pub some_word : run.words ≢ []
  pub same : before_told run ≡ run.old
  pub reports : Reports run.old.report run.new.report (Err stop.Usage) run.status

abbrev pub RunsMesh : MeshRules → MeshRun → Type 0
RunsMesh rules run = RunsLines rules run ⊎ RunsNothing run
