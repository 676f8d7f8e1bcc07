-- What a run of a mesh owes.
use Rattle.std.proofs.Common.{◌≡◌, ℕ, ◌≤◌, inl, inr, List, ◌++◌, length, Option, Some, None, sym, ap, ◌∙◌, subst, arith, length-append}
use Rattle.std.specs.Prelude.{Err}
use Rattle.std.specs.Io.KnownBytes.{Consumes, IsAtEnd}
use Rattle.std.proofs.lemmas.List.{append-nil}
use Rattle.willow_outside.specs.Counts.{Rose}
use Rattle.willow_outside.specs.Facts.{SourceFacts}
use Rattle.mesh_lines.specs.Text.{IsWrongMesh}
use Rattle.mesh_lines.proofs.Texts.{never_both}
use Rattle.peer_stage.specs.World.{World}
use Rattle.peer_stage.specs.Deed.{IsLawful}
use Rattle.peer_stage.specs.Steps.{OnInput}
use Rattle.peer_stage.specs.declared.outcome.Done.TheVariants as done
use Rattle.peer_stage.specs.declared.outcome.Stop.{Stop}
use Rattle.peer_stage.specs.declared.outcome.Stop.TheVariants as stop
use Rattle.peer_stage.proofs.Ends.{IsCondition}
use Rattle.peer_stage.proofs.Owing.{Owes, then_owes, writes_owe, input_counts, input_unfailed, input_lasts, output_lasts, then_local, writes_local, lawful}
use Rattle.mesh_answers.specs.Rules.{MeshRules}
use Rattle.mesh_command.specs.Runs.{AnswersInput, IsMeshInput, IsBadMesh, mesh_deed}

abbrev Reads : World → World → Type 0
Reads old new = Rose old.input.faults new.input.faults

abbrev Wrote : World → World → Type 0
Wrote old new = Rose old.output.faults new.output.faults

-- ---- an input that tells its bytes

taken_few : (left left' : Option (List ℕ)) (had taken : List ℕ) → left ≡ Some had → Consumes left left' taken → length taken ≤ length had
taken_few (Some xs) (Some ys) had taken told is =
    let same : xs ≡ had = cc in
    omega (arith, ap length (sym same ∙ is), length-append taken ys)
taken_few (Some xs) None had taken told is = absurd is
taken_few None left' had taken told is = absurd cc

taken_all : (left left' : Option (List ℕ)) (had taken : List ℕ) → left ≡ Some had → Consumes left left' taken → IsAtEnd left' → taken ≡ had
taken_all (Some xs) (Some ys) had taken told is at_end =
    let same : xs ≡ had = cc in
    sym (append-nil taken) ∙ ap (λ (l : List ℕ). taken ++ l) (sym at_end) ∙ sym is ∙ same
taken_all (Some xs) None had taken told is at_end = absurd is
taken_all None left' had taken told is at_end = absurd cc

-- lines of a mesh that are not too many are never bad
no_bad_mesh : (i i' : SourceFacts) (at : ℕ) → IsMeshInput i → IsBadMesh i i' at → ⊥
no_bad_mesh i i' at can (bytes, inl far) = omega (arith, far.0.beyond, taken_few i.left i'.left can.had bytes can.told far.0.taken, can.within)
no_bad_mesh i i' at can (bytes, inr whole) =
    never_both can.had can.nodes can.lines at can.is_mesh (subst (λ (b : List ℕ). IsWrongMesh b at) (taken_all i.left i'.left can.had bytes can.told whole.0.taken whole.0.at_end) whole.1)

-- ---- the run

answer_stops : (rules : MeshRules) (i i' : SourceFacts) (e : Stop) → IsMeshInput i → IsCondition e → AnswersInput rules i i' (Err e) → ⊥
answer_stops rules i i' (stop.BadInput from at) can condition s = no_bad_mesh i i' at can s.0
answer_stops rules i i' stop.ReadFault can condition s = condition
answer_stops rules i i' stop.NoMemory can condition s = condition
answer_stops rules i i' e can condition s = s

answering_owes : (rules : MeshRules) → Owes Reads Wrote (λ old. IsMeshInput old.input) (λ x new. Unit {0}) (OnInput (AnswersInput rules))
answering_owes rules =
    record {
      counts = input_counts (AnswersInput rules);
      unfailed = input_unfailed (AnswersInput rules);
      read_fault = λ old new s. s.does.1.fault;
      write_fault = λ old new s. absurd s.does;
      usage = λ old new s. s.does;
      stops = λ old new e can condition s. answer_stops rules old.input new.input e can condition s.does;
      goes_on = λ old new x can s. tt;
    }

pub mesh_is_lawful : (rules : MeshRules) → IsLawful (mesh_deed rules)
mesh_is_lawful rules =
    lawful (mesh_deed rules) (λ old. IsMeshInput old.input) (λ d new. Unit {0}) (λ unbuilt. unbuilt) (λ old new ready. ready)
    (then_local _ _ (λ x. writes_local x.items done.Made tt))
    (then_owes Reads Wrote (λ old. IsMeshInput old.input) (λ x new. Unit {0}) (λ d new. Unit {0}) _ _ input_lasts output_lasts (answering_owes rules)
    (λ x. writes_owe Reads Wrote (λ old. Unit {0}) x.items done.Made (λ old new rose. rose)))
