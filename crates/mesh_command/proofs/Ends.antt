-- How a run of a mesh ends, and what its status tells of that.
use Rattle.std.proofs.Common.{◌≡◌, ◌≢◌, ℕ, ◌≤◌, ◌<◌, Bool, true, false, cond, ◌⊎◌, inl, inr, List, refl, sym, ap, ◌∙◌, subst, arith}
use Rattle.std.specs.Prelude.{Result, Ok, Err, nat_le}
use Rattle.std.proofs.lemmas.Bool.Decides.{nat_tests}
use Rattle.willow_outside.specs.Counts.{Rose}
use Rattle.willow_outside.specs.Facts.{SourceFacts, SinkFacts}
use Rattle.peer_stage.specs.World.{World}
use Rattle.peer_stage.specs.Stages.{IsInput, IsWritten, IsPartlyWritten, Writes}
use Rattle.peer_stage.specs.Status.{status_of}
use Rattle.peer_stage.specs.declared.outcome.Done.{Done}
use Rattle.peer_stage.specs.declared.outcome.Done.TheVariants as done
use Rattle.peer_stage.specs.declared.outcome.Origin.{Origin}
use Rattle.peer_stage.specs.declared.outcome.Origin.TheVariants as origin
use Rattle.peer_stage.specs.declared.outcome.Stop.{Stop}
use Rattle.peer_stage.specs.declared.outcome.Stop.TheVariants as stop
use Rattle.peer_stage.proofs.Ends.{none_met}
use Rattle.peer_report.specs.Report.{Reports, after_report_fault, report_of}
use Rattle.mesh_answers.specs.Rules.{MeshRules}
use Rattle.mesh_command.specs.Runs.{Answers, AnswersInput, IsAnsweredRead, IsBadMesh}
use Rattle.mesh_command.specs.Promises.{HasToldReport}

-- ---- the ends of a run

module _ (rules : MeshRules) (old new : World) where
  -- what each end tells of the objects
  abbrev pub EndsSo : Result Done Stop → Type 0
  EndsSo (Ok d) = (d ≡ done.Made) × ((text : List ℕ) × IsAnsweredRead rules old.input new.input text × IsWritten old.output new.output text)
  EndsSo (Err stop.ReadFault) = Rose old.input.faults new.input.faults
  EndsSo (Err stop.WriteFault) = (text : List ℕ) × IsAnsweredRead rules old.input new.input text × IsPartlyWritten old.output new.output text
  EndsSo (Err (stop.BadInput from at)) = IsBadMesh old.input new.input at × IsInput from × (new.output ≡ old.output)
  EndsSo (Err stop.NoMemory) = Unit {0}
  EndsSo (Err e) = ⊥

  input_ends : (e : Stop) → AnswersInput rules old.input new.input (Err e) → new.output ≡ old.output → EndsSo (Err e)
  input_ends stop.ReadFault does same = does.1.fault
  input_ends (stop.BadInput from at) does same = (does.0, does.1, same)
  input_ends stop.NoMemory does same = tt
  input_ends e does same = absurd does

  output_ends : (text : List ℕ) (e : Stop) → IsAnsweredRead rules old.input new.input text → Writes text done.Made old.output new.output (Err e) → EndsSo (Err e)
  output_ends text stop.WriteFault read does = (text, read, does.0)
  output_ends text stop.NoMemory read does = tt
  output_ends text e read does = absurd does

  pub ends_so : (end : Result Done Stop) → Answers rules old new end → EndsSo end
  ends_so (Ok d) p =
      let input = ap (λ (w : World). w.input) p.rest.others in
      let output = ap (λ (w : World). w.output) p.given.others in
      (p.rest.does.1, (p.value.items, subst (λ (i : SourceFacts). IsAnsweredRead rules old.input i p.value.items) (sym input) p.given.does, subst (λ (o : SinkFacts). IsWritten o new.output p.value.items) output p.rest.does.0))
  ends_so (Err e) (inl s) = input_ends e s.does (ap (λ (w : World). w.output) s.others)
  ends_so (Err e) (inr p) =
      let input = ap (λ (w : World). w.input) p.rest.others in
      let output = ap (λ (w : World). w.output) p.given.others in
      output_ends p.value.items e (subst (λ (i : SourceFacts). IsAnsweredRead rules old.input i p.value.items) (sym input) p.given.does)
      (subst (λ (o : SinkFacts). Writes p.value.items done.Made o new.output (Err e)) output p.rest.does)

  -- ---- by their statuses

  made_status : (d : Done) → d ≡ done.Made → status_of (Ok d) ≡ 0
  made_status d is = ap (λ (x : Done). status_of (Ok x)) is ∙ none_met

  -- no other status comes
  pub six : (end : Result Done Stop) → EndsSo end → (status_of end ≤ 7) × (status_of end ≢ 1) × (status_of end ≢ 6) × (status_of end ≢ 2)
  six (Ok d) so = let zero = made_status d so.0 in (omega arith, λ e. omega (arith, e, zero), λ e. omega (arith, e, zero), λ e. omega (arith, e, zero))
  six (Err stop.ReadFault) so = (omega arith, λ e. omega (arith, e), λ e. omega (arith, e), λ e. omega (arith, e))
  six (Err stop.WriteFault) so = (omega arith, λ e. omega (arith, e), λ e. omega (arith, e), λ e. omega (arith, e))
  six (Err (stop.BadInput from at)) so = (omega arith, λ e. omega (arith, e), λ e. omega (arith, e), λ e. omega (arith, e))
  six (Err stop.NoMemory) so = (omega arith, λ e. omega (arith, e), λ e. omega (arith, e), λ e. omega (arith, e))
  six (Err e) so = absurd so

  -- what was written and said, with 0
  pub zero_end : (end : Result Done Stop) → EndsSo end → status_of end ≡ 0 → EndsSo (Ok done.Made) × (end ≡ Ok done.Made)
  zero_end (Ok d) so zero = ((refl, so.1), ap (λ (x : Done). Ok x) so.0)
  zero_end (Err stop.ReadFault) so zero = absurd (omega (arith, zero))
  zero_end (Err stop.WriteFault) so zero = absurd (omega (arith, zero))
  zero_end (Err (stop.BadInput from at)) so zero = absurd (omega (arith, zero))
  zero_end (Err stop.NoMemory) so zero = absurd (omega (arith, zero))
  zero_end (Err e) so zero = absurd so

  -- where the input goes wrong, with 5
  pub record EndsBad (end : Result Done Stop) : Type 0 where
    pub at : ℕ
    pub wrong : IsBadMesh old.input new.input at
    pub unwritten : new.output ≡ old.output
    pub line : report_of end ≡ report_of (Err (stop.BadInput origin.Input at))

  bad_end : (from : Origin) (at : ℕ) → IsInput from → report_of (Err (stop.BadInput from at)) ≡ report_of (Err (stop.BadInput origin.Input at))
  bad_end origin.Input at is = refl
  bad_end (origin.Name name) at is = absurd is

  pub five_end : (end : Result Done Stop) → EndsSo end → status_of end ≡ 5 → EndsBad end
  five_end (Ok d) so five = absurd (omega (arith, five, made_status d so.0))
  five_end (Err stop.ReadFault) so five = absurd (omega (arith, five))
  five_end (Err stop.WriteFault) so five = absurd (omega (arith, five))
  five_end (Err (stop.BadInput from at)) so five = record { at = at; wrong = so.0; unwritten = so.2; line = bad_end from at so.1 }
  five_end (Err stop.NoMemory) so five = absurd (omega (arith, five))
  five_end (Err e) so five = absurd so

  -- with 0 and 4 the input was answered
  pub good_end : (end : Result Done Stop) → EndsSo end → status_of end ≢ 3 → status_of end ≢ 5 → status_of end ≢ 7
      → (text : List ℕ) × IsAnsweredRead rules old.input new.input text × (IsWritten old.output new.output text ⊎ IsPartlyWritten old.output new.output text)
  good_end (Ok d) so three five seven = (so.1.0, so.1.1, inl so.1.2)
  good_end (Err stop.ReadFault) so three five seven = absurd (three refl)
  good_end (Err stop.WriteFault) so three five seven = (so.0, so.1, inr so.2)
  good_end (Err (stop.BadInput from at)) so three five seven = absurd (five refl)
  good_end (Err stop.NoMemory) so three five seven = absurd (seven refl)
  good_end (Err e) so three five seven = absurd so

-- ---- the status behind the report

-- after a fault of the report the status is 4 or as it was, and 4 where it was small
pub after_is : (s t : ℕ) → s ≡ after_report_fault t → (s ≡ 4) ⊎ ((s ≡ t) × (1 < t))
after_is s t e = cases (nat_le t 1) refl e where
  cases : (b : Bool) → nat_le t 1 ≡ b → s ≡ cond b 4 t → (s ≡ 4) ⊎ ((s ≡ t) × (1 < t))
  cases true test h = inl h
  cases false test h = inr (h, grind (arith, nat_tests))

module _ (r r' : SinkFacts) (end : Result Done Stop) (s : ℕ) where
  -- it is that of the end, or 4 for a fault of the report, or 7 for want of memory of its lines
  pub told_status : Reports r r' end s → (s ≡ status_of end) ⊎ (((s ≡ 4) × (status_of end ≤ 1) × Rose r.faults r'.faults) ⊎ ((s ≡ 7)))
  told_status (inl told) = inl told.status_is
  told_status (inr (inl fault)) = by (nat_le (status_of end) 1) refl fault.status_is where
    by : (b : Bool) → nat_le (status_of end) 1 ≡ b → s ≡ cond b 4 (status_of end) → (s ≡ status_of end) ⊎ (((s ≡ 4) × (status_of end ≤ 1) × Rose r.faults r'.faults) ⊎ ((s ≡ 7)))
    by true test is = inr (inl (is, grind (arith, nat_tests), fault.fault))
    by false test is = inl is
  told_status (inr (inr none)) = inr (inr none.status_is)

  -- but for 4 and 7 it is that of the end
  pub own_status : Reports r r' end s → s ≢ 4 → s ≢ 7 → s ≡ status_of end
  own_status reports four seven = elim (told_status reports) [
    | inl own ↦ own
    | inr (inl fault) ↦ absurd (four fault.0)
    | inr (inr none) ↦ absurd (seven none)
  ]

  -- an end with 7 is told so, and one with 2
  pub own_seven : Reports r r' end s → status_of end ≡ 7 → s ≡ 7
  own_seven reports seven = elim (told_status reports) [
    | inl own ↦ own ∙ seven
    | inr (inl fault) ↦ absurd (omega (arith, fault.1, seven))
    | inr (inr none) ↦ none
  ]

  pub own_two : Reports r r' end s → status_of end ≡ 2 → s ≢ 7 → s ≡ 2
  own_two reports two seven = elim (told_status reports) [
    | inl own ↦ own ∙ two
    | inr (inl fault) ↦ absurd (omega (arith, fault.1, two))
    | inr (inr none) ↦ absurd (seven none)
  ]

  -- but for 7 the report tells the end
  pub has_told : Reports r r' end s → s ≢ 7 → HasToldReport r r' (report_of end)
  has_told (inl told) seven = inl told.written
  has_told (inr (inl fault)) seven = inr (fault.written, fault.fault)
  has_told (inr (inr none)) seven = absurd (seven none.status_is)

  -- with 0 whole
  pub told_whole : Reports r r' end s → s ≡ 0 → IsWritten r r' (report_of end)
  told_whole (inl told) zero = told.written
  told_whole (inr (inl fault)) zero = elim (after_is s (status_of end) fault.status_is) [ inl four ↦ absurd (omega (arith, four, zero)) | inr large ↦ absurd (omega (arith, large.0, large.1, zero)) ]
  told_whole (inr (inr none)) zero = absurd (omega (arith, none.status_is, zero))
