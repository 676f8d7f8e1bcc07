-- Steps that never stop in some way.
use Rattle.std.proofs.Common.{ℕ, List, Option, Some, None, inl, inr}
use Rattle.std.specs.Prelude.{Err}
use Rattle.std.specs.declared.string.String.{String}
use Rattle.std.specs.declared.alloc.Global.{Global}
use Rattle.mc_cap.specs.declared.refusal.RowRefusal.{RowRefusal}
use Rattle.peer_stage.specs.Steps.{Step, Then}
use Rattle.peer_stage.specs.World.{World}
use Rattle.peer_stage.specs.declared.outcome.Stop.{Stop}
use Rattle.peer_stage.specs.declared.outcome.Stop.TheVariants as stop
use Rattle.peer_words.specs.declared.command.AreaWords.{AreaWords}
use Rattle.peer_run.specs.Getting.{GetsImage, GetsCapability}
use Rattle.peer_run.specs.LogFiles.{FileState}
use Rattle.peer_run.specs.LogOpening.{OpensFile}
use Rattle.peer_run.specs.Preparing.{Prepares}

-- the step does not stop so
pub record Never {A : Type 0} (step : Step A) (e : Stop) : Type 0 where
  pub never : (old new : World) → step old new (Err e) → ⊥

pub then_never : {A B : Type 0} (first : Step A) (next : A → Step B) (e : Stop) → Never first e → ((a : A) → Never (next a) e) → Never (Then first next) e
then_never first next e front later =
    record { never = λ old new end. elim end [ inl s ↦ front.never old new s | inr p ↦ (later p.value).never p.between new p.rest ] }

-- what is got is never refused as what was to be made
pub no_image : (refusal : RowRefusal) (name : String Global) → Never (GetsImage name) (stop.Refused refusal)
no_image refusal name = then_never _ _ (stop.Refused refusal) (record { never = λ old new s. s.does }) (λ got. record { never = λ old new s. s.0 })

pub no_capability : (refusal : RowRefusal) (name : String Global) → Never (GetsCapability name) (stop.Refused refusal)
no_capability refusal name = then_never _ _ (stop.Refused refusal) (record { never = λ old new s. s.does }) (λ got. record { never = λ old new s. s.0 })

no_file : (refusal : RowRefusal) (log : Option (String Global)) (file : Option FileState) (n : List ℕ) → Never (OpensFile log file n) (stop.Refused refusal)
no_file refusal None None n = record { never = λ old new s. s.0 }
no_file refusal None (Some f) n = record { never = λ old new s. s }
no_file refusal (Some name) None n = record { never = λ old new s. s.does }
no_file refusal (Some name) (Some f) n = record { never = λ old new s. s.does }

pub never_prepared : (refusal : RowRefusal) (image cap : String Global) (area : AreaWords) (log : Option (String Global)) (file : Option FileState) → Never (Prepares image cap area log file) (stop.Refused refusal)
never_prepared refusal image cap area log file =
    then_never _ _ (stop.Refused refusal) (no_image refusal image) (λ i.
    then_never _ _ (stop.Refused refusal) (no_file refusal log file i.namespace) (λ filed.
    then_never _ _ (stop.Refused refusal) (record { never = λ old new s. s.0 }) (λ opening.
    then_never _ _ (stop.Refused refusal) (no_capability refusal cap) (λ c.
    then_never _ _ (stop.Refused refusal) (record { never = λ old new s. s.0 }) (λ h. record { never = λ old new s. s.0 })))))
