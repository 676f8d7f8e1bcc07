-- Every session that was run keeps what is promised of it.
use Rattle.std.proofs.Common.{◌≡◌, ◌⊎◌, inl, inr, ℕ, Bool, List, Err}
use Rattle.willow_outside.specs.Facts.{LinkFacts}
use Rattle.auth_entry.specs.Authorised.{AuthorisedValue}
use Rattle.ns_cell.specs.Passes.{PassValue, FirstFound}
use Rattle.session_end.specs.declared.end.SessionEnd.TheVariants.{NoMemory}
use Rattle.sync_link.specs.Sessions.{Party}
use Rattle.sync_link.specs.Run.{Answer, IsSilent}
use Rattle.sync_link.specs.Ran.{Ran}
use Rattle.sync_link.specs.SessionPromises.{SessionPromises, KeepsSessionPromises}
use Rattle.sync_link.proofs.AlikeRuns.{runs_alike}
use Rattle.sync_link.proofs.GrantedRuns.{runs_granted}
use Rattle.sync_link.proofs.CountedRuns.{runs_counted}
use Rattle.sync_link.proofs.CoveringRuns.{runs_keep, runs_join}

-- the log with which it began is the whole one that its pass found, where memory was not wanting
pub fresh_of : {p : List ℕ → Party} (ran : Ran p) → (ran.answer ≡ Err NoMemory → ⊥) → FirstFound ran.before ran.did.log ran.after
fresh_of {p} ran never = by_case ran.did.turn
  where
    by_case : FirstFound ran.before ran.did.log ran.after ⊎ ((ran.answer ≡ Err NoMemory) × IsSilent ran.did.bytes ran.did.written) → FirstFound ran.before ran.did.log ran.after
    by_case (inl found) = found
    by_case (inr unbegun) = absurd (never unbegun.0)

promised : {p : List ℕ → Party} (ran : Ran p) → SessionPromises ran
promised {p} ran = record {
  fresh = fresh_of ran;
  keeps = runs_keep p ran;
  above = λ report q others ok other leave apart. runs_join p ran report q others ok other leave apart;
  bound = λ report q others ok other. runs_counted p ran report q others ok other;
  alike = λ q other bring signed heard same. runs_alike p q ran other bring signed heard same;
  granted = runs_granted p ran;
}

pub keeps_promises : (p : List ℕ → Party) (gives : List ℕ → List ℕ → Bool) (before after : PassValue AuthorisedValue) (link link' : LinkFacts) (faults faults' : ℕ) (answer : Answer)
    → KeepsSessionPromises p gives before after link link' faults faults' answer
keeps_promises p gives before after link link' faults faults' answer = λ did. promised _
