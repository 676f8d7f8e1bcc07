-- How the door leaves a link that is called for.
use Rattle.std.specs.Prelude.{◌≡◌, ◌+◌, ℕ, List, Result, Ok, Err}
use Rattle.willow_outside.specs.Counts.{HasRisen}
use Rattle.willow_outside.specs.Facts.{LinkFacts, DoorFacts}
use Rattle.willow_outside.specs.Links.{IsFresh, list_with}
use Rattle.peer_stage.specs.declared.outcome.Stop.{Stop}
use Rattle.peer_stage.specs.declared.outcome.Stop.TheVariants as stop

-- nothing was asked, handed out or given back
pub record IsUnasked (old new : DoorFacts) : Type 0 where
  pub asked : new.asked ≡ old.asked
  pub out : new.out ≡ old.out
  pub back : new.back ≡ old.back

-- a link to the place was handed out
pub record IsConnected (place : List ℕ) (old new : DoorFacts) (link : LinkFacts) : Type 0 where
  pub fresh : IsFresh link
  pub asked : new.asked ≡ list_with place old.asked
  pub out : new.out ≡ old.out + 1
  pub back : new.back ≡ old.back
  pub faults : new.faults ≡ old.faults
  pub accepts : new.accepts ≡ old.accepts

-- how a link to a place is handed out, of which this is told
abbrev pub Connects : {L : Type 0} → (L → LinkFacts) → List ℕ → DoorFacts → DoorFacts → Result L Stop → Type 0
Connects facts place old new (Ok link) = IsConnected place old new (facts link)
Connects facts place old new (Err stop.ReadFault) = IsUnasked old new × HasRisen old.faults new.faults
Connects facts place old new (Err stop.NoMemory) = IsUnasked old new × (new.faults ≡ old.faults)
Connects facts place old new (Err e) = ⊥
