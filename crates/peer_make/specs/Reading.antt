-- What a command takes of an input that is to be one capability.
use Rattle.std.specs.Prelude.{◌≡◌, ℕ, ◌⊎◌, List, Result, Ok, Err}
use Rattle.willow_outside.specs.Facts.{SourceFacts}
use Rattle.mc_cap.specs.Forms.{IsCapability, capability_spelling}
use Rattle.mc_cap.specs.declared.capability.Capability.{Capability}
use Rattle.cap_codec.specs.Memory.{CapabilityAsks}
use Rattle.peer_stage.specs.Stages.{IsReadWhole, IsReadTooFar, IsReadToFault, IsReadSomewhat, IsInput}
use Rattle.peer_stage.specs.declared.stage.TheConstants.{INPUT_LIMIT}
use Rattle.peer_stage.specs.declared.outcome.Origin.{Origin}
use Rattle.peer_stage.specs.declared.outcome.Stop.{Stop}
use Rattle.peer_stage.specs.declared.outcome.Stop.TheVariants as stop

-- the bytes are the spelling of the capability and nothing else
pub record IsSpelled (bytes : List ℕ) (c : Capability) : Type 0 where
  pub fits : IsCapability c
  pub spelled : bytes ≡ capability_spelling c

-- the bytes are the spelling of no capability
abbrev pub IsNoCapability : List ℕ → Type 0
IsNoCapability bytes = (c : Capability) → IsSpelled bytes c → ⊥

-- The capability that the bytes are; that they are none is told at 0 of where they came from. Want of memory comes only
-- where a capability's reader asks for some.
abbrev pub ReadsCapabilityFrom : Origin → List ℕ → Result Capability Stop → Type 0
ReadsCapabilityFrom origin bytes (Ok c) = IsSpelled bytes c
ReadsCapabilityFrom origin bytes (Err (stop.BadInput from at)) = (from ≡ origin) × (at ≡ 0) × IsNoCapability bytes
ReadsCapabilityFrom origin bytes (Err stop.NoMemory) = CapabilityAsks bytes
ReadsCapabilityFrom origin bytes (Err e) = ⊥

-- the input was read whole, and is the spelling of the capability
pub record IsRead (i i' : SourceFacts) (c : Capability) : Type 0 where
  pub bytes : List ℕ
  pub read : IsReadWhole INPUT_LIMIT i i' bytes
  pub spelled : IsSpelled bytes c

-- the input passes the limit
pub record IsTooLong (i i' : SourceFacts) (at : ℕ) : Type 0 where
  pub bytes : List ℕ
  pub read : IsReadTooFar INPUT_LIMIT i i' bytes
  pub told_at : at ≡ INPUT_LIMIT

-- the input was read whole, and is no capability
pub record IsOther (i i' : SourceFacts) (at : ℕ) : Type 0 where
  pub bytes : List ℕ
  pub read : IsReadWhole INPUT_LIMIT i i' bytes
  pub no_capability : IsNoCapability bytes
  pub told_at : at ≡ 0

-- the input passes the limit, which is told at the limit; or it is no capability, which is told at 0
abbrev pub IsUnfit : SourceFacts → SourceFacts → ℕ → Type 0
IsUnfit i i' at = IsTooLong i i' at ⊎ IsOther i i' at

-- how the reading of an input ends that is to be one capability
abbrev pub ReadsOne : SourceFacts → SourceFacts → Result Capability Stop → Type 0
ReadsOne i i' (Ok c) = IsRead i i' c
ReadsOne i i' (Err stop.ReadFault) = (bytes : List ℕ) × IsReadToFault INPUT_LIMIT i i' bytes
ReadsOne i i' (Err (stop.BadInput from at)) = IsInput from × IsUnfit i i' at
ReadsOne i i' (Err stop.NoMemory) = IsReadSomewhat i i'
ReadsOne i i' (Err e) = ⊥
