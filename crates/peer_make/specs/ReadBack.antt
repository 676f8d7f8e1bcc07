-- What a command wrote is read back by another.
use Rattle.std.specs.Prelude.{◌≡◌, ℕ, List, [], ◌∷◌, Ok}
use Rattle.willow_outside.specs.Facts.{SourceFacts}
use Rattle.lms_core.specs.Key.{Key, IsKey, key_file}
use Rattle.mc_cap.specs.Forms.{IsCapability, capability_spelling}
use Rattle.mc_cap.specs.declared.capability.Capability.{Capability}
use Rattle.cap_codec.specs.Rows.{RawValue, FitsFrame, frame, AreFrames}
use Rattle.peer_stage.specs.Inputs.{HasInput}
use Rattle.peer_make.specs.Reading.{ReadsOne, IsUnfit}

-- an input that is the spelling of a capability is read as this one
abbrev pub ReadsCapabilityBack : Type 0
ReadsCapabilityBack = (c d : Capability) (i i' : SourceFacts) → IsCapability c → HasInput i (capability_spelling c) → ReadsOne i i' (Ok d) → d ≡ c

-- and is not told as unfit
abbrev pub IsNeverUnfit : Type 0
IsNeverUnfit = (c : Capability) (i i' : SourceFacts) (at : ℕ) → IsCapability c → HasInput i (capability_spelling c) → IsUnfit i i' at → ⊥

-- the frame of a row is a stream of this row alone
abbrev pub IsOwnStream : Type 0
IsOwnStream = (r : RawValue) → FitsFrame r → AreFrames (frame r) (r ∷ [])

-- and of no other rows
abbrev pub ReadsRowBack : Type 0
ReadsRowBack = (r : RawValue) (rows : List RawValue) → FitsFrame r → AreFrames (frame r) rows → rows ≡ r ∷ []

-- a key file is the file of one key
abbrev pub HasOneKey : Type 0
HasOneKey = (k l : Key) → IsKey k → IsKey l → key_file k ≡ key_file l → k ≡ l
