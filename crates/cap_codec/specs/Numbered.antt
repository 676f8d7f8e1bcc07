-- Rows that tell their capability by a number, and capabilities in frames.
use Rattle.std.specs.Prelude.{ℕ, ◌<◌, ◌^◌, List, ◌++◌}
use Rattle.std.specs.Int.{w32, to_be_bytes}
use Rattle.spelling.specs.Front.{Front, Whole, ◌>>=◌}
use Rattle.spelling.specs.Memory.{Behind}
use Rattle.spelling.specs.Reading.{number_at, number_up_to, text_at}
use Rattle.willow_entry.specs.EntryForm.{entry_at, entry_spelling, IsEntry}
use Rattle.willow_entry.specs.declared.frame.TheConstants.{MAX_FRAME}
use Rattle.mc_cap.specs.Forms.{capability_spelling, IsCapability}
use Rattle.mc_cap.specs.Signature.{signature_spelling, IsSignature}
use Rattle.mc_cap.specs.declared.capability.Capability.{Capability}
use Rattle.cap_codec.specs.declared.numbered.NumberedRow.{NumberedRow}
use Rattle.cap_codec.specs.Framed.{framed, FitsFramed}
use Rattle.cap_codec.specs.Memory.{CapabilityAsks}
use Rattle.cap_codec.specs.Reading.{signature_at}
use Rattle.cap_codec.specs.Rows.{RawValue}

-- an entry, the number of a capability in four bytes, and a signature field
abbrev pub numbered_spelling : NumberedRow → List ℕ
numbered_spelling r = entry_spelling r.entry ++ (to_be_bytes w32 r.number ++ signature_spelling r.signature)

-- each field is within its limits
pub record IsNumberedRow (r : NumberedRow) : Type 0 where
  pub entry_fits : IsEntry r.entry
  pub number_fits : r.number < 2 ^ 32
  pub signature_fits : IsSignature r.signature

-- the same, read
unfoldable pub numbered_at : List ℕ → Front NumberedRow
numbered_at bytes = do
  entry ← entry_at bytes
  number ← number_at w32 entry.1
  signature ← signature_at number.1
  Whole (record { entry = entry.0; number = number.0; signature = signature.0 }) signature.1

-- the row, with a capability in the place of the number
abbrev pub row_with : Capability → NumberedRow → RawValue
row_with capability r = record { entry = r.entry; token = record { capability = capability; signature = r.signature } }

-- such a row in a frame
abbrev pub numbered_frame : NumberedRow → List ℕ
numbered_frame = framed numbered_spelling

abbrev pub FitsNumbered : NumberedRow → Type 0
FitsNumbered = FitsFramed numbered_spelling IsNumberedRow

-- a capability in a frame
abbrev pub capability_frame : Capability → List ℕ
capability_frame = framed capability_spelling

abbrev pub FitsCapability : Capability → Type 0
FitsCapability = FitsFramed capability_spelling IsCapability

-- a capability's frame asks for memory where its bytes are all there and the capability in them asks
abbrev pub CapabilityFrameAsks : List ℕ → Type 0
CapabilityFrameAsks bytes = Behind (text_at (number_up_to w32 MAX_FRAME) bytes) (λ spelled rest. CapabilityAsks spelled)
