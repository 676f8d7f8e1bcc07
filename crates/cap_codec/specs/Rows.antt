-- Rows with their tokens read out, their bodies and their frames.
use Rattle.std.specs.Prelude.{◌≡◌, ℕ, ◌≤◌, List, ◌++◌, length, Result, Ok, Err}
use Rattle.std.specs.List.{AllByRecursion, flat_map}
use Rattle.spelling.specs.declared.ending.End.{End}
use Rattle.spelling.specs.declared.ending.End.TheVariants.{Refused, NoMemory}
use Rattle.spelling.specs.declared.ending.NotHere.{NotHere}
use Rattle.willow_entry.specs.EntryForm.{entry_spelling, IsEntry}
use Rattle.willow_entry.specs.Frame.{row_frame}
use Rattle.willow_entry.specs.Row.{RowValue}
use Rattle.willow_entry.specs.declared.entry.Entry.{Entry}
use Rattle.willow_entry.specs.declared.frame.TheConstants.{MAX_FRAME}
use Rattle.mc_cap.specs.Forms.{capability_spelling, IsCapability}
use Rattle.mc_cap.specs.Signature.{signature_spelling, IsSignature}
use Rattle.cap_codec.specs.declared.token.WriteToken.{WriteToken}

-- a capability, and the signature of an entry
abbrev pub token_spelling : WriteToken → List ℕ
token_spelling t = capability_spelling t.capability ++ signature_spelling t.signature

pub record IsToken (t : WriteToken) : Type 0 where
  pub capability_fits : IsCapability t.capability
  pub signature_fits : IsSignature t.signature

-- an entry with its token, read out
pub record RawValue : Type 0 where
  pub entry : Entry
  pub token : WriteToken

pub record IsRaw (r : RawValue) : Type 0 where
  pub entry_fits : IsEntry r.entry
  pub token_fits : IsToken r.token

-- what a store sees of it: the entry, and the token's bytes
abbrev pub row_of : RawValue → RowValue
row_of r = record { entry = r.entry; token = token_spelling r.token }

-- a row of a store whose token's bytes spell a token
pub record IsRawRow (r : RowValue) : Type 0 where
  pub entry_fits : IsEntry r.entry
  pub read_out : WriteToken
  pub token_fits : IsToken read_out
  pub spelled : r.token ≡ token_spelling read_out

-- the body of a row: its entry and its token
abbrev pub raw_spelling : RawValue → List ℕ
raw_spelling r = entry_spelling r.entry ++ token_spelling r.token

-- the row that the whole body spells, or that no row is spelled so
abbrev pub ReadsWhole : List ℕ → Result RawValue (End NotHere) → Type 0
ReadsWhole body (Ok r) = IsRaw r × (body ≡ raw_spelling r)
ReadsWhole body (Err (Refused e)) = (r : RawValue) → IsRaw r → body ≡ raw_spelling r → ⊥
ReadsWhole body (Err NoMemory) = Unit {0}

-- a row whose body a frame may carry
pub record FitsFrame (r : RawValue) : Type 0 where
  pub raw : IsRaw r
  pub short : length (raw_spelling r) ≤ MAX_FRAME

-- its frame is that of the row as a store sees it
abbrev pub frame : RawValue → List ℕ
frame r = row_frame (row_of r)

-- the bytes are the frames of these rows, one after the other, and nothing else
pub record AreFrames (bytes : List ℕ) (rows : List RawValue) : Type 0 where
  pub fit : AllByRecursion FitsFrame rows
  pub spelled : bytes ≡ flat_map frame rows

-- the bytes are the frames of at most one list of rows
abbrev pub HaveOneReading : Type 0
HaveOneReading = (bytes : List ℕ) (rows others : List RawValue) → AreFrames bytes rows → AreFrames bytes others → rows ≡ others
