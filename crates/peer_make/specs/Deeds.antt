-- The commands that make things as values.
use Rattle.std.specs.Prelude.{◌≡◌, ℕ, ◌+◌, ◌≤◌, ◌⊎◌, true, List, Option, Some, None}
use Rattle.std.specs.String.{string_bytes}
use Rattle.std.specs.declared.string.String.{String}
use Rattle.std.specs.declared.alloc.Global.{Global}
use Rattle.willow_outside.specs.Counts.{Rose}
use Rattle.willow_outside.specs.Facts.{Names, ShelfFacts, SourceFacts}
use Rattle.lms_core.specs.Accepts.{leaves}
use Rattle.lms_core.specs.Key.{Key, IsKey, key_file}
use Rattle.lms_core.specs.declared.height.Height.{Height}
use Rattle.mc_cap.specs.declared.capability.Capability.{Capability}
use Rattle.mc_cap.specs.declared.capability.Mode.{Mode}
use Rattle.peer_words.specs.declared.command.SignerWord.{SignerWord}
use Rattle.peer_words.specs.declared.command.SignerWord.TheVariants.{OpenKey, LmsFile}
use Rattle.peer_words.specs.declared.command.AreaWords.{AreaWords}
use Rattle.peer_stage.specs.Deed.{Deed}
use Rattle.peer_stage.specs.Inputs.{HasInput}
use Rattle.peer_make.specs.Reading.{IsSpelled}
use Rattle.peer_make.specs.Making.{MakesKey}
use Rattle.peer_make.specs.Granting.{Grants}
use Rattle.peer_words.specs.Areas.{is_empty}
use Rattle.peer_make.specs.Delegating.{asked, Delegates}
use Rattle.peer_make.specs.Writing.{WritesEntry, EntryWords}

-- ---- signers

-- the shelf tells that the name holds a key file with an index left
pub record HasIndex (h : ShelfFacts) (name : List ℕ) : Type 0 where
  pub names : Names
  pub told : h.names ≡ Some names
  pub key : Key
  pub is_key : IsKey key
  pub file : names name ≡ Some (key_file key)
  pub room : key.next + 1 ≤ leaves key.height

-- an open key can always sign, a key file where it has an index left
abbrev pub CanSign : SignerWord → ShelfFacts → Type 0
CanSign (OpenKey key) h = Unit {0}
CanSign (LmsFile name) h = HasIndex h (string_bytes name)

-- a count of what a signer calls rose: an open key calls nothing, a key file the shelf
abbrev pub SignerRose : SignerWord → ℕ → ℕ → Type 0
SignerRose (OpenKey key) before now = ⊥
SignerRose (LmsFile name) before now = Rose before now

-- where there is a signer it can sign
abbrev pub CanBegin : Option SignerWord → ShelfFacts → Type 0
CanBegin None h = Unit {0}
CanBegin (Some key) h = CanSign key h

-- a count of what the signer calls rose, where there is one
abbrev pub BeginningRose : Option SignerWord → ℕ → ℕ → Type 0
BeginningRose None before now = ⊥
BeginningRose (Some key) before now = SignerRose key before now

-- ---- key

-- the shelf tells that the name is free
pub record IsFree (h : ShelfFacts) (name : List ℕ) : Type 0 where
  pub names : Names
  pub told : h.names ≡ Some names
  pub nothing : names name ≡ None

abbrev pub key_deed : String Global → Height → Deed
key_deed name height =
    record {
      meets = MakesKey name height;
      ready = λ old new. IsFree old.shelf (string_bytes name);
      reads = λ old new. Rose old.shelf.read_faults new.shelf.read_faults ⊎ Rose old.noise.faults new.noise.faults;
      writes = λ old new. Rose old.shelf.write_faults new.shelf.write_faults ⊎ Rose old.output.faults new.output.faults;
      wants_later = λ old new. ⊥;
      unbuilt = ⊥;
    }

-- ---- grant

abbrev pub grant_deed : List ℕ → Mode → List ℕ → Option SignerWord → Deed
grant_deed namespace mode user key =
    record {
      meets = Grants namespace mode user key;
      ready = λ old new. CanBegin key old.shelf;
      reads = λ old new. BeginningRose key old.shelf.read_faults new.shelf.read_faults;
      writes = λ old new. BeginningRose key old.shelf.write_faults new.shelf.write_faults ⊎ Rose old.output.faults new.output.faults;
      wants_later = λ old new. ⊥;
      unbuilt = ⊥;
    }

-- ---- delegate

-- the input is one capability
pub record HasCapability (i : SourceFacts) (c : Capability) : Type 0 where
  pub had : List ℕ
  pub input : HasInput i had
  pub spelled : IsSpelled had c

-- the input is one capability; the signer can sign, unless the area has no times
abbrev pub CanDelegate : SignerWord → AreaWords → ShelfFacts → SourceFacts → Type 0
CanDelegate key area h i = (c : Capability) × HasCapability i c × ((is_empty (asked area c) ≡ true) ⊎ CanSign key h)

abbrev pub delegate_deed : SignerWord → List ℕ → AreaWords → Deed
delegate_deed key to area =
    record {
      meets = Delegates key to area;
      ready = λ old new. CanDelegate key area old.shelf old.input;
      reads = λ old new. SignerRose key old.shelf.read_faults new.shelf.read_faults ⊎ Rose old.input.faults new.input.faults;
      writes = λ old new. SignerRose key old.shelf.write_faults new.shelf.write_faults ⊎ Rose old.output.faults new.output.faults;
      wants_later = λ old new. ⊥;
      unbuilt = ⊥;
    }

-- ---- write

-- the input is one capability, and the signer can sign
abbrev pub CanWrite : SignerWord → ShelfFacts → SourceFacts → Type 0
CanWrite key h i = ((c : Capability) × HasCapability i c) × CanSign key h

abbrev pub write_deed : SignerWord → EntryWords → Deed
write_deed key words =
    record {
      meets = WritesEntry key words;
      ready = λ old new. CanWrite key old.shelf old.input;
      reads = λ old new. SignerRose key old.shelf.read_faults new.shelf.read_faults ⊎ Rose old.input.faults new.input.faults;
      writes = λ old new. SignerRose key old.shelf.write_faults new.shelf.write_faults ⊎ Rose old.output.faults new.output.faults;
      wants_later = λ old new. ⊥;
      unbuilt = ⊥;
    }
