-- The commands over rows as values.
use Rattle.std.specs.Prelude.{◌≡◌, ◌⊎◌, ℕ, List, ◌++◌, Option, Some, None}
use Rattle.std.specs.String.{string_bytes}
use Rattle.std.specs.declared.string.String.{String}
use Rattle.std.specs.declared.alloc.Global.{Global}
use Rattle.willow_outside.specs.Counts.{Rose}
use Rattle.willow_outside.specs.Facts.{Names, SourceFacts}
use Rattle.cap_codec.specs.Rows.{RawValue, AreFrames}
use Rattle.peer_image.specs.ImageReading.{IsImage, raw_rows}
use Rattle.peer_image.specs.Order.{order_refusal}
use Rattle.peer_stage.specs.Deed.{Deed}
use Rattle.peer_stage.specs.Inputs.{HasInput}
use Rattle.peer_words.specs.declared.command.AreaWords.{AreaWords}
use Rattle.peer_rows.specs.Images.{IsImageInOrder}
use Rattle.peer_rows.specs.Logged.{FitsLog}
use Rattle.peer_rows.specs.Opened.{NamedRows}
use Rattle.peer_rows.specs.Join.{Joins}
use Rattle.peer_rows.specs.Show.{Shows}
use Rattle.peer_rows.specs.Generate.{Generates}
use Rattle.peer_rows.specs.Watch.{Watches}

-- ---- join

-- the input has the frames of rows, which fit the log
pub record CanJoin (namespace : List ℕ) (i : SourceFacts) : Type 0 where
  pub had : List ℕ
  pub input : HasInput i had
  pub rows : List RawValue
  pub frames : AreFrames had rows
  pub fits_log : FitsLog namespace rows

abbrev pub join_deed : List ℕ → Deed
join_deed namespace =
    record {
      meets = Joins namespace;
      ready = λ old new. CanJoin namespace old.input;
      reads = λ old new. Rose old.input.faults new.input.faults;
      writes = λ old new. Rose old.output.faults new.output.faults;
      wants_later = λ old new. ⊥;
      unbuilt = ⊥;
    }

-- ---- show

-- the input is an image of rows in order, which fit the log
pub record CanShow (i : SourceFacts) : Type 0 where
  pub had : List ℕ
  pub input : HasInput i had
  pub namespace : List ℕ
  pub rows : List RawValue
  pub is_image : IsImage had namespace rows
  pub in_order : order_refusal (raw_rows rows) ≡ None
  pub fits_log : FitsLog namespace rows

abbrev pub show_deed : Option ℕ → Deed
show_deed asked =
    record {
      meets = Shows asked;
      ready = λ old new. CanShow old.input;
      reads = λ old new. Rose old.input.faults new.input.faults;
      writes = λ old new. Rose old.output.faults new.output.faults;
      wants_later = λ old new. ⊥;
      unbuilt = ⊥;
    }

-- ---- gen

abbrev pub gen_deed : ℕ → Deed
gen_deed rows =
    record {
      meets = Generates rows;
      ready = λ old new. Unit {0};
      reads = λ old new. ⊥;
      writes = λ old new. Rose old.output.faults new.output.faults;
      wants_later = λ old new. ⊥;
      unbuilt = ⊥;
    }

-- ---- watch

-- The shelf tells that the name holds the image of rows in order, the input has the frames of rows, and the log has room for
-- all of them.
pub record CanWatch (name : List ℕ) (told : Option Names) (i : SourceFacts) : Type 0 where
  pub names : Names
  pub are_told : told ≡ Some names
  pub image_bytes : List ℕ
  pub held : names name ≡ Some image_bytes
  pub opened : NamedRows
  pub is_image : IsImageInOrder image_bytes opened.namespace opened.rows
  pub had : List ℕ
  pub input : HasInput i had
  pub rows : List RawValue
  pub frames : AreFrames had rows
  pub fits_log : FitsLog opened.namespace (opened.rows ++ rows)

abbrev pub watch_deed : String Global → AreaWords → Deed
watch_deed name words =
    record {
      meets = Watches name words;
      ready = λ old new. CanWatch (string_bytes name) old.shelf.names old.input;
      reads = λ old new. Rose old.shelf.read_faults new.shelf.read_faults ⊎ Rose old.input.faults new.input.faults;
      writes = λ old new. Rose old.shelf.write_faults new.shelf.write_faults;
      wants_later = λ old new. ⊥;
      unbuilt = ⊥;
    }
