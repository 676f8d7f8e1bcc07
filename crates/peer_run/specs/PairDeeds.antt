-- The commands in which two stores meet as values.
use Rattle.std.specs.Prelude.{◌≡◌, ℕ, ◌⊎◌, List, Option, Some, None}
use Rattle.std.specs.String.{string_bytes}
use Rattle.willow_outside.specs.Counts.{Rose}
use Rattle.willow_outside.specs.Facts.{Names}
use Rattle.willow_outside.specs.Names.{GetsName}
use Rattle.cap_codec.specs.Rows.{RawValue}
use Rattle.mc_cap.specs.declared.capability.Capability.{Capability}
use Rattle.peer_make.specs.Reading.{IsSpelled}
use Rattle.peer_rows.specs.Images.{IsImageInOrder}
use Rattle.peer_stage.specs.Deed.{Deed}
use Rattle.peer_run.specs.Drill.{Drills}
use Rattle.peer_run.specs.Greeting.{own_refusal}
use Rattle.peer_run.specs.ImagesMet.{MeetFullLog}
use Rattle.peer_run.specs.Meet.{Meets, agreed_area, side_hello}
use Rattle.peer_run.specs.declared.meeting.MeetWords.{MeetWords}

-- ---- drill

abbrev pub drill_deed : ℕ → Deed
drill_deed rows =
    record {
      meets = Drills rows;
      ready = λ old new. Unit {0};
      reads = λ old new. ⊥;
      writes = λ old new. Rose old.output.faults new.output.faults;
      wants_later = λ old new. ⊥;
      unbuilt = ⊥;
    }

-- ---- meet

-- the name holds the image of these rows in order, as far as the shelf tells
pub record HasImage (told : Option Names) (name namespace : List ℕ) (rows : List RawValue) : Type 0 where
  pub bytes : List ℕ
  pub held : GetsName told name (Some bytes)
  pub is_image : IsImageInOrder bytes namespace rows

-- the name holds the capability, as far as the shelf tells
pub record HoldsCapability (told : Option Names) (name : List ℕ) (c : Capability) : Type 0 where
  pub bytes : List ℕ
  pub held : GetsName told name (Some bytes)
  pub spelled : IsSpelled bytes c

-- what a meeting goes by: two images of one namespace, with their rows in order, and two capabilities
pub record Given : Type 0 where
  pub namespace : List ℕ
  pub left : List RawValue
  pub right : List RawValue
  pub left_cap : Capability
  pub right_cap : Capability

-- the names of the words hold it, and nothing is against the hello of either side
pub record AreGiven (words : MeetWords) (told : Option Names) (g : Given) : Type 0 where
  pub left : HasImage told (string_bytes words.left) g.namespace g.left
  pub right : HasImage told (string_bytes words.right) g.namespace g.right
  pub left_cap : HoldsCapability told (string_bytes words.left_cap) g.left_cap
  pub right_cap : HoldsCapability told (string_bytes words.right_cap) g.right_cap
  pub left_passes : own_refusal g.namespace (side_hello words.area g.left_cap) ≡ None
  pub right_passes : own_refusal g.namespace (side_hello words.area g.right_cap) ≡ None

-- the shelf tells that the names hold what a meeting goes by, and the logs have room
pub record CanMeet (words : MeetWords) (told : Option Names) : Type 0 where
  pub names : Names
  pub are_told : told ≡ Some names
  pub given : Given
  pub are_given : AreGiven words (Some names) given
  pub room : MeetFullLog given.namespace given.left given.right (agreed_area words.area given.left_cap given.right_cap) words.limits → ⊥

abbrev pub meet_deed : MeetWords → Deed
meet_deed words =
    record {
      meets = Meets words;
      ready = λ old new. CanMeet words old.shelf.names;
      reads = λ old new. Rose old.shelf.read_faults new.shelf.read_faults;
      writes = λ old new. Rose old.shelf.write_faults new.shelf.write_faults ⊎ Rose old.output.faults new.output.faults;
      wants_later = λ old new. ⊥;
      unbuilt = ⊥;
    }
