-- The objects outside, and the hub of those who watch, as a run finds and leaves them.
use Rattle.std.specs.Prelude.{◌≡◌, ◌≤◌}
use Rattle.willow_outside.specs.Facts.{ShelfFacts, SourceFacts, SinkFacts, NoiseFacts, DoorFacts, BayFacts}
use Rattle.sub_hub.specs.Hubs.{HubValue}

pub record World : Type 0 where
  pub shelf : ShelfFacts
  pub input : SourceFacts
  pub output : SinkFacts
  pub report : SinkFacts
  pub door : DoorFacts
  pub noise : NoiseFacts
  pub hub : HubValue
  pub bay : BayFacts

-- no count of an object falls; a hub has none
pub record NeverFall (old new : World) : Type 0 where
  pub shelf_reads : old.shelf.read_faults ≤ new.shelf.read_faults
  pub shelf_writes : old.shelf.write_faults ≤ new.shelf.write_faults
  pub input_faults : old.input.faults ≤ new.input.faults
  pub input_ends : old.input.ends ≤ new.input.ends
  pub output_faults : old.output.faults ≤ new.output.faults
  pub report_faults : old.report.faults ≤ new.report.faults
  pub door_faults : old.door.faults ≤ new.door.faults
  pub noise_faults : old.noise.faults ≤ new.noise.faults
  pub bay_faults : old.bay.faults ≤ new.bay.faults

-- every object's counts of faults are as before, but for the door's, which did not fall
pub record UnfailedInside (old new : World) : Type 0 where
  pub shelf_reads : new.shelf.read_faults ≡ old.shelf.read_faults
  pub shelf_writes : new.shelf.write_faults ≡ old.shelf.write_faults
  pub input : new.input.faults ≡ old.input.faults
  pub output : new.output.faults ≡ old.output.faults
  pub report : new.report.faults ≡ old.report.faults
  pub door : old.door.faults ≤ new.door.faults
  pub noise : new.noise.faults ≡ old.noise.faults
  pub bay : new.bay.faults ≡ old.bay.faults

-- every object's counts of faults are as before
pub record Unfailed (old new : World) : Type 0 where
  pub shelf_reads : new.shelf.read_faults ≡ old.shelf.read_faults
  pub shelf_writes : new.shelf.write_faults ≡ old.shelf.write_faults
  pub input : new.input.faults ≡ old.input.faults
  pub output : new.output.faults ≡ old.output.faults
  pub report : new.report.faults ≡ old.report.faults
  pub door : new.door.faults ≡ old.door.faults
  pub noise : new.noise.faults ≡ old.noise.faults
  pub bay : new.bay.faults ≡ old.bay.faults
