-- What the report tells of an end.
use Rattle.std.specs.Prelude.{◌⊎◌, ℕ, List}
use Rattle.willow_outside.specs.Counts.{Rose}
use Rattle.willow_outside.specs.Facts.{SinkFacts}
use Rattle.peer_stage.specs.Stages.{IsWritten, IsPartlyWritten}

-- the report grew by these lines, or by a front of them where it failed
abbrev pub HasTold : SinkFacts → SinkFacts → List ℕ → Type 0
HasTold old new lines = IsWritten old new lines ⊎ (IsPartlyWritten old new lines × Rose old.faults new.faults)
