-- Bytes that are written a piece at a time.
use Rattle.std.specs.Prelude.{◌≡◌, ℕ, List, ◌++◌, Result, Ok, Err}
use Rattle.std.specs.Io.KnownBytes.{Appends}
use Rattle.willow_outside.specs.Facts.{SinkFacts}
use Rattle.peer_stage.specs.Stages.{WritesOutput}
use Rattle.peer_stage.specs.declared.outcome.Stop.{Stop}

-- of all the bytes a front was written, without a fault; behind it come those of the piece, and the rest
pub record IsWritingOut (old now : SinkFacts) (whole piece rest : List ℕ) : Type 0 where
  pub written : List ℕ
  pub appended : Appends old.held now.held written
  pub parts : whole ≡ written ++ (piece ++ rest)
  pub no_fault : now.faults ≡ old.faults

-- the writing goes on, or it stopped
abbrev pub GoesOnWriting : SinkFacts → SinkFacts → List ℕ → List ℕ → List ℕ → Result (Unit {0}) Stop → Type 0
GoesOnWriting old now whole piece rest (Ok u) = IsWritingOut old now whole piece rest
GoesOnWriting old now whole piece rest (Err e) = WritesOutput old now whole (Err e)
