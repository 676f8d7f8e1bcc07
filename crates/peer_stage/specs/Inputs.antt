-- What an input has before it is read.
use Rattle.std.specs.Prelude.{◌≡◌, ℕ, ◌≤◌, List, length, Some}
use Rattle.willow_outside.specs.Facts.{SourceFacts}
use Rattle.peer_stage.specs.declared.stage.TheConstants.{INPUT_LIMIT}

-- the input tells its bytes, which are not too many
pub record HasInput (i : SourceFacts) (had : List ℕ) : Type 0 where
  pub told : i.left ≡ Some had
  pub within : length had ≤ INPUT_LIMIT
