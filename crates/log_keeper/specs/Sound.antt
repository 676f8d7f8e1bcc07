-- What holds of each keeper.
use Rattle.std.specs.Prelude.{◌≡◌, ℕ, ◌≤◌, Bool, false, List, Option}
use Rattle.willow_entry.specs.Row.{RowValue}
use Rattle.log_keeper.specs.Crashes.{KeepsFile}

-- no more rows than bytes are counted, and a keeper that is not broken keeps some rows in its file
pub record IsSoundKeeper (IsRow : RowValue → Type 0) (contents : Option (List ℕ)) (images : List ℕ → Type 0) (end count : ℕ) (broken : Bool) : Type 0 where
  pub few : count ≤ end
  pub keeps : broken ≡ false → (namespace : List ℕ) × (rows : List RowValue) × KeepsFile IsRow contents images end count namespace rows
