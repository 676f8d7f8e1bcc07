-- Where the rows of a box stand.
use Rattle.std.specs.Prelude.{◌≡◌, ℕ, ◌≤◌, true, false, List, length}
use Rattle.std.specs.List.{AllWithin}
use Rattle.willow_area.specs.Boxes.{Ranges}
use Rattle.willow_entry.specs.Row.{RowValue}
use Rattle.block_store.specs.Blocks.{block_values, index_of, IsSpot}
use Rattle.block_store.specs.InBox.{is_in}
use Rattle.block_store.specs.declared.block.Piece.{Piece}
use Rattle.block_store.specs.declared.reading.runs.Run.{Run}

-- no row before the first position or from the second on is in the box
pub record AreBetween (area : Ranges) (rows : List RowValue) (low high : ℕ) : Type 0 where
  pub order : low ≤ high
  pub within : high ≤ length rows
  pub before : AllWithin (λ r. is_in area r ≡ false) rows 0 low
  pub behind : AllWithin (λ r. is_in area r ≡ false) rows high (length rows)

-- each row between two positions is in the box
abbrev pub AreAllIn : Ranges → List RowValue → ℕ → ℕ → Type 0
AreAllIn area rows low high = AllWithin (λ r. is_in area r ≡ true) rows low high

-- the rows of a box stand from one spot on and before another; where this is exact, each row between is in the box
pub record IsRunOf {R : Type 0} {b : _} (value : R → RowValue) (area : Ranges) (pieces : List (Piece R b)) (run : Run) : Type 0 where
  pub from_is : IsSpot pieces run.from
  pub to_is : IsSpot pieces run.to
  pub between : AreBetween area (block_values value pieces) (index_of pieces run.from) (index_of pieces run.to)
  pub all_in : run.exact ≡ true → AreAllIn area (block_values value pieces) (index_of pieces run.from) (index_of pieces run.to)
