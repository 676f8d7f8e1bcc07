-- Where blocks start in the list of all rows, and the rows of one.
use Rattle.std.specs.Prelude.{◌≡◌, ℕ, ◌+◌, ◌≤◌, List, length, take, drop, slice_index}
use Rattle.willow_entry.specs.Row.{RowValue}
use Rattle.block_store.specs.Blocks.{block_rows, block_values}
use Rattle.block_store.specs.declared.block.Piece.{Piece}

-- for each block the position of its first row, and behind them the number of all rows
pub record AreStarts {R : Type 0} {b : _} (starts : List ℕ) (pieces : List (Piece R b)) : Type 0 where
  pub count : length starts ≡ length pieces + 1
  pub each : (i : ℕ) → i ≤ length pieces → slice_index starts i ≡ length (block_rows (take i pieces))

-- what contracts see of the rows of the block of that number, counted from 0
abbrev pub values_at : {R : Type 0} {b : _} → (R → RowValue) → List (Piece R b) → ℕ → List RowValue
values_at value pieces i = block_values value (take 1 (drop i pieces))
