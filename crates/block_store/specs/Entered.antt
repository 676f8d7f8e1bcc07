-- A row among others.
use Rattle.std.specs.Prelude.{ℕ, List, ◌∷◌, ◌++◌, take, drop}
use Rattle.willow_entry.specs.Row.{RowValue, left_of}
use Rattle.block_store.specs.Blocks.{block_values, index_of}
use Rattle.block_store.specs.declared.block.Piece.{Piece}
use Rattle.block_store.specs.declared.looking.spot.Spot.{Spot}

-- the row stands behind so many of the rows, and of those behind it the ones go that it dominates
abbrev pub entered : RowValue → ℕ → List RowValue → List RowValue
entered r at rows = take at rows ++ r ∷ left_of r (drop at rows)

-- the same of rows in blocks, where all rows of the blocks from a place on stay
abbrev pub entered_upto : {R : Type 0} {b : _} → (R → RowValue) → List (Piece R b) → Spot → ℕ → RowValue → List RowValue
entered_upto value pieces at to r = entered r (index_of pieces at) (block_values value (take to pieces)) ++ block_values value (drop to pieces)
