-- Rows in blocks.
use Rattle.std.specs.Prelude.{◌≡◌, ℕ, ◌+◌, ◌<◌, ◌≤◌, Bool, true, false, List, [], ◌∷◌, length, map, take, flat_map, slice_index_or}
use Rattle.std.specs.List.Sorted.{IsPartitionPoint}
use Rattle.willow_entry.specs.Row.{RowValue}
use Rattle.block_store.specs.Held.{rows_of, values_of}
use Rattle.block_store.specs.declared.block.Piece.{Piece}
use Rattle.block_store.specs.declared.looking.spot.Spot.{Spot}

-- the rows of blocks, one block after the other
abbrev pub block_rows : {R : Type 0} {b : _} → List (Piece R b) → List R
block_rows pieces = flat_map (λ p. rows_of p.block.value.rows.items) pieces

-- what contracts see of them
abbrev pub block_values : {R : Type 0} {b : _} → (R → RowValue) → List (Piece R b) → List RowValue
block_values value pieces = flat_map (λ p. values_of value p.block.value.rows.items) pieces

-- how many rows each block has
abbrev pub sizes : {R : Type 0} {b : _} → List (Piece R b) → List ℕ
sizes pieces = map (λ p. length p.block.value.rows.items) pieces

-- how many the block at a place has; none behind all blocks
abbrev pub size_at : {R : Type 0} {b : _} → List (Piece R b) → ℕ → ℕ
size_at pieces block = slice_index_or (sizes pieces) block 0

-- how many rows stand before a spot
abbrev pub index_of : {R : Type 0} {b : _} → List (Piece R b) → Spot → ℕ
index_of pieces spot = length (block_rows (take spot.block pieces)) + spot.row

-- a spot at a row, or behind all rows
pub record IsSpot {R : Type 0} {b : _} (pieces : List (Piece R b)) (spot : Spot) : Type 0 where
  pub within : spot.block ≤ length pieces
  pub row : (p : Piece R b) → spot.block < length pieces → spot.row < length (rows_of (slice_index_or pieces spot.block p).block.value.rows.items)
  pub end : spot.block ≡ length pieces → spot.row ≡ 0

-- whether the last item passes a test; where there is none, it does
abbrev pub last_passes : {X : Type 0} → (X → Bool) → List X → Bool
last_passes test [] = true
last_passes test (x ∷ []) = test x
last_passes test (x ∷ y ∷ ys) = last_passes test (y ∷ ys)

-- so many blocks end by a row that passes a test, and none behind them does
abbrev pub EndPassing : {R : Type 0} {b : _} → (R → RowValue) → (RowValue → Bool) → List (Piece R b) → ℕ → Type 0
EndPassing value test pieces count =
    IsPartitionPoint (λ p. last_passes test (values_of value p.block.value.rows.items) ≡ true) (λ p. last_passes test (values_of value p.block.value.rows.items) ≡ false) pieces count
