-- How rows are packed into blocks.
use Rattle.std.specs.Prelude.{ℕ, ◌+◌, ◌-◌, ◌<◌, ◌≤◌, List, length, slice_index_or}
use Rattle.block_store.specs.Blocks.{sizes}
use Rattle.block_store.specs.declared.block.Piece.{Piece}

-- two neighbours have more than 64 together
abbrev pub ArePacked : List ℕ → Type 0
ArePacked ns = (k : ℕ) → k + 1 < length ns → 64 < slice_index_or ns k 0 + slice_index_or ns (k + 1) 0

-- two neighbouring blocks have more than 64 rows together
abbrev pub IsPacked : {R : Type 0} {b : _} → List (Piece R b) → Type 0
IsPacked pieces = ArePacked (sizes pieces)

-- how many rows the first block has; none where there is none
abbrev pub first_size : {R : Type 0} {b : _} → List (Piece R b) → ℕ
first_size pieces = slice_index_or (sizes pieces) 0 0

-- how many the last one has
abbrev pub last_size : {R : Type 0} {b : _} → List (Piece R b) → ℕ
last_size pieces = slice_index_or (sizes pieces) (length (sizes pieces) - 1) 0

-- a list of blocks that is put together stays packed, and its first block does not lose rows
pub record IsGrown {R : Type 0} {b : _} (old new : List (Piece R b)) : Type 0 where
  pub packed : IsPacked old → IsPacked new
  pub first : first_size old ≤ first_size new
