-- Blocks as pieces of the list of all rows.
use Rattle.std.proofs.Common.{◌≡◌, inl, inr, ℕ, suc, ◌+◌, ◌-◌, ◌<◌, ◌≤◌, Bool, List, [], ◌∷◌, ◌++◌, length, map, take, drop, get_or, Some, slice_get, sym, ap, ◌∙◌, arith}
use Rattle.std.specs.List.Sorted.{IsPartitionedBy}
use Rattle.std.specs.Option.{option_map}
use Rattle.std.proofs.lemmas.List.{length-map, take_more, append-nil, take-append-drop, drop-drop, get_or-map, get_or_past}
use Rattle.std.proofs.lemmas.List.Concat.{get_or-flat_map, flat_map-append}
use Rattle.std.proofs.lemmas.Option.{slice_get-map}
use Rattle.willow_entry.specs.Row.{RowValue}
use Rattle.block_store.specs.Blocks.{block_rows, block_values, index_of, last_passes, size_at, sizes, IsSpot}
use Rattle.block_store.specs.Held.{rows_of, values_of}
use Rattle.block_store.specs.declared.block.Piece.{Piece}
use Rattle.block_store.specs.declared.looking.spot.Spot.{Spot}
use Rattle.block_store.proofs.Copies.{seen_pieces}
use Rattle.block_store.proofs.Finding.{either, item_of, lasts_split, same_long, start-next, start-rises, start-all, start-within}

module _ {R : Type 0} {b : _} (value : R → RowValue) where
  -- no block is empty
  pub some_rows : (p : Piece R b) → 0 < length (values_of value p.block.value.rows.items)
  some_rows p = omega (arith, length-map p.block.value.rows.items (λ a. value a.value), p.block.value.sized.0, p.block.value.rows.ok.0)

  -- where what passes stands in front, so do the blocks that end passing
  pub ends_split : (test : RowValue → Bool) (pieces : List (Piece R b)) → IsPartitionedBy test (block_values value pieces) → IsPartitionedBy (λ p. last_passes test (values_of value p.block.value.rows.items)) pieces
  ends_split test pieces split = lasts_split (λ (p : Piece R b). values_of value p.block.value.rows.items) test some_rows pieces split

  -- as many values as rows
  pub values_long : (pieces : List (Piece R b)) → length (block_values value pieces) ≡ length (block_rows pieces)
  values_long pieces = same_long (λ (p : Piece R b). p.block.value.rows.items) (λ a. value a.value) (λ a. a.value) pieces

  pub values_seen : (pieces : List (Piece R b)) → map value (block_rows pieces) ≡ block_values value pieces
  values_seen pieces = seen_pieces (λ (p : Piece R b). p.block.value.rows.items) (λ a. a.value) value pieces

  -- the blocks before a place, and those from it on
  pub values_cut : (pieces : List (Piece R b)) (n : ℕ) → block_values value pieces ≡ block_values value (take n pieces) ++ block_values value (drop n pieces)
  values_cut pieces n =
      ap (block_values value) (sym (take-append-drop n pieces))
      ∙ flat_map-append (λ (q : Piece R b). values_of value q.block.value.rows.items) (take n pieces) (drop n pieces)

  -- the same of the blocks from a place on
  pub values_cut_behind : (pieces : List (Piece R b)) (from to : ℕ) → from ≤ to → block_values value (drop from pieces) ≡ block_values value (take (to - from) (drop from pieces)) ++ block_values value (drop to pieces)
  values_cut_behind pieces from to h =
      let sum : from + (to - from) ≡ to = omega arith in
      values_cut (drop from pieces) (to - from)
      ∙ ap (λ l. block_values value (take (to - from) (drop from pieces)) ++ block_values value l) (drop-drop (to - from) from pieces ∙ ap (λ k. drop k pieces) sum)

  -- one block more
  pub values_more : (pieces : List (Piece R b)) (at : ℕ) (p : Piece R b) → at < length pieces → block_values value (take (at + 1) pieces) ≡ block_values value (take at pieces) ++ values_of value (get_or pieces at p).block.value.rows.items
  values_more pieces at p h =
      ap (block_values value) (take_more pieces at p h)
      ∙ flat_map-append (λ (q : Piece R b). values_of value q.block.value.rows.items) (take at pieces) (get_or pieces at p ∷ [])
      ∙ ap (λ l. block_values value (take at pieces) ++ l) (append-nil (values_of value (get_or pieces at p).block.value.rows.items))

  -- what is seen of the row at a position
  pub value_at : (pieces : List (Piece R b)) (n : ℕ) (row : R) → slice_get (block_rows pieces) n ≡ Some row → slice_get (block_values value pieces) n ≡ Some (value row)
  value_at pieces n row e = ap (λ l. slice_get l n) (sym (values_seen pieces)) ∙ slice_get-map value (block_rows pieces) n ∙ ap (option_map value) e

module _ {R : Type 0} {b : _} (pieces : List (Piece R b)) where
  -- one block more
  pub rows_next : (at : ℕ) (p : Piece R b) → at < length pieces → length (block_rows (take (at + 1) pieces)) ≡ length (block_rows (take at pieces)) + length (get_or pieces at p).block.value.rows.items
  rows_next at p h =
      let next : at + 1 ≡ suc at = omega arith in
      ap (λ n. length (block_rows (take n pieces))) next ∙ start-next (λ (p : Piece R b). rows_of p.block.value.rows.items) pieces at p h
      ∙ ap (λ n. length (block_rows (take at pieces)) + n) (length-map (get_or pieces at p).block.value.rows.items (λ a. a.value))

  pub rows_within : (at : ℕ) → length (block_rows (take at pieces)) ≤ length (block_rows pieces)
  rows_within at = start-within (λ (p : Piece R b). rows_of p.block.value.rows.items) pieces at

  pub rows_rise : (i j : ℕ) → i ≤ j → length (block_rows (take i pieces)) ≤ length (block_rows (take j pieces))
  rows_rise i j h = start-rises (λ (p : Piece R b). rows_of p.block.value.rows.items) pieces i j h

  -- a place in a block stands before the end of that block
  pub index_within : (at : Spot) (to : ℕ) → at.block < to → at.row ≤ size_at pieces at.block → index_of pieces at ≤ length (block_rows (take to pieces))
  index_within at to lt h = elim (either at.block (length pieces)) [
    | inl inside ↦ (
        let p = item_of pieces (omega arith) in
        omega (arith, rows_next at.block p inside, rows_rise (at.block + 1) to (omega arith), get_or-map (λ (q : Piece R b). length q.block.value.rows.items) pieces at.block p 0 inside)
        )
    | inr outside ↦ omega (arith, get_or_past (sizes pieces) at.block 0 (omega (arith, length-map pieces (λ (q : Piece R b). length q.block.value.rows.items))), rows_rise at.block to (omega arith))
  ]

  module _ (spot : Spot) (is : IsSpot pieces spot) where
    pub row_inside : (p : Piece R b) → spot.block < length pieces → spot.row < length (get_or pieces spot.block p).block.value.rows.items
    row_inside p h = omega (arith, is.row p h, length-map (get_or pieces spot.block p).block.value.rows.items (λ a. a.value))

    -- a spot in a block stands before the end of all rows
    pub index_inside : (p : Piece R b) → spot.block < length pieces → index_of pieces spot < length (block_rows pieces)
    index_inside p h = omega (arith, row_inside p h, rows_next spot.block p h, rows_within (spot.block + 1))

    -- and one behind all blocks at it
    pub index_end : length pieces ≤ spot.block → index_of pieces spot ≡ length (block_rows pieces)
    index_end h = omega (arith, is.end (omega (arith, is.within)), start-all (λ (p : Piece R b). rows_of p.block.value.rows.items) pieces spot.block h)

    -- the row at the spot
    pub row_there : (p : Piece R b) → spot.block < length pieces → (d : R) → get_or (block_rows pieces) (index_of pieces spot) d ≡ get_or (rows_of (get_or pieces spot.block p).block.value.rows.items) spot.row d
    row_there p h d = get_or-flat_map (λ (p : Piece R b). rows_of p.block.value.rows.items) pieces spot.block spot.row p d h (is.row p h)

    -- a spot before the end of all rows stands in a block
    pub spot_inside : index_of pieces spot < length (block_rows pieces) → spot.block < length pieces
    spot_inside early = elim (either spot.block (length pieces)) [
      | inl h ↦ h
      | inr h ↦ absurd (omega (arith, index_end h))
    ]

    pub index_bound : index_of pieces spot ≤ length (block_rows pieces)
    index_bound = elim (either spot.block (length pieces)) [
      | inl h ↦ (let p = item_of pieces (omega arith) in omega (arith, index_inside p h))
      | inr h ↦ omega (arith, index_end h)
    ]

    -- the rows before a spot that is not the first of its block
    pub index_next : 0 < spot.row → (spot.block < length pieces) × (index_of pieces spot ≤ length (block_rows (take (spot.block + 1) pieces)))
    index_next some = elim (either spot.block (length pieces)) [
      | inl h ↦ (let p = item_of pieces (omega arith) in (h, omega (arith, row_inside p h, rows_next spot.block p h)))
      | inr h ↦ absurd (omega (arith, is.end (omega (arith, is.within))))
    ]
