-- Spots among blocks, and where blocks start.
use Rattle.std.proofs.Common.{◌≡◌, inl, inr, ℕ, ◌+◌, ◌-◌, ◌≤◌, ◌<◌, true, false, List, [], ◌∷◌, length, take, get_or, nat_le, slice_get, Option, Some, None, MatchOption, refl, ap, ◌∙◌, arith, leb-true, le-leb}
use Rattle.std.specs.List.Sorted.{IsPartitionedBy, IsPartitionPoint}
use Rattle.std.proofs.lemmas.Bool.{cases_eq, both_ways}
use Rattle.std.proofs.lemmas.List.{length-append, length-map, take-take, take_all, get_or_default}
use Rattle.block_store.specs.Blocks.{block_rows, index_of, IsSpot}
use Rattle.block_store.specs.Held.{rows_of}
use Rattle.block_store.specs.Starts.{AreStarts}
use Rattle.block_store.specs.declared.block.Piece.{Piece}
use Rattle.block_store.specs.declared.looking.spot.Spot.{Spot}
use Rattle.block_store.proofs.Spans.{piece_more, front_short, get_piece, get_is}

pub piece_some : {R : Type 0} {b : _} (p : Piece R b) → 0 < length (rows_of p.block.value.rows.items)
piece_some p = omega (arith, length-map p.block.value.rows.items (λ a. a.value), p.block.value.sized.0, p.block.value.rows.ok.0)

pub piece_few : {R : Type 0} {b : _} (p : Piece R b) → length (rows_of p.block.value.rows.items) ≤ 64
piece_few p = omega (arith, length-map p.block.value.rows.items (λ a. a.value), p.block.value.sized.1, p.block.value.rows.ok.0)

pub starts_rise : {R : Type 0} {b : _} (pieces : List (Piece R b)) (i j : ℕ) → i ≤ j → length (block_rows (take i pieces)) ≤ length (block_rows (take j pieces))
starts_rise pieces i j h =
    omega (arith, front_short (λ p. rows_of p.block.value.rows.items) (take j pieces) i, ap (λ l. length (block_rows l)) (take-take i j pieces h))

pub next_start : {R : Type 0} {b : _} (pieces : List (Piece R b)) (i : ℕ) (d : Piece R b) → i < length pieces → length (block_rows (take (i + 1) pieces)) ≡ length (block_rows (take i pieces)) + length (rows_of (get_or pieces i d).block.value.rows.items)
next_start pieces i d h =
    ap length (piece_more (λ p. rows_of p.block.value.rows.items) pieces i d h) ∙ length-append (block_rows (take i pieces)) (rows_of (get_or pieces i d).block.value.rows.items)

-- a spot in a block stands before the next block starts
pub spot_inside : {R : Type 0} {b : _} (pieces : List (Piece R b)) (spot : Spot) → IsSpot pieces spot → spot.block < length pieces → index_of pieces spot < length (block_rows (take (spot.block + 1) pieces))
spot_inside [] spot is h = absurd (omega arith)
spot_inside (p ∷ pieces) spot is h = omega (arith, is.row p h, next_start (p ∷ pieces) spot.block p h)

pub spot_within : {R : Type 0} {b : _} (pieces : List (Piece R b)) (spot : Spot) → IsSpot pieces spot → index_of pieces spot ≤ length (block_rows pieces)
spot_within pieces spot is = elim (cases_eq spot.block (length pieces)) [
  | inl e ↦ omega (arith, is.end e, ap (λ l. length (block_rows l)) (take_all spot.block pieces (omega arith)))
  | inr ne ↦ omega (arith, is.within, spot_inside pieces spot is (omega (arith, is.within, ne)), front_short (λ p. rows_of p.block.value.rows.items) pieces (spot.block + 1))
]

-- what is read where blocks start
pub start_read : {R : Type 0} {b : _} (starts : List ℕ) (pieces : List (Piece R b)) (i x d : ℕ) → AreStarts starts pieces → i ≤ length pieces → x ≡ get_or starts i d → x ≡ length (block_rows (take i pieces))
start_read starts pieces i x d are h e = e ∙ get_or_default starts i d 0 (omega (arith, are.count)) ∙ are.each i h

pub starts_partitioned : {R : Type 0} {b : _} (starts : List ℕ) (pieces : List (Piece R b)) (at : ℕ) → AreStarts starts pieces → IsPartitionedBy (λ start. nat_le start at) starts
starts_partitioned starts pieces at are i j d le lt e =
    let low = start_read starts pieces i (get_or starts i d) d are (omega (arith, are.count)) refl in
    let high = start_read starts pieces j (get_or starts j d) d are (omega (arith, are.count)) refl in
    le-leb (get_or starts i d) at (omega (arith, starts_rise pieces i j le, low, high, leb-true (get_or starts j d) at e))

module _ {R : Type 0} {b : _} (starts : List ℕ) (pieces : List (Piece R b)) (at k : ℕ) (are : AreStarts starts pieces) (point : IsPartitionPoint (λ start. nat_le start at ≡ true) (λ start. nat_le start at ≡ false) starts k) where
  pub point_some : 1 ≤ k
  point_some = elim (cases_eq k 0) [
    | inl e ↦ absurd (both_ways (nat_le (get_or starts 0 0) at) (point.1 0 0 (omega arith) (omega (arith, are.count))) (le-leb (get_or starts 0 0) at (omega (arith, are.each 0 (omega arith)))))
    | inr ne ↦ omega arith
  ]

  pub point_from : k ≤ length starts → length (block_rows (take (k - 1) pieces)) ≤ at
  point_from h =
      let some = point_some in
      omega (arith, leb-true (get_or starts (k - 1) 0) at (point.0 (k - 1) 0 (omega arith) (omega arith)), are.each (k - 1) (omega (arith, are.count)))

  pub point_below : k - 1 < length pieces → at < length (block_rows (take (k - 1 + 1) pieces))
  point_below h =
      let some = point_some in
      let next : k - 1 + 1 ≡ k = omega arith in
      let above : at < get_or starts k 0 = not_at_most (get_or starts k 0) at (point.1 k 0 (omega arith) (omega (arith, are.count))) in
      omega (arith, above, are.each k (omega arith), ap (λ n. length (block_rows (take n pieces))) next)
    where
      not_at_most : (m n : ℕ) → nat_le m n ≡ false → n < m
      not_at_most m n e = grind arith

-- what is found in a block at a place is the row behind those of the blocks before
pub row_there : {R B : Type 0} {b : _} (view : B → R) (pieces : List (Piece R b)) (i start at : ℕ) (p : Piece R b) → i < length pieces → p ≡ get_or pieces i p → start ≡ length (block_rows (take i pieces)) → start ≤ at → at < length (block_rows (take (i + 1) pieces))
    → (found : Option B) → MatchOption found (length p.block.value.rows.items ≤ at - start) (λ row. slice_get (rows_of p.block.value.rows.items) (at - start) ≡ Some (view row)) → MatchOption found (length (block_rows pieces) ≤ at) (λ row. slice_get (block_rows pieces) at ≡ Some (view row))
row_there view pieces i start at p h is e from below None m =
    let here = ap (λ q. length (rows_of q.block.value.rows.items)) is in
    absurd (omega (arith, m, here, e, next_start pieces i p h, length-map p.block.value.rows.items (λ a. a.value)))
row_there view pieces i start at p h is e from below (Some row) m =
    let here = ap (λ q. length (rows_of q.block.value.rows.items)) is in
    let sum : at ≡ length (block_rows (take i pieces)) + (at - start) = omega (arith, e) in
    ap (slice_get (block_rows pieces)) sum
    ∙ get_piece (λ q. rows_of q.block.value.rows.items) pieces i (at - start) p (get_is pieces i p h is) (omega (arith, here, e, next_start pieces i p h)) ∙ m
