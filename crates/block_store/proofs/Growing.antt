-- Blocks that are put together anew stay packed.
use Rattle.std.proofs.Common.{◌≡◌, ℕ, zero, suc, min, ◌+◌, ◌-◌, ◌≤◌, ◌<◌, List, [], ◌∷◌, ◌++◌, length, map, get_or, set, take, drop, sym, ap, ap₂, ◌∙◌, subst, arith}
use Rattle.std.proofs.lemmas.List.{length-map, map-append, map-set, get_or-map}
use Rattle.std.specs.List.{take-map, drop-map}
use Rattle.block_store.specs.Blocks.{sizes, size_at}
use Rattle.block_store.specs.Packing.{ArePacked, IsPacked, IsGrown, first_size, last_size}
use Rattle.block_store.specs.declared.block.Piece.{Piece}
use Rattle.block_store.proofs.Packs.{last_joined, packed_one, packed_larger, packed_pushed, packed_set, packed_between}

module _ {R : Type 0} {b : _} where
  abbrev pub size : Piece R b → ℕ
  size p = length p.block.value.rows.items

  pub grown_same : (pieces : List (Piece R b)) → IsGrown pieces pieces
  grown_same pieces = record { packed = λ p. p; first = omega arith }

  pub grown_on : (old now new : List (Piece R b)) → IsGrown old now → IsGrown now new → IsGrown old new
  grown_on old now new g h = record { packed = λ p. h.packed (g.packed p); first = omega (arith, g.first, h.first) }

  -- a block that has no fewer rows than the one in whose place it stands
  pub packed_changed : (pieces : List (Piece R b)) (i : ℕ) (p d : Piece R b) → i < length pieces → size (get_or pieces i d) ≤ size p → IsPacked pieces → IsPacked (set pieces i p)
  packed_changed pieces i p d inside h packed =
      subst ArePacked (sym (map-set size pieces i p))
      (packed_set (sizes pieces) i (size p) (omega (arith, length-map pieces size)) (omega (arith, get_or-map size pieces i d 0 inside)) packed)

  -- the first block of a list
  pub grown_first : (p : Piece R b) → IsGrown [] (p ∷ [])
  grown_first p = record { packed = λ e. packed_one (size p); first = omega arith }

  -- the last block is joined with one more
  pub grown_joined : (front : List (Piece R b)) (p q : Piece R b) → size p ≤ size q → IsGrown (front ++ p ∷ []) (front ++ q ∷ [])
  grown_joined front p q h = record {
    packed = λ packed. subst ArePacked (sym (map-append size front (q ∷ [])))
        (packed_larger (map size front) (size p) (size q) h (subst ArePacked (map-append size front (p ∷ [])) packed));
    first = first front;
  } where
    first : (front : List (Piece R b)) → first_size (front ++ p ∷ []) ≤ first_size (front ++ q ∷ [])
    first [] = h
    first (x ∷ front) = omega arith

  -- or one more is put behind it
  pub grown_pushed : (front : List (Piece R b)) (p q : Piece R b) → 64 < size p + size q → IsGrown (front ++ p ∷ []) ((front ++ p ∷ []) ++ q ∷ [])
  grown_pushed front p q h = record {
    packed = λ packed. subst ArePacked (sym (map-append size (front ++ p ∷ []) (q ∷ []) ∙ ap (λ l. l ++ size q ∷ []) (map-append size front (p ∷ []))))
        (packed_pushed (map size front) (size p) (size q) h (subst ArePacked (map-append size front (p ∷ [])) packed));
    first = first front;
  } where
    first : (front : List (Piece R b)) → first_size (front ++ p ∷ []) ≤ first_size ((front ++ p ∷ []) ++ q ∷ [])
    first [] = omega arith
    first (x ∷ front) = omega arith

  pub last_pushed : (front : List (Piece R b)) (p : Piece R b) → last_size (front ++ p ∷ []) ≡ size p
  last_pushed front p = ap (λ l. get_or l (length l - 1) 0) (map-append size front (p ∷ [])) ∙ last_joined (map size front) (size p ∷ []) (omega arith)

  -- blocks from the one before a place up to the one at a later place are replaced
  pub packed_replaced : (pieces fresh : List (Piece R b)) (block to from upto : ℕ) → from ≡ block - 1 → upto ≡ min (to + 1) (length pieces) → block < to → to ≤ length pieces → IsPacked pieces → IsPacked fresh
      → (0 < block → size_at pieces (block - 1) ≤ first_size fresh) → (to < length pieces → size_at pieces to ≤ last_size fresh) → IsPacked (take from pieces ++ (fresh ++ drop upto pieces))
  packed_replaced pieces fresh block to from upto from_is upto_is lt within packed made front back =
      let long : length (sizes pieces) ≡ length pieces = length-map pieces size in
      let parts : take from (sizes pieces) ++ (sizes fresh ++ drop upto (sizes pieces)) ≡ sizes (take from pieces ++ (fresh ++ drop upto pieces)) =
      sym (map-append size (take from pieces) (fresh ++ drop upto pieces)
      ∙ ap₂ (λ l m. l ++ m) (sym (take-map size from pieces)) (map-append size fresh (drop upto pieces) ∙ ap (λ l. sizes fresh ++ l) (sym (drop-map size upto pieces)))) in
      subst ArePacked parts
      (packed_between (sizes pieces) (sizes fresh) from upto (omega arith) (omega arith) (positive pieces) packed made
      (λ some. subst (λ k. get_or (sizes pieces) k 0 ≤ first_size fresh) (sym from_is) (front (omega arith)))
      (λ more. let at : to ≡ upto - 1 = omega arith in subst (λ k. get_or (sizes pieces) k 0 ≤ last_size fresh) at (back (omega arith))))
    where
      positive : (pieces : List (Piece R b)) (k : ℕ) → k < length (sizes pieces) → 0 < get_or (sizes pieces) k 0
      positive [] k h = absurd (omega arith)
      positive (p ∷ ps) zero h = omega (arith, p.block.value.sized.0, p.block.value.rows.ok.0)
      positive (p ∷ ps) (suc k) h = positive ps k (omega arith)
