-- The choice for few rows and for many, and that an answer is one.
use Rattle.std.proofs.Common.{◌≡◌, ◌↔◌, ℕ, ◌/◌, ◌<◌, ◌≤◌, Bool, true, false, cond, List, [], ◌∷◌, length, get_or, slice_get, Option, Some, None, nat_le, is_gt, refl, sym, ap, ap₂, ◌∙◌, arith}
use Rattle.std.specs.Option.{option_map_or}
use Rattle.std.specs.Prelude.{IsSomeAnd}
use Rattle.std.proofs.lemmas.Bool.{le-leb, lt-leb, leb-true, leb-false}
use Rattle.std.proofs.lemmas.Option.{same_Some, get_or_from_slice_get}
use Rattle.willow_area.specs.Boxes.{Ranges}
use Rattle.willow_entry.specs.Entry.{bytes_cmp}
use Rattle.willow_entry.specs.Row.{RowValue}
use Rattle.block_store.specs.InBox.{rows_in}
use Rattle.range_split.specs.Points.{DimensionPoints, by_subspace, by_path}
use Rattle.range_split.specs.Least.{least_above}
use Rattle.range_split.specs.Choice.{choice, points_of, subspaces_of, Chooses}
use Rattle.range_split.specs.declared.choice.Choice.{Choice}
use Rattle.range_split.specs.declared.choice.Choice.TheVariants.{Entries, AtSubspace, AtPathOf}
use Rattle.range_split.specs.declared.choice.TheConstants.{ENTRIES_MAX}

-- ---- few rows and many

pub choice_few : (rows : List RowValue) → length rows ≤ ENTRIES_MAX → choice rows ≡ None
unfolding choice
choice_few [] few = refl
choice_few (first ∷ rest) few = ap (λ t. cond t None (Some (points_of first (get_or (first ∷ rest) (length (first ∷ rest) / 2) first) (first ∷ rest)))) (le-leb (length (first ∷ rest)) ENTRIES_MAX few)

-- what many rows are
pub record AreMany (rows : List RowValue) (points : DimensionPoints) : Type 0 where
  pub first : RowValue
  pub rest : List RowValue
  pub all : rows ≡ first ∷ rest
  pub many : ENTRIES_MAX < length rows
  pub parted : points_of first (get_or rows (length rows / 2) first) rows ≡ points

pub are_many : (rows : List RowValue) (points : DimensionPoints) → choice rows ≡ Some points → AreMany rows points
unfolding choice
are_many [] points h = absurd cc
are_many (first ∷ rest) points h = by_number (nat_le (length (first ∷ rest)) ENTRIES_MAX) refl h
  where
    here : DimensionPoints
    here = points_of first (get_or (first ∷ rest) (length (first ∷ rest) / 2) first) (first ∷ rest)

    by_number : (few : Bool) → nat_le (length (first ∷ rest)) ENTRIES_MAX ≡ few → cond few None (Some here) ≡ Some points → AreMany (first ∷ rest) points
    by_number true e h = absurd cc
    by_number false e h = record {
      first = first;
      rest = rest;
      all = refl;
      many = leb-false (length (first ∷ rest)) ENTRIES_MAX e;
      parted = same_Some here points h;
    }

few : (rows : List RowValue) → choice rows ≡ None → length rows ≤ ENTRIES_MAX
unfolding choice
few [] h = omega arith
few (first ∷ rest) h = by_number (nat_le (length (first ∷ rest)) ENTRIES_MAX) refl h
  where
    here : DimensionPoints
    here = points_of first (get_or (first ∷ rest) (length (first ∷ rest) / 2) first) (first ∷ rest)

    by_number : (test : Bool) → nat_le (length (first ∷ rest)) ENTRIES_MAX ≡ test → cond test None (Some here) ≡ None → length (first ∷ rest) ≤ ENTRIES_MAX
    by_number true e h = leb-true (length (first ∷ rest)) ENTRIES_MAX e
    by_number false e h = absurd cc

pub choice_none : (rows : List RowValue) → (choice rows ≡ None) ↔ (length rows ≤ ENTRIES_MAX)
choice_none rows = (few rows, choice_few rows)

-- of many rows these are the first and the middle one
pub record HasMiddle (rows : List RowValue) (first middle : RowValue) : Type 0 where
  pub many : ENTRIES_MAX < length rows
  pub is_first : slice_get rows 0 ≡ Some first
  pub is_middle : slice_get rows (length rows / 2) ≡ Some middle

choice-many : (rows : List RowValue) (first middle : RowValue) → HasMiddle rows first middle → choice rows ≡ Some (points_of first middle rows)
unfolding choice
choice-many [] first middle h = absurd (omega (arith, h.many))
choice-many (x ∷ rest) first middle h =
    let rows = x ∷ rest in
    let half = length rows / 2 in
    ap (λ t. cond t None (Some (points_of x (get_or rows half x) rows))) (lt-leb (length rows) ENTRIES_MAX h.many)
    ∙ ap₂ (λ one other. Some (points_of one other rows)) (same_Some x first h.is_first) (get_or_from_slice_get rows half middle x h.is_middle)

module _ (rows : List RowValue) (first middle : RowValue) (h : HasMiddle rows first middle) where
  pub choice-middle : is_gt (bytes_cmp middle.entry.subspace first.entry.subspace) ≡ true → choice rows ≡ Some (by_subspace (middle.entry.subspace ∷ []))
  choice-middle above =
      choice-many rows first middle h
      ∙ ap (λ t. Some (cond t (by_subspace (middle.entry.subspace ∷ [])) (option_map_or (λ key. by_subspace (key ∷ [])) (least_above first.entry.subspace (subspaces_of rows)) (by_path (middle.entry.path ∷ []))))) above

  -- the middle row's subspace is not above the first one's
  lower_middle : is_gt (bytes_cmp middle.entry.subspace first.entry.subspace) ≡ false → (found : Option (List ℕ)) → found ≡ least_above first.entry.subspace (subspaces_of rows)
      → choice rows ≡ Some (option_map_or (λ key. by_subspace (key ∷ [])) found (by_path (middle.entry.path ∷ [])))
  lower_middle above found e =
      choice-many rows first middle h
      ∙ ap₂ (λ t o. Some (cond t (by_subspace (middle.entry.subspace ∷ [])) (option_map_or (λ key. by_subspace (key ∷ [])) o (by_path (middle.entry.path ∷ []))))) above (sym e)

  pub choice-least : is_gt (bytes_cmp middle.entry.subspace first.entry.subspace) ≡ false → (key : List ℕ) → Some key ≡ least_above first.entry.subspace (subspaces_of rows) → choice rows ≡ Some (by_subspace (key ∷ []))
  choice-least above key e = lower_middle above (Some key) e

  pub choice-path : is_gt (bytes_cmp middle.entry.subspace first.entry.subspace) ≡ false → None ≡ least_above first.entry.subspace (subspaces_of rows) → choice rows ≡ Some (by_path (middle.entry.path ∷ []))
  choice-path above e = lower_middle above None e

-- ---- one answer

-- a cut at a path is one
cut_at_path : (chosen : Option DimensionPoints) (row : Option RowValue) → IsSomeAnd row (λ row. chosen ≡ Some (by_path (row.entry.path ∷ []))) → (path : List (List ℕ)) × (chosen ≡ Some (by_path (path ∷ [])))
cut_at_path chosen (Some row) h = (row.entry.path, h)
cut_at_path chosen None h = absurd h

pub one_answer : (area : Ranges) (rows : List RowValue) (one other : Choice) → Chooses area rows one → Chooses area rows other → one ≡ other
one_answer area rows Entries Entries h k = refl
one_answer area rows Entries (AtSubspace key) h k = absurd cc
one_answer area rows Entries (AtPathOf at) h k = let cut = cut_at_path (choice (rows_in area rows)) (slice_get rows at) k.cut in absurd cc
one_answer area rows (AtSubspace key) Entries h k = absurd cc
one_answer area rows (AtSubspace key) (AtSubspace same) h k = cc
one_answer area rows (AtSubspace key) (AtPathOf at) h k = let cut = cut_at_path (choice (rows_in area rows)) (slice_get rows at) k.cut in absurd cc
one_answer area rows (AtPathOf at) Entries h k = let cut = cut_at_path (choice (rows_in area rows)) (slice_get rows at) h.cut in absurd cc
one_answer area rows (AtPathOf at) (AtSubspace key) h k = let cut = cut_at_path (choice (rows_in area rows)) (slice_get rows at) h.cut in absurd cc
one_answer area rows (AtPathOf at) (AtPathOf same) h k = ap (λ n. AtPathOf n) (same_Some at same (sym h.middle ∙ k.middle))
