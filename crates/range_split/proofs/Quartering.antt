-- The points of a choice of up to four parts divide the rows of a box.
use Rattle.std.proofs.Common.{◌≡◌, ◌↔◌, ◌⊎◌, inl, inr, ℕ, ◌*◌, ◌<◌, ◌≤◌, Bool, true, false, not, cond, List, [], ◌∷◌, length, map, filter, Some, None, refl, sym, ap, ◌∙◌, subst, Ordering, Less, Equal, Greater, nat_cmp, arith}
use Rattle.std.specs.Prelude.{nat_le, nat_lt}
use Rattle.std.specs.List.Sorted.{IsStrictlySortedBy}
use Rattle.std.specs.Ordering.{ordering_then, ordering_reverse}
use Rattle.std.specs.Cmp.Lexicographic.{bytes_decides}
use Rattle.std.proofs.lemmas.Bool.{false≢true, ltb-true, leb-true, leb-false, le-leb, lt-leb, not-true}
use Rattle.std.proofs.lemmas.Cmp.{nat_cmp_total, nat_list_cmp_total}
use Rattle.std.proofs.lemmas.List.{length-map}
use Rattle.std.proofs.lemmas.List.Filters.{length-filter_both}
use Rattle.std.proofs.lemmas.List.Kept.{IsStrictlySortedBy-filter}
use Rattle.std.proofs.lemmas.Option.{same_Some}
use Rattle.willow_path.specs.Path.{path_cmp}
use Rattle.willow_path.proofs.PathOrder.{path_cmp_total}
use Rattle.willow_area.specs.Boxes.{Ranges}
use Rattle.willow_area.specs.Cuts.{is_below}
use Rattle.willow_area.specs.declared.cut.CutAt.{CutAt}
use Rattle.willow_area.specs.declared.cut.CutAt.TheVariants.{Subspace, Path, Time}
use Rattle.willow_entry.specs.Entry.{bytes_cmp, same_bytes}
use Rattle.willow_entry.specs.Row.{RowValue, inner_place_cmp}
use Rattle.willow_entry.proofs.Members.{Member, any_true, false_of_any}
use Rattle.willow_entry.proofs.Ranks.{bytes_tie, bytes_same}
use Rattle.block_store.specs.InBox.{is_in, rows_in}
use Rattle.range_split.specs.Points.{DimensionPoints, by_time, cuts_at}
use Rattle.range_split.specs.Choice.{subspaces_of}
use Rattle.range_split.specs.Sides.{is_row_below}
use Rattle.range_split.specs.Parts.{Divides}
use Rattle.range_split.specs.Quarters.{cuts_among, part_sizes, greatest, load, paths_of, timestamps_of, have_subspaces, subspace_points, path_points, time_points, base_points, even_points, even_choice}
use Rattle.range_split.specs.declared.choice.TheConstants.{ENTRIES_MAX}
use Rattle.range_split.proofs.Sorting.{StepUp, AreCuts, cuts_are, cuts_some}
use Rattle.range_split.proofs.Dividing.{IsDimension, HasParts, divided}

-- ---- the three dimensions

abbrev pub subspace_of : RowValue → List ℕ
subspace_of row = row.entry.subspace

abbrev pub path_of : RowValue → List (List ℕ)
path_of row = row.entry.path

abbrev pub time_of : RowValue → ℕ
time_of row = row.entry.timestamp

pub of_subspaces : IsDimension bytes_cmp (λ key. Subspace key) subspace_of
unfolding is_below
of_subspaces = record { order = nat_list_cmp_total; below = λ p row. refl; stands = λ p row e. e }

pub of_paths : IsDimension path_cmp (λ path. Path path) path_of
unfolding is_below
of_paths = record { order = path_cmp_total; below = λ p row. refl; stands = λ p row e. e }

pub of_times : IsDimension nat_cmp (λ time. Time time) time_of
unfolding is_below
of_times = record { order = nat_cmp_total; below = λ p row. refl; stands = λ p row e. e }

-- ---- one dimension

-- a value of some rows is that of one of them
valued : {A : Type 0} (value : RowValue → A) (rows : List RowValue) (z : A) → Member (map value rows) z → (row : RowValue) × Member rows row × (value row ≡ z)
valued value [] z m = absurd m
valued value (row ∷ rows) z (inl e) = (row, inl refl, e)
valued value (row ∷ rows) z (inr m) = let found = valued value rows z m in (found.0, inr found.1, found.2)

value_there : {A : Type 0} (value : RowValue → A) (rows : List RowValue) (row : RowValue) → Member rows row → Member (map value rows) (value row)
value_there value [] row m = absurd m
value_there value (r ∷ rows) row (inl e) = inl (ap value e)
value_there value (r ∷ rows) row (inr m) = inr (value_there value rows row m)

module _ {A : Type 0} (cmp : A → A → Ordering) (cut : A → CutAt) (value : RowValue → A) (d : IsDimension cmp cut value) (area : Ranges) (rows : List RowValue) where
  chosen : 0 < length (rows_in area rows) → AreCuts cmp d.order (map value (rows_in area rows)) (cuts_among cmp (map value (rows_in area rows)))
  chosen some = cuts_are cmp d.order (map value (rows_in area rows)) (omega (arith, some, length-map (rows_in area rows) value))

  has_parts : 0 < length (rows_in area rows) → HasParts area rows (map cut (cuts_among cmp (map value (rows_in area rows))))
  has_parts some =
      let held = rows_in area rows in
      let points = cuts_among cmp (map value held) in
      let c = chosen some in
      let low = valued value held c.low c.there in
      divided cmp cut value d area rows low.0 points low.1 (subst (λ v. StepUp cmp v points) (sym low.2) c.up) (λ z m. valued value held z (c.members z m))

  -- where there are points they divide the rows
  pub divides_by : 0 < length (rows_in area rows) → 1 ≤ length (cuts_among cmp (map value (rows_in area rows))) → Divides area rows (map cut (cuts_among cmp (map value (rows_in area rows))))
  divides_by some points =
      let at = cuts_among cmp (map value (rows_in area rows)) in
      let h = has_parts some in
      record {
        parts = h.parts;
        cut = h.cut;
        several = omega (arith, h.number, points, length-map at cut);
        few = omega (arith, h.number, (chosen some).few, length-map at cut);
        own = h.own;
        one = h.one;
      }

-- ---- loads

greatest_within : (ats : List CutAt) (rows : List RowValue) → greatest (part_sizes ats rows) ≤ length rows
unfolding part_sizes
greatest_within [] rows = omega arith
greatest_within (at ∷ ats) rows =
    omega (arith, greatest_within ats (filter (λ row. not (is_row_below at row)) rows), length-filter_both (is_row_below at) (λ row. not (is_row_below at row)) (λ row. refl) rows)

load_of_none : (rows : List RowValue) (times : List ℕ) → length times ≡ 0 → load (by_time times) rows ≡ length rows
unfolding part_sizes
load_of_none rows [] e = omega arith
load_of_none rows (t ∷ ts) e = absurd (omega arith)

-- ---- there are points

-- where the points of time are taken there are some
pub some_times : (rows : List RowValue) → 2 * load (time_points rows) rows < load (base_points rows) rows → 1 ≤ length (cuts_among nat_cmp (timestamps_of rows))
some_times rows h = by_length (cuts_among nat_cmp (timestamps_of rows)) refl
  where
    by_length : (times : List ℕ) → cuts_among nat_cmp (timestamps_of rows) ≡ times → 1 ≤ length times
    by_length [] e =
        absurd (omega (arith, h, load_of_none rows (cuts_among nat_cmp (timestamps_of rows)) (ap length e), greatest_within (cuts_at (base_points rows)) rows))
    by_length (t ∷ ts) e = omega arith

-- a test that is not false holds
pub holds : (b : Bool) → not b ≡ false → b ≡ true
holds true h = refl
holds false h = absurd cc

pub path_less : (first next : RowValue) → not (same_bytes next.entry.subspace first.entry.subspace) ≡ false → inner_place_cmp first next ≡ Less → path_cmp first.entry.path next.entry.path ≡ Less
path_less first next h k =
    let same = (bytes_decides next.entry.subspace first.entry.subspace).0 (holds (same_bytes next.entry.subspace first.entry.subspace) h) in
    ap (λ o. ordering_then o (path_cmp first.entry.path next.entry.path)) (sym (bytes_same first.entry.subspace next.entry.subspace (sym same))) ∙ k

different : (x y : List ℕ) → same_bytes x y ≡ false → (bytes_cmp x y ≡ Less) ⊎ (bytes_cmp y x ≡ Less)
different x y h = by_order (bytes_cmp x y) refl
  where
    by_order : (o : Ordering) → bytes_cmp x y ≡ o → (bytes_cmp x y ≡ Less) ⊎ (bytes_cmp y x ≡ Less)
    by_order Less e = inl e
    by_order Equal e = absurd (false≢true (sym h ∙ (bytes_decides x y).1 (bytes_tie x y e)))
    by_order Greater e = inr (nat_list_cmp_total.antisymm y x ∙ ap ordering_reverse e)

pub some_subspaces : (rows : List RowValue) → have_subspaces rows ≡ true → 1 ≤ length (cuts_among bytes_cmp (subspaces_of rows))
some_subspaces [] h = absurd cc
some_subspaces (first ∷ rows) h =
    let found = any_true (λ row. not (same_bytes row.entry.subspace first.entry.subspace)) rows h in
    let all = subspaces_of (first ∷ rows) in
    let one : Member all first.entry.subspace = inl refl in
    let other : Member all found.0.entry.subspace = inr (value_there subspace_of rows found.0 found.1) in
    by_order all first.entry.subspace found.0.entry.subspace one other (different found.0.entry.subspace first.entry.subspace (not-true (same_bytes found.0.entry.subspace first.entry.subspace) found.2))
  where
    by_order : (all : List (List ℕ)) (x y : List ℕ) → Member all x → Member all y → (bytes_cmp y x ≡ Less) ⊎ (bytes_cmp x y ≡ Less) → 1 ≤ length (cuts_among bytes_cmp all)
    by_order all x y m k (inl e) = cuts_some bytes_cmp nat_list_cmp_total all y x k m e
    by_order all x y m k (inr e) = cuts_some bytes_cmp nat_list_cmp_total all x y m k e

some_paths : (rows : List RowValue) → have_subspaces rows ≡ false → IsStrictlySortedBy inner_place_cmp rows → 2 ≤ length rows → 1 ≤ length (cuts_among path_cmp (paths_of rows))
unfolding IsStrictlySortedBy
some_paths [] h rise two = absurd (omega arith)
some_paths (first ∷ []) h rise two = absurd (omega arith)
some_paths (first ∷ next ∷ rows) h rise two =
    let same = false_of_any (λ row. not (same_bytes row.entry.subspace first.entry.subspace)) (next ∷ rows) h next (inl refl) in
    cuts_some path_cmp path_cmp_total (paths_of (first ∷ next ∷ rows)) first.entry.path next.entry.path (inl refl) (inr (inl refl)) (path_less first next same rise.0.0)

-- ---- the choice

pub even_divides : (rows : List RowValue) → IsStrictlySortedBy inner_place_cmp rows → (area : Ranges) (points : DimensionPoints) → even_choice (rows_in area rows) ≡ Some points → Divides area rows (cuts_at points)
unfolding even_choice even_points
even_divides rows rise area points h = by_number (nat_le (length held) ENTRIES_MAX) refl h
  where
    held : List RowValue
    held = rows_in area rows

    rises : IsStrictlySortedBy inner_place_cmp held
    rises = IsStrictlySortedBy-filter inner_place_cmp (is_in area) rows rise

    timely : ENTRIES_MAX < length held → 2 * load (time_points held) held < load (base_points held) held → Divides area rows (cuts_at (time_points held))
    timely many less = divides_by nat_cmp (λ time. Time time) time_of of_times area rows (omega (arith, many)) (some_times held less)

    based : ENTRIES_MAX < length held → (b : Bool) → have_subspaces held ≡ b → Divides area rows (cuts_at (cond b (subspace_points held) (path_points held)))
    based many true e = divides_by bytes_cmp (λ key. Subspace key) subspace_of of_subspaces area rows (omega (arith, many)) (some_subspaces held e)
    based many false e = divides_by path_cmp (λ path. Path path) path_of of_paths area rows (omega (arith, many)) (some_paths held e rises (omega (arith, many)))

    by_load : ENTRIES_MAX < length held → (b : Bool) → nat_lt (2 * load (time_points held) held) (load (base_points held) held) ≡ b → Divides area rows (cuts_at (cond b (time_points held) (base_points held)))
    by_load many true e = timely many (ltb-true (2 * load (time_points held) held) (load (base_points held) held) e)
    by_load many false e = based many (have_subspaces held) refl

    by_number : (b : Bool) → nat_le (length held) ENTRIES_MAX ≡ b → cond b None (Some (even_points held)) ≡ Some points → Divides area rows (cuts_at points)
    by_number true e k = absurd cc
    by_number false e k =
        subst (λ p. Divides area rows (cuts_at p)) (same_Some (even_points held) points k)
        (by_load (leb-false (length held) ENTRIES_MAX e) (nat_lt (2 * load (time_points held) held) (load (base_points held) held)) refl)

pub even_few : (rows : List RowValue) → length rows ≤ ENTRIES_MAX → even_choice rows ≡ None
unfolding even_choice
even_few rows few = ap (λ b. cond b None (Some (even_points rows))) (le-leb (length rows) ENTRIES_MAX few)

pub even_many : (rows : List RowValue) → ENTRIES_MAX < length rows → even_choice rows ≡ Some (even_points rows)
unfolding even_choice
even_many rows many = ap (λ b. cond b None (Some (even_points rows))) (lt-leb (length rows) ENTRIES_MAX many)

-- a cut is chosen exactly of many rows
pub even_none : (rows : List RowValue) → (even_choice rows ≡ None) ↔ (length rows ≤ ENTRIES_MAX)
even_none rows = (by_number (nat_le (length rows) ENTRIES_MAX) refl, even_few rows)
  where
    by_number : (b : Bool) → nat_le (length rows) ENTRIES_MAX ≡ b → even_choice rows ≡ None → length rows ≤ ENTRIES_MAX
    by_number true e none = leb-true (length rows) ENTRIES_MAX e
    by_number false e none =
        let some : Some (even_points rows) ≡ None = sym (even_many rows (leb-false (length rows) ENTRIES_MAX e)) ∙ none in
        absurd cc
