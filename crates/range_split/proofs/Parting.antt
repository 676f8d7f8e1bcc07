-- The points at which rising rows are cut are between rows, and a cut there leaves rows on both sides.
use Rattle.std.proofs.Common.{◌≡◌, inl, inr, ℕ, zero, suc, ◌/◌, ◌<◌, Bool, true, false, not, cond, List, [], ◌∷◌, length, filter, get_or, slice_get, Option, Some, None, refl, sym, ap, ◌∙◌, subst, Ordering, Less, Equal, Greater, is_lt, is_gt, nat_cmp, arith}
use Rattle.std.specs.Prelude.{All, Any, Contains, IfSome, IsTrue}
use Rattle.std.specs.Cmp.{IsTotalOrder}
use Rattle.std.specs.Ordering.{ordering_then, ordering_reverse, is_le}
use Rattle.std.specs.Option.{option_map_or}
use Rattle.std.specs.List.{AllByRecursion}
use Rattle.std.specs.List.Sorted.{IsStrictlySortedBy}
use Rattle.std.proofs.lemmas.Bool.{not_from_false}
use Rattle.std.proofs.lemmas.Cmp.{nat_cmp_total, nat_list_cmp_total, tied_itself}
use Rattle.std.proofs.lemmas.List.Elements.{All-nil, All-cons, All-weaker, All-get_or, All-from_recursion, Contains-get_or}
use Rattle.std.proofs.lemmas.List.Kept.{IsStrictlySortedBy-filter}
use Rattle.std.proofs.lemmas.Option.{slice_get_within, get_or_from_slice_get}
use Rattle.willow_path.specs.Path.{part_cmp, path_cmp}
use Rattle.willow_path.proofs.PathOrder.{part_cmp_total, path_cmp_total}
use Rattle.willow_area.specs.Range.{Range, in_range, is_before_end, is_inside}
use Rattle.willow_area.specs.Boxes.{Ranges}
use Rattle.willow_area.specs.Cuts.{can_cut, lower_part, upper_part, is_below}
use Rattle.willow_area.specs.declared.cut.CutAt.{CutAt}
use Rattle.willow_area.specs.declared.cut.CutAt.TheVariants.{Subspace, Path, Time}
use Rattle.willow_area.proofs.Membership.{both_of, and_of}
use Rattle.willow_area.proofs.Cutting.{passes_box}
use Rattle.willow_area.proofs.Orders.{lt_then_lt}
use Rattle.willow_entry.specs.Entry.{bytes_cmp}
use Rattle.willow_entry.specs.Row.{RowValue, inner_place_cmp}
use Rattle.willow_entry.proofs.Members.{Member, contains_from_member, member_from_contains, member_filter, filter_member}
use Rattle.willow_entry.proofs.Ranks.{greater_from_test}
use Rattle.block_store.specs.InBox.{is_in, rows_in}
use Rattle.range_split.specs.Points.{DimensionPoints, by_subspace, by_path, cuts_at}
use Rattle.range_split.specs.Least.{least_above}
use Rattle.range_split.specs.Choice.{choice, subspaces_of}
use Rattle.range_split.specs.Sides.{StandsAt, is_row_below, AreRising, PartRows, LeavesRows}
use Rattle.range_split.proofs.LeastKeys.{least_above_is}
use Rattle.range_split.proofs.Shares.{lower_rows, upper_rows}
use Rattle.range_split.proofs.Choosing.{are_many}

-- ---- a point between rows

-- the first row is below the point, and a row stands at it
record IsBetween (rows : List RowValue) (at : CutAt) : Type 0 where
  first : RowValue
  is_first : slice_get rows 0 ≡ Some first
  below : is_row_below at first ≡ true
  row : RowValue
  there : Contains rows row
  stands : StandsAt at row

stands_not_below : (at : CutAt) (row : RowValue) → StandsAt at row → is_row_below at row ≡ false
unfolding is_below
stands_not_below (Subspace key) row same = ap (λ k. is_lt (part_cmp k key)) same ∙ ap is_lt (tied_itself part_cmp_total key)
stands_not_below (Path path) row same = ap (λ p. is_lt (path_cmp p path)) same ∙ ap is_lt (tied_itself path_cmp_total path)
stands_not_below (Time time) row same = ap (λ t. is_lt (nat_cmp t time)) same ∙ ap is_lt (tied_itself nat_cmp_total time)

module _ {A : Type 0} (cmp : A → A → Ordering) (order : IsTotalOrder cmp) where
  le_then_lt : (x y z : A) → is_le (cmp x y) ≡ true → is_lt (cmp y z) ≡ true → is_lt (cmp x z) ≡ true
  le_then_lt x y z h k = by_order (cmp x y) refl h
    where
      by_order : (o : Ordering) → cmp x y ≡ o → is_le o ≡ true → is_lt (cmp x z) ≡ true
      by_order Less e h = lt_then_lt cmp order x y z (ap is_lt e) k
      by_order Equal e h = ap is_lt (order.congr x y z e) ∙ k
      by_order Greater e h = absurd cc

  -- a point at a value of the range that is above another is inside
  inside : (range : Range A) (low point : A) → in_range cmp range low ≡ true → is_lt (cmp low point) ≡ true → in_range cmp range point ≡ true → is_inside cmp range point ≡ true
  inside range low point h k l =
      and_of (is_lt (cmp range.start point)) (is_before_end cmp point range.end)
      (le_then_lt range.start low point (both_of (is_le (cmp range.start low)) (is_before_end cmp low range.end) h).0 k)
      (both_of (is_le (cmp range.start point)) (is_before_end cmp point range.end) l).1

pub can_cut_between : (area : Ranges) (at : CutAt) (first row : RowValue) → is_in area first ≡ true → is_row_below at first ≡ true → is_in area row ≡ true → StandsAt at row → can_cut area at ≡ true
unfolding can_cut is_below
can_cut_between area (Subspace key) first row h below k same =
    let p = passes_box area first.entry.subspace first.entry.path first.entry.timestamp h in
    let q = passes_box area row.entry.subspace row.entry.path row.entry.timestamp k in
    inside part_cmp part_cmp_total area.keys first.entry.subspace key p.key_in below (ap (in_range part_cmp area.keys) (sym same) ∙ q.key_in)
can_cut_between area (Path path) first row h below k same =
    let p = passes_box area first.entry.subspace first.entry.path first.entry.timestamp h in
    let q = passes_box area row.entry.subspace row.entry.path row.entry.timestamp k in
    inside path_cmp path_cmp_total area.paths first.entry.path path p.path_in below (ap (in_range path_cmp area.paths) (sym same) ∙ q.path_in)
can_cut_between area (Time time) first row h below k same =
    let p = passes_box area first.entry.subspace first.entry.path first.entry.timestamp h in
    let q = passes_box area row.entry.subspace row.entry.path row.entry.timestamp k in
    inside nat_cmp nat_cmp_total area.times first.entry.timestamp time p.time_in below (ap (in_range nat_cmp area.times) (sym same) ∙ q.time_in)

first_passes : {X : Type 0} (p : X → Bool) (xs : List X) (x : X) → slice_get xs 0 ≡ Some x → p x ≡ true → slice_get (filter p xs) 0 ≡ Some x
first_passes p [] x h k = absurd cc
first_passes p (y ∷ ys) x h k =
    let same : y ≡ x = cc in
    ap (λ t. slice_get (cond t (y ∷ filter p ys) (filter p ys)) 0) (ap p same ∙ k) ∙ h

first_there : {X : Type 0} (xs : List X) (x : X) → slice_get xs 0 ≡ Some x → Contains xs x
first_there xs x h = (0, slice_get_within xs 0 x h, get_or_from_slice_get xs 0 x x h)

any_there : {X : Type 0} (P : X → Type 0) (xs : List X) (x : X) → Contains xs x → P x → Any P xs
any_there P xs x h p = (h.0, x, h.1, h.2, p)

leaves_rows : (area : Ranges) (rows : List RowValue) (at : CutAt) → IsBetween (rows_in area rows) at → LeavesRows area rows at
leaves_rows area rows at b =
    let held = rows_in area rows in
    let first_in = filter_member (is_in area) rows b.first (member_from_contains held b.first (first_there held b.first b.is_first)) in
    let row_in = filter_member (is_in area) rows b.row (member_from_contains held b.row b.there) in
    let can : can_cut area at ≡ true = can_cut_between area at b.first b.row first_in.1 b.below row_in.1 b.stands in
    let below : slice_get (rows_in (lower_part area at) rows) 0 ≡ Some b.first =
    ap (λ l. slice_get l 0) (lower_rows area rows at can) ∙ first_passes (is_row_below at) held b.first b.is_first b.below in
    let upper = λ (row : RowValue). not (is_row_below at row) in
    let above : Contains (rows_in (upper_part area at) rows) b.row =
    subst (λ l. Contains l b.row) (sym (upper_rows area rows at can))
    (contains_from_member (filter upper held) b.row (member_filter upper held b.row (member_from_contains held b.row b.there) (not_from_false (is_row_below at b.row) (stands_not_below at b.row b.stands)))) in
    record {
      inside = can;
      first_below = below ∙ sym b.is_first;
      some_below = slice_get_within (rows_in (lower_part area at) rows) 0 b.first below;
      one_there = any_there (StandsAt at) (rows_in (upper_part area at) rows) b.row above b.stands;
      some_above = omega (arith, above.1);
    }

-- ---- the points of a choice

below_from_greater : {A : Type 0} (cmp : A → A → Ordering) → IsTotalOrder cmp → (low high : A) → is_gt (cmp high low) ≡ true → is_lt (cmp low high) ≡ true
below_from_greater cmp order low high h = ap is_lt (order.antisymm low high ∙ ap ordering_reverse (greater_from_test (cmp high low) h))

row_of_subspace : (rows : List RowValue) (key : List ℕ) → Member (subspaces_of rows) key → (row : RowValue) × Member rows row × (row.entry.subspace ≡ key)
row_of_subspace [] key m = absurd m
row_of_subspace (row ∷ rows) key (inl e) = (row, inl refl, e)
row_of_subspace (row ∷ rows) key (inr m) = let found = row_of_subspace rows key m in (found.0, inr found.1, found.2)

-- of rows that do not rise by subspace, the higher one has the greater path
path_below : (o turned : Ordering) (p : Ordering) → o ≡ ordering_reverse turned → is_gt turned ≡ false → ordering_then o p ≡ Less → p ≡ Less
path_below o Less p e h k = absurd cc
path_below o Equal p e h k = ap (λ w. ordering_then w p) (sym e) ∙ k
path_below o Greater p e h k = absurd cc

-- the first row is followed by greater ones
first_least : (rows rest : List RowValue) (first : RowValue) (n : ℕ) → rows ≡ first ∷ rest → IsStrictlySortedBy inner_place_cmp rows → 0 < n → n < length rows → inner_place_cmp first (get_or rows n first) ≡ Less
unfolding IsStrictlySortedBy
first_least rows rest first n e rise h k =
    let up : IsStrictlySortedBy inner_place_cmp (first ∷ rest) = subst (IsStrictlySortedBy inner_place_cmp) e rise in
    ap (λ l. inner_place_cmp first (get_or l n first)) e ∙ behind n h (omega (arith, k, ap length e)) up.0
  where
    behind : (n : ℕ) → 0 < n → n < length (first ∷ rest) → AllByRecursion (λ y. inner_place_cmp first y ≡ Less) rest → inner_place_cmp first (get_or (first ∷ rest) n first) ≡ Less
    behind zero h k all = absurd (omega arith)
    behind (suc n) h k all =
        let P : RowValue → Type 0 = λ y. inner_place_cmp first y ≡ Less in
        All-get_or P rest n first (omega arith) (All-from_recursion P rest all)

-- points that rise and are each between rows
record ArePoints (rows : List RowValue) (points : DimensionPoints) : Type 0 where
  rise : AreRising points
  between : All (IsBetween rows) (cuts_at points)

one_subspace : (rows : List RowValue) (key : List ℕ) → IsBetween rows (Subspace key) → ArePoints rows (by_subspace (key ∷ []))
unfolding IsStrictlySortedBy
one_subspace rows key b = record { rise = (tt, tt); between = All-cons (IsBetween rows) (Subspace key) [] b (All-nil (IsBetween rows)) }

one_path : (rows : List RowValue) (path : List (List ℕ)) → IsBetween rows (Path path) → ArePoints rows (by_path (path ∷ []))
unfolding IsStrictlySortedBy
one_path rows path b = record { rise = (tt, tt); between = All-cons (IsBetween rows) (Path path) [] b (All-nil (IsBetween rows)) }

module _ (rows : List RowValue) (first middle : RowValue) (is_first : slice_get rows 0 ≡ Some first) (there : Contains rows middle) (rises : inner_place_cmp first middle ≡ Less) where
  at_middle : is_gt (bytes_cmp middle.entry.subspace first.entry.subspace) ≡ true → IsBetween rows (Subspace middle.entry.subspace)
  unfolding is_below
  at_middle e = record {
    first = first;
    is_first = is_first;
    below = below_from_greater bytes_cmp nat_list_cmp_total first.entry.subspace middle.entry.subspace e;
    row = middle;
    there = there;
    stands = refl;
  }

  at_least : (key : List ℕ) → least_above first.entry.subspace (subspaces_of rows) ≡ Some key → IsBetween rows (Subspace key)
  unfolding is_below
  at_least key e =
      let next = least_above_is first.entry.subspace key (subspaces_of rows) e in
      let found = row_of_subspace rows key (member_from_contains (subspaces_of rows) key next.member) in
      record {
        first = first;
        is_first = is_first;
        below = ap is_lt next.above;
        row = found.0;
        there = contains_from_member rows found.0 found.1;
        stands = found.2;
      }

  at_path : is_gt (bytes_cmp middle.entry.subspace first.entry.subspace) ≡ false → IsBetween rows (Path middle.entry.path)
  unfolding is_below
  at_path e = record {
    first = first;
    is_first = is_first;
    below = ap is_lt (path_below (bytes_cmp first.entry.subspace middle.entry.subspace) (bytes_cmp middle.entry.subspace first.entry.subspace) (path_cmp first.entry.path middle.entry.path) (nat_list_cmp_total.antisymm first.entry.subspace middle.entry.subspace) e rises);
    row = middle;
    there = there;
    stands = refl;
  }

  are_points : (above : Bool) (found : Option (List ℕ)) → is_gt (bytes_cmp middle.entry.subspace first.entry.subspace) ≡ above → least_above first.entry.subspace (subspaces_of rows) ≡ found
      → ArePoints rows (cond above (by_subspace (middle.entry.subspace ∷ [])) (option_map_or (λ key. by_subspace (key ∷ [])) found (by_path (middle.entry.path ∷ []))))
  are_points true found e k = one_subspace rows middle.entry.subspace (at_middle e)
  are_points false (Some key) e k = one_subspace rows key (at_least key k)
  are_points false None e k = one_path rows middle.entry.path (at_path e)

points_between : (rows : List RowValue) (points : DimensionPoints) → IsStrictlySortedBy inner_place_cmp rows → choice rows ≡ Some points → ArePoints rows points
points_between rows points rise h =
    let m = are_many rows points h in
    let half = length rows / 2 in
    let low : 0 < half = omega (arith, m.many) in
    let within : half < length rows = omega (arith, m.many) in
    let middle = get_or rows half m.first in
    subst (ArePoints rows) m.parted
    (are_points rows m.first middle (ap (λ l. slice_get l 0) m.all) (Contains-get_or rows half m.first within) (first_least rows m.rest m.first half m.all rise low within)
    (is_gt (bytes_cmp middle.entry.subspace m.first.entry.subspace)) (least_above m.first.entry.subspace (subspaces_of rows)) refl refl)

pub part_rows : (rows : List RowValue) (points : DimensionPoints) → IsStrictlySortedBy inner_place_cmp rows → choice rows ≡ Some points → PartRows rows points
part_rows rows points rise h =
    let p = points_between rows points rise h in
    record {
      rise = p.rise;
      first_below =
          All-weaker (IsBetween rows) (λ at. IfSome (slice_get rows 0) (λ first. IsTrue (is_row_below at first))) (λ at b. subst (λ o. IfSome o (λ first. IsTrue (is_row_below at first))) (sym b.is_first) b.below) (cuts_at points)
          p.between;
      rows_there = All-weaker (IsBetween rows) (λ at. Any (StandsAt at) rows) (λ at b. any_there (StandsAt at) rows b.row b.there b.stands) (cuts_at points) p.between;
    }

pub all_leave_rows : (area : Ranges) (rows : List RowValue) (points : DimensionPoints) → IsStrictlySortedBy inner_place_cmp rows → choice (rows_in area rows) ≡ Some points → All (LeavesRows area rows) (cuts_at points)
all_leave_rows area rows points rise h =
    let p = points_between (rows_in area rows) points (IsStrictlySortedBy-filter inner_place_cmp (is_in area) rows rise) h in
    All-weaker (IsBetween (rows_in area rows)) (LeavesRows area rows) (leaves_rows area rows) (cuts_at points) p.between
