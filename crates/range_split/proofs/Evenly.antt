-- How evenly points divide rows, and that points of time are taken only where the base loads a part with more than half of
-- them.
use Rattle.std.proofs.Common.{◌≡◌, ℕ, zero, suc, ◌+◌, ◌-◌, ◌*◌, ◌<◌, ◌≤◌, Bool, true, false, not, cond, List, [], ◌∷◌, ◌++◌, length, filter, get_or, take, drop, refl, sym, ap, ap₂, ◌∙◌, Ordering, Less, Equal, Greater, is_lt, is_gt, nat_cmp, arith}
use Rattle.std.proofs.Math.Nat.{mul-le-mul_right}
use Rattle.std.specs.Prelude.{max}
use Rattle.std.specs.List.{AllByRecursion, sum}
use Rattle.std.specs.List.Sorted.{IsStrictlySortedBy}
use Rattle.std.specs.Ordering.{ordering_then, ordering_reverse}
use Rattle.std.proofs.lemmas.Bool.{le-ltb, lt-ltb}
use Rattle.std.proofs.lemmas.Cmp.{tied_itself}
use Rattle.std.proofs.lemmas.List.{length-map, get_or-drop, length-take, length-drop}
use Rattle.std.proofs.lemmas.List.Filters.{length-filter_both}
use Rattle.std.proofs.lemmas.List.Sums.{sum_by-cons}
use Rattle.willow_path.specs.Path.{path_cmp}
use Rattle.willow_path.proofs.PathOrder.{path_cmp_total}
use Rattle.willow_area.specs.Cuts.{is_below}
use Rattle.willow_area.specs.declared.cut.CutAt.{CutAt}
use Rattle.willow_area.specs.declared.cut.CutAt.TheVariants.{Path}
use Rattle.willow_entry.specs.Entry.{bytes_cmp}
use Rattle.willow_entry.specs.Row.{RowValue, inner_place_cmp}
use Rattle.range_split.specs.Points.{cuts_at}
use Rattle.range_split.specs.Choice.{subspaces_of}
use Rattle.range_split.specs.Sides.{is_row_below}
use Rattle.range_split.specs.Quarters.{next_low, distinct_above, cuts_among, part_sizes, greatest, load, paths_of, timestamps_of, time_points, base_points, even_points}
use Rattle.range_split.proofs.Sorting.{Rises, AreCuts, cuts_are}
use Rattle.range_split.proofs.Quartering.{of_times}

-- ---- loads

sizes_sum : (ats : List CutAt) (rows : List RowValue) → sum (part_sizes ats rows) ≡ length rows
unfolding part_sizes
sizes_sum [] rows = omega (arith, sum_by-cons (λ (n : ℕ). n) (length rows) [])
sizes_sum (at ∷ ats) rows =
    let up = filter (λ row. not (is_row_below at row)) rows in
    omega (arith, sizes_sum ats up, sum_by-cons (λ (n : ℕ). n) (length (filter (is_row_below at) rows)) (part_sizes ats up), length-filter_both (is_row_below at) (λ row. not (is_row_below at row)) (λ row. refl) rows)

sizes_length : (ats : List CutAt) (rows : List RowValue) → length (part_sizes ats rows) ≡ suc (length ats)
unfolding part_sizes
sizes_length [] rows = refl
sizes_length (at ∷ ats) rows = ap suc (sizes_length ats (filter (λ row. not (is_row_below at row)) rows))

sum_bound : (ns : List ℕ) (most : ℕ) → AllByRecursion (λ n. n ≤ most) ns → sum ns ≤ length ns * most
sum_bound [] most all = omega arith
sum_bound (n ∷ ns) most all =
    let more : suc (length ns) * most ≡ most + length ns * most = omega arith in
    omega (arith, all.0, sum_bound ns most all.1, sum_by-cons (λ (k : ℕ). k) n ns, more)

at_most_greatest : (ns : List ℕ) (most : ℕ) → greatest ns ≤ most → AllByRecursion (λ n. n ≤ most) ns
at_most_greatest [] most h = tt
at_most_greatest (n ∷ ns) most h = (omega (arith, h), at_most_greatest ns most (omega (arith, h)))

-- four parts have no more rows together than four of the greatest
pub four_parts : (ats : List CutAt) (rows : List RowValue) → length ats ≤ 3 → length rows ≤ 4 * greatest (part_sizes ats rows)
four_parts ats rows few =
    let sizes = part_sizes ats rows in
    let most = greatest sizes in
    let bound = sum_bound sizes most (at_most_greatest sizes most (omega arith)) in
    let count : length sizes * most ≤ 4 * most = mul-le-mul_right most (omega (arith, sizes_length ats rows, few)) in
    omega (arith, bound, count, sizes_sum ats rows)

-- where no part of the base has more than half of the rows, the base is taken
pub base_is_even : (rows : List RowValue) → 0 < length rows → 2 * load (base_points rows) rows ≤ length rows → even_points rows ≡ base_points rows
unfolding even_points
base_is_even rows some h =
    let times = cuts_among nat_cmp (timestamps_of rows) in
    let c : AreCuts nat_cmp of_times.order (timestamps_of rows) times = cuts_are nat_cmp of_times.order (timestamps_of rows) (omega (arith, some, length-map rows (λ row. row.entry.timestamp))) in
    let four = four_parts (cuts_at (time_points rows)) rows (omega (arith, c.few, length-map times (λ time. Rattle.willow_area.specs.declared.cut.CutAt.TheVariants.Time time))) in
    ap (λ b. cond b (time_points rows) (base_points rows)) (le-ltb (2 * load (time_points rows) rows) (load (base_points rows) rows) (omega (arith, four, h)))

pub times_taken : (rows : List RowValue) → 2 * load (time_points rows) rows < load (base_points rows) rows → even_points rows ≡ time_points rows
unfolding even_points
times_taken rows h = ap (λ b. cond b (time_points rows) (base_points rows)) (lt-ltb (2 * load (time_points rows) rows) (load (base_points rows) rows) h)

pub base_taken : (rows : List RowValue) → load (base_points rows) rows ≤ 2 * load (time_points rows) rows → even_points rows ≡ base_points rows
unfolding even_points
base_taken rows h = ap (λ b. cond b (time_points rows) (base_points rows)) (le-ltb (2 * load (time_points rows) rows) (load (base_points rows) rows) h)

pub greatest_more : (ns : List ℕ) (n : ℕ) → greatest (ns ++ n ∷ []) ≡ max (greatest ns) n
greatest_more [] n = omega arith
greatest_more (m ∷ ns) n = omega (arith, greatest_more ns n)

-- ---- rising subspaces

not_after : (o p : Ordering) → ordering_then o p ≡ Less → is_gt o ≡ false
not_after Less p h = refl
not_after Equal p h = refl
not_after Greater p h = absurd cc

subspaces_from : (r : RowValue) (rows : List RowValue) → AllByRecursion (λ s. inner_place_cmp r s ≡ Less) rows → AllByRecursion (λ key. is_gt (bytes_cmp r.entry.subspace key) ≡ false) (subspaces_of rows)
subspaces_from r [] h = tt
subspaces_from r (s ∷ rows) h = (not_after (bytes_cmp r.entry.subspace s.entry.subspace) (path_cmp r.entry.path s.entry.path) h.0, subspaces_from r rows h.1)

pub subspaces_rise : (rows : List RowValue) → IsStrictlySortedBy inner_place_cmp rows → Rises bytes_cmp (subspaces_of rows)
unfolding IsStrictlySortedBy
subspaces_rise [] h = tt
subspaces_rise (r ∷ rows) h = (subspaces_from r rows h.0, subspaces_rise rows h.1)

-- ---- distinct values, one by one

pub distinct_next : {A : Type 0} (cmp : A → A → Ordering) (low x : A) (xs : List A) → distinct_above cmp low (x ∷ xs) ≡ distinct_above cmp low (x ∷ []) ++ distinct_above cmp (next_low cmp low x) xs
unfolding distinct_above
distinct_next cmp low x xs = by_test (is_gt (cmp x low))
  where
    by_test : (b : Bool) → cond b (x ∷ distinct_above cmp x xs) (distinct_above cmp low xs) ≡ cond b (x ∷ []) [] ++ distinct_above cmp (cond b x low) xs
    by_test true = refl
    by_test false = refl

-- ---- rising paths

-- the rows rise by path alone
abbrev pub ByPath : List RowValue → Type 0
ByPath rows = IsStrictlySortedBy (λ r s. path_cmp r.entry.path s.entry.path) rows

paths_from : (r : RowValue) (rows : List RowValue) → AllByRecursion (λ s. path_cmp r.entry.path s.entry.path ≡ Less) rows → AllByRecursion (λ p. is_gt (path_cmp r.entry.path p) ≡ false) (paths_of rows)
paths_from r [] h = tt
paths_from r (s ∷ rows) h = (ap is_gt h.0, paths_from r rows h.1)

pub paths_rise : (rows : List RowValue) → ByPath rows → Rises path_cmp (paths_of rows)
unfolding IsStrictlySortedBy
paths_rise [] h = tt
paths_rise (r ∷ rows) h = (paths_from r rows h.0, paths_rise rows h.1)

none_below : (r : RowValue) (rows : List RowValue) → AllByRecursion (λ s. path_cmp r.entry.path s.entry.path ≡ Less) rows → filter (is_row_below (Path r.entry.path)) rows ≡ []
unfolding is_below
none_below r [] h = refl
none_below r (s ∷ rows) h =
    let after : is_lt (path_cmp s.entry.path r.entry.path) ≡ false = ap is_lt (path_cmp_total.antisymm s.entry.path r.entry.path ∙ ap ordering_reverse h.0) in
    let here = filter (is_row_below (Path r.entry.path)) rows in
    ap (λ b. cond b (s ∷ here) here) after ∙ none_below r rows h.1

all_above : (r : RowValue) (rows : List RowValue) → AllByRecursion (λ s. path_cmp r.entry.path s.entry.path ≡ Less) rows → filter (λ row. not (is_row_below (Path r.entry.path) row)) rows ≡ rows
unfolding is_below
all_above r [] h = refl
all_above r (s ∷ rows) h =
    let after : is_lt (path_cmp s.entry.path r.entry.path) ≡ false = ap is_lt (path_cmp_total.antisymm s.entry.path r.entry.path ∙ ap ordering_reverse h.0) in
    let here = filter (λ row. not (is_row_below (Path r.entry.path) row)) rows in
    ap (λ b. cond (not b) (s ∷ here) here) after ∙ ap (λ l. s ∷ l) (all_above r rows h.1)

itself : (r : RowValue) → is_lt (path_cmp r.entry.path r.entry.path) ≡ false
itself r = ap is_lt (tied_itself path_cmp_total r.entry.path)

-- the item at a place behind the first passes what all behind it pass
pub behind_first : (P : RowValue → Type 0) (rows : List RowValue) (k : ℕ) (d : RowValue) → AllByRecursion P rows → k < length rows → P (get_or rows k d)
behind_first P [] k d all lt = absurd (omega (arith, lt))
behind_first P (r ∷ rows) zero d all lt = all.0
behind_first P (r ∷ rows) (suc k) d all lt = behind_first P rows k d all.1 (omega (arith, lt))

pub below_is_front : (rows : List RowValue) (k : ℕ) (d : RowValue) → ByPath rows → k < length rows → filter (is_row_below (Path (get_or rows k d).entry.path)) rows ≡ take k rows
unfolding IsStrictlySortedBy is_below
below_is_front [] k d h lt = absurd (omega (arith, lt))
below_is_front (r ∷ rows) zero d h lt =
    let here = filter (is_row_below (Path r.entry.path)) rows in
    ap (λ b. cond b (r ∷ here) here) (itself r) ∙ none_below r rows h.0
below_is_front (r ∷ rows) (suc k) d h lt =
    let at = get_or rows k d in
    let here = filter (is_row_below (Path at.entry.path)) rows in
    let below : is_lt (path_cmp r.entry.path at.entry.path) ≡ true = ap is_lt (behind_first (λ s. path_cmp r.entry.path s.entry.path ≡ Less) rows k d h.0 (omega (arith, lt))) in
    ap (λ b. cond b (r ∷ here) here) below ∙ ap (λ l. r ∷ l) (below_is_front rows k d h.1 (omega (arith, lt)))

pub above_is_back : (rows : List RowValue) (k : ℕ) (d : RowValue) → ByPath rows → k < length rows → filter (λ row. not (is_row_below (Path (get_or rows k d).entry.path) row)) rows ≡ drop k rows
unfolding IsStrictlySortedBy is_below
above_is_back [] k d h lt = absurd (omega (arith, lt))
above_is_back (r ∷ rows) zero d h lt =
    let here = filter (λ row. not (is_row_below (Path r.entry.path) row)) rows in
    ap (λ b. cond (not b) (r ∷ here) here) (itself r) ∙ ap (λ l. r ∷ l) (all_above r rows h.0)
above_is_back (r ∷ rows) (suc k) d h lt =
    let at = get_or rows k d in
    let here = filter (λ row. not (is_row_below (Path at.entry.path) row)) rows in
    let below : is_lt (path_cmp r.entry.path at.entry.path) ≡ true = ap is_lt (behind_first (λ s. path_cmp r.entry.path s.entry.path ≡ Less) rows k d h.0 (omega (arith, lt))) in
    ap (λ b. cond (not b) (r ∷ here) here) below ∙ above_is_back rows k d h.1 (omega (arith, lt))

by_path_drop : (k : ℕ) (rows : List RowValue) → ByPath rows → ByPath (drop k rows)
unfolding IsStrictlySortedBy
by_path_drop zero rows h = h
by_path_drop (suc k) [] h = tt
by_path_drop (suc k) (r ∷ rows) h = by_path_drop k rows h.1

drop_none : (n : ℕ) (xs : List RowValue) → length xs ≤ 0 → drop n xs ≡ []
drop_none zero [] h = refl
drop_none (suc n) [] h = refl
drop_none n (x ∷ xs) h = absurd (omega (arith, h))

dropped : (m n : ℕ) (xs : List RowValue) → drop n (drop m xs) ≡ drop (m + n) xs
dropped zero n xs = ap (λ k. drop k xs) (omega arith)
dropped (suc m) n [] = drop_none n [] (omega arith) ∙ sym (drop_none (suc m + n) [] (omega arith))
dropped (suc m) n (x ∷ xs) =
    let next : suc m + n ≡ suc (m + n) = omega arith in
    dropped m n xs ∙ sym (ap (λ k. drop k (x ∷ xs)) next)

-- the sizes of the parts between rows at rising places
module _ (rows : List RowValue) (d : RowValue) (h : ByPath rows) where
  pub cut_behind : (start k : ℕ) (ats : List CutAt) → start ≤ k → k < length rows
      → part_sizes (Path (get_or rows k d).entry.path ∷ ats) (drop start rows) ≡ (k - start) ∷ part_sizes ats (drop k rows)
  unfolding part_sizes
  cut_behind start k ats low lt =
      let left = drop start rows in
      let here : get_or left (k - start) d ≡ get_or rows k d = get_or-drop start rows (k - start) d ∙ ap (λ n. get_or rows n d) (omega arith) in
      let within : k - start < length left = omega (arith, length-drop start rows, lt, low) in
      let front : filter (is_row_below (Path (get_or rows k d).entry.path)) left ≡ take (k - start) left =
      ap (λ (r : RowValue). filter (is_row_below (Path r.entry.path)) left) (sym here) ∙ below_is_front left (k - start) d (by_path_drop start rows h) within in
      let back : filter (λ row. not (is_row_below (Path (get_or rows k d).entry.path) row)) left ≡ drop k rows =
      ap (λ (r : RowValue). filter (λ row. not (is_row_below (Path r.entry.path) row)) left) (sym here) ∙ above_is_back left (k - start) d (by_path_drop start rows h) within ∙ dropped start (k - start) rows ∙ ap (λ n. drop n rows) (omega arith) in
      ap₂ (λ n l. n ∷ part_sizes ats l) (ap length front ∙ omega (arith, length-take (k - start) left, within)) back
