-- What is told of a box along an order by time is what is told along the rows: the same sums over the positions found, whatever is summed.
use Rattle.std.proofs.Common.{◌≡◌, ℕ, zero, suc, ◌+◌, ◌%◌, ◌^◌, ◌<◌, ◌≤◌, Bool, true, false, cond, List, [], ◌∷◌, ◌++◌, length, map, filter, take, drop, get_or, Some, None, slice_get, refl, sym, ap, ap₂, ◌∙◌, subst, append-nil, append_assoc, nat_cmp, arith}
use Rattle.std.specs.Prelude.{nat_lt}
use Rattle.std.specs.List.{All, AllByRecursion, range_with_len, sum_by}
use Rattle.std.specs.List.Sorted.{IsPermutation, IsSorted, IsNonDecreasingBy, IsPartitionPoint}
use Rattle.std.specs.Ordering.{is_lt, ordering_then}
use Rattle.std.proofs.lemmas.Bool.{le-ltb, ltb-true, ltb-false, false_from_ne_true}
use Rattle.std.proofs.lemmas.Bool.Decides.{nat_tests}
use Rattle.std.proofs.lemmas.List.{take-append-drop, length-append, length-drop, length-map, get_or-drop, get_or-map, get_or_past}
use Rattle.std.proofs.lemmas.List.Elements.{filter-append}
use Rattle.std.proofs.lemmas.List.FromFn.{length-range_with_len}
use Rattle.std.proofs.lemmas.List.Sorted.{IsNonDecreasingBy-from_sort, IsNonDecreasingBy-from_all_adjacent, IsPermutation-map, All-permutation, length_permutation, sum_by-IsPermutation}
use Rattle.std.proofs.lemmas.List.Sums.{sum_by-cons}
use Rattle.std.proofs.lemmas.Option.{slice_get_within, get_or_from_slice_get}
use Rattle.std.proofs.lemmas.Map.Keys.{non_decreasing_from_sorted}
use Rattle.lane_sum.specs.Totals.{lane_by, leaf_word, total_by}
use Rattle.lane_sum.proofs.Fields.{lanes_alike}
use Rattle.willow_area.specs.Boxes.{Ranges}
use Rattle.willow_area.specs.Times.{Times, in_times}
use Rattle.willow_area.proofs.Membership.{time_in, in_time as in_times_by, below, below_holds, IsBefore}
use Rattle.willow_entry.specs.Row.{RowValue}
use Rattle.block_store.specs.ByTime.{IsTimeOrder, found_at, passes, passes_at, time_at, time_cmp, written_in}
use Rattle.block_store.specs.InBox.{is_in, rows_in}
use Rattle.block_store.specs.Positions.{positions_from, positions}
use Rattle.block_store.proofs.Narrowing.{in_box_is}
use Rattle.block_store.proofs.Numbering.{seam, so_many, positions_rise}
use Rattle.block_store.proofs.Spans.{filter_all, filter_fewer, filter_none, within_front, within_back}

-- every sum over the one list is that over the other
abbrev pub SameSums : {X : Type 0} → List X → List X → Type 0
SameSums {X} xs ys = (f : X → ℕ) → sum_by f xs ≡ sum_by f ys

module _ {X : Type 0} where
  -- what is summed over the items that pass
  pub sum_passing : (test : X → Bool) (f : X → ℕ) (xs : List X) → sum_by f (filter test xs) ≡ sum_by (λ x. cond (test x) (f x) 0) xs
  sum_passing test f [] = refl
  sum_passing test f (x ∷ xs) =
      let rest = sum_passing test f xs in
      let P : Bool → Type 0 = λ b. sum_by f (cond b (x ∷ filter test xs) (filter test xs)) ≡ cond b (f x) 0 + sum_by (λ y. cond (test y) (f y) 0) xs in
      let each : (b : Bool) → P b = elim [ true ↦ omega (arith, rest, sum_by-cons f x (filter test xs)) | false ↦ omega (arith, rest) ] in
      each (test x) ∙ sym (sum_by-cons (λ y. cond (test y) (f y) 0) x xs)

  -- a filter of what another left, where the other leaves what passes
  pub filter_twice : (outer inner : X → Bool) → ((x : X) → outer x ≡ true → inner x ≡ true) → (xs : List X) → filter outer (filter inner xs) ≡ filter outer xs
  filter_twice outer inner up [] = refl
  filter_twice outer inner up (x ∷ xs) =
      let rest = filter_twice outer inner up xs in
      let P : Bool → Bool → Type 0 = λ a b. filter outer (cond b (x ∷ filter inner xs) (filter inner xs)) ≡ cond a (x ∷ filter outer xs) (filter outer xs) in
      let kept : (a : Bool) → outer x ≡ a → P a true = λ a e. ap (λ c. cond c (x ∷ filter outer (filter inner xs)) (filter outer (filter inner xs))) e ∙ ap (λ l. cond a (x ∷ l) l) rest in
      let each : (a b : Bool) → outer x ≡ a → inner x ≡ b → P a b = λ a b. elim b as (λ v. outer x ≡ a → inner x ≡ v → P a v) [
        | true ↦ (λ e _. kept a e)
        | false ↦ elim a as (λ v. outer x ≡ v → inner x ≡ false → P v false) [ true ↦ (λ e f. absurd (clash (up x e) f)) | false ↦ (λ _ _. rest) ]
      ] in
      each (outer x) (inner x) refl refl
    where
      clash : {b : Bool} → b ≡ true → b ≡ false → ⊥
      clash e f = cc

  long_sum : (xs : List X) → sum_by (λ x. 1) xs ≡ length xs
  long_sum [] = refl
  long_sum (x ∷ xs) = omega (arith, long_sum xs, sum_by-cons (λ (y : X). 1) x xs)

  pub same_long : (xs ys : List X) → SameSums xs ys → length xs ≡ length ys
  same_long xs ys same = omega (arith, long_sum xs, long_sum ys, same (λ x. 1))

  pub sum_mapped : {Y : Type 0} (g : Y → X) (f : X → ℕ) (ys : List Y) → sum_by f (map g ys) ≡ sum_by (λ y. f (g y)) ys
  sum_mapped g f [] = refl
  sum_mapped g f (y ∷ ys) = sum_by-cons f (g y) (map g ys) ∙ ap (λ n. f (g y) + n) (sum_mapped g f ys) ∙ sym (sum_by-cons (λ z. f (g z)) y ys)

-- ---- the positions of the items that pass

module _ {X : Type 0} (test : X → Bool) where
  behind : (front xs : List X) → filter (passes_at test (front ++ xs)) (range_with_len (length front) (length xs)) ≡ positions_from test (length front) xs
  behind front [] = refl
  behind front (x ∷ xs) =
      let all = front ++ x ∷ xs in
      let later = positions_from test (length front + 1) xs in
      let long : length (front ++ x ∷ []) ≡ length front + 1 = omega (arith, length-append front (x ∷ [])) in
      let rest : filter (passes_at test all) (range_with_len (length front + 1) (length xs)) ≡ later =
      ap₂ (λ l n. filter (passes_at test l) (range_with_len n (length xs))) (sym (append_assoc front (x ∷ []) xs)) (sym long)
      ∙ behind (front ++ x ∷ []) xs ∙ ap (λ n. positions_from test n xs) long in
      let here : passes_at test all (length front) ≡ test x = ap (passes test) (seam front x xs) in
      ap (λ b. cond b (length front ∷ filter (passes_at test all) (range_with_len (length front + 1) (length xs))) (filter (passes_at test all) (range_with_len (length front + 1) (length xs)))) here
      ∙ ap (λ l. cond (test x) (length front ∷ l) l) rest

  -- of all positions those whose items pass
  pub passing_all : (xs : List X) → filter (passes_at test xs) (range_with_len 0 (length xs)) ≡ positions test xs
  passing_all xs = behind [] xs

-- ---- along an order by time

-- a row that the box includes was written within its times
in_time : (area : Ranges) (rows : List RowValue) (at : ℕ) → passes_at (is_in area) rows at ≡ true → in_times area.times (time_at rows at) ≡ true
in_time area [] at e = absurd cc
in_time area (r ∷ rows) zero e = (in_box_is area r e).time_in
in_time area (r ∷ rows) (suc at) e = in_time area rows at e

module _ (area : Ranges) (rows : List RowValue) (order : List ℕ) (is : IsTimeOrder order rows) where
  -- what is found among the rows of the box's times is all that the box includes
  pub same_found : SameSums (found_at area rows (written_in area rows order)) (positions (is_in area) rows)
  same_found f =
      let test = passes_at (is_in area) rows in
      let all = range_with_len 0 (length rows) in
      ap (sum_by f) (filter_twice test (λ at. in_times area.times (time_at rows at)) (in_time area rows) order)
      ∙ sum_passing test f order ∙ sum_by-IsPermutation (λ at. cond (test at) (f at) 0) all order is.all
      ∙ sym (sum_passing test f all) ∙ ap (sum_by f) (passing_all (is_in area) rows)

  pub order_long : length order ≡ length rows
  order_long = length_permutation (range_with_len 0 (length rows)) order is.all ∙ length-range_with_len 0 (length rows)

  pub written_few : length (written_in area rows order) ≤ length rows
  written_few = omega (arith, filter_fewer (λ at. in_times area.times (time_at rows at)) order, order_long)

  pub so_many_found : length (found_at area rows (written_in area rows order)) ≡ length (rows_in area rows)
  so_many_found = same_long (found_at area rows (written_in area rows order)) (positions (is_in area) rows) same_found ∙ so_many (is_in area) rows

later : (a b i j : ℕ) → is_lt (ordering_then (nat_cmp b a) (nat_cmp j i)) ≡ false → a ≤ b
later a b i j h = grind (arith, nat_tests)

-- the time of the row at a position
pub stamped : (rows : List RowValue) (at : ℕ) (row : RowValue) → slice_get rows at ≡ Some row → time_at rows at ≡ row.entry.timestamp
stamped rows at row e =
    let time : RowValue → ℕ = λ r. r.entry.timestamp in
    get_or-map time rows at row 0 (slice_get_within rows at row e) ∙ ap time (get_or_from_slice_get rows at row row e)

pub unstamped : (rows : List RowValue) (at : ℕ) → length rows ≤ at → time_at rows at ≡ 0
unstamped rows at h = get_or_past (map (λ r. r.entry.timestamp) rows) at 0 (omega (arith, length-map rows (λ r. r.entry.timestamp)))

-- what a sort of the times and positions of all rows gives
module _ (rows : List RowValue) where
  abbrev stamp : ℕ → ℕ × ℕ
  stamp at = (time_at rows at, at)

  abbrev second : ℕ × ℕ → ℕ
  second s = s.1

  seconds : (ats : List ℕ) → map second (map stamp ats) ≡ ats
  seconds [] = refl
  seconds (at ∷ ats) = ap (λ l. at ∷ l) (seconds ats)

  pub order_is : (stamps : List (ℕ × ℕ)) (n : ℕ) → n ≡ length rows → IsPermutation (map stamp (range_with_len 0 n)) stamps → IsSorted (λ x y. ordering_then (nat_cmp x.0 y.0) (nat_cmp x.1 y.1)) stamps
      → IsTimeOrder (map second stamps) rows
  order_is stamps n e moved up = record {
    all = subst (λ l. IsPermutation l (map second stamps)) (seconds (range_with_len 0 n) ∙ ap (range_with_len 0) e) (IsPermutation-map second (map stamp (range_with_len 0 n)) stamps moved);
    rise = λ k d le lt.
        let o : ℕ × ℕ = (0, d) in
        let x = get_or stamps k o in
        let y = get_or stamps (k + 1) o in
        let next : k + 1 < length stamps = omega (arith, lt, length-map stamps second) in
        let own = All-permutation Own (map stamp (range_with_len 0 n)) stamps moved each in
        let i : get_or (map second stamps) k d ≡ x.1 = get_or-map second stamps k o d (omega arith) in
        let j : get_or (map second stamps) (k + 1) d ≡ y.1 = get_or-map second stamps (k + 1) o d next in
        ap₂ (λ a b. is_lt (time_cmp rows a b)) j i
        ∙ ap₂ (λ s t. is_lt (ordering_then (nat_cmp s t) (nat_cmp y.1 x.1))) (sym (own (k + 1) o next)) (sym (own k o (omega arith)))
        ∙ up k o le next;
  }
    where
      Own : ℕ × ℕ → Type 0
      Own s = s.0 ≡ time_at rows s.1

      each : All Own (map stamp (range_with_len 0 n))
      each k d lt = subst Own (sym (get_or-map stamp (range_with_len 0 n) k 0 d (omega (arith, lt, length-map (range_with_len 0 n) stamp)))) refl

-- times do not fall along the order
pub times_rise : (rows : List RowValue) (order : List ℕ) → IsTimeOrder order rows → IsNonDecreasingBy (time_at rows) order
times_rise rows order is =
    IsNonDecreasingBy-from_all_adjacent (time_at rows) order (λ k d lt.
    let i = get_or order k d in
    let j = get_or order (k + 1) d in
    later (time_at rows i) (time_at rows j) i j (is.rise k d (omega arith) lt))

-- ---- the run of an order that was written within the times of a box

module _ (times : Times) (time : ℕ → ℕ) where
  abbrev inside : ℕ → Bool
  inside at = in_times times (time at)

  starts : (at : ℕ) → nat_lt (time at) times.start ≡ true → inside at ≡ false
  starts at h = false_from_ne_true (inside at) (λ t. omega (arith, ltb-true (time at) times.start h, (time_in times (time at) t).0))

  ends : (at end : ℕ) → times.end ≡ Some end → nat_lt (time at) end ≡ false → inside at ≡ false
  ends at end e h = false_from_ne_true (inside at) (λ t. omega (arith, ltb-false (time at) end h, below (time at) end (subst (IsBefore (time at)) e (time_in times (time at) t).1)))

  within : (at : ℕ) → nat_lt (time at) times.start ≡ false → IsBefore (time at) times.end → inside at ≡ true
  within at low high = in_times_by times (time at) (ltb-false (time at) times.start low) high

  -- before the point of the start there is none
  pub from_start : (ats : List ℕ) (low : ℕ) → IsPartitionPoint (λ at. nat_lt (time at) times.start ≡ true) (λ at. nat_lt (time at) times.start ≡ false) ats low
      → filter inside (drop low ats) ≡ filter inside ats
  from_start ats low point =
      let none = filter_none inside (take low ats) (within_front (λ at. inside at ≡ false) ats low (λ k d le lt. starts (get_or ats k d) (point.0 k d le lt))) in
      sym (ap (filter inside) (sym (take-append-drop low ats)) ∙ filter-append inside (take low ats) (drop low ats) ∙ ap (λ l. l ++ filter inside (drop low ats)) none)

  -- from it on each is, where the times have no end
  pub no_end : times.end ≡ None → (ats : List ℕ) (low : ℕ) → IsPartitionPoint (λ at. nat_lt (time at) times.start ≡ true) (λ at. nat_lt (time at) times.start ≡ false) ats low
      → filter inside (drop low ats) ≡ drop low ats
  no_end e ats low point =
      filter_all inside (drop low ats) (within_back (λ at. inside at ≡ true) ats low (λ k d le lt.
      within (get_or ats k d) (point.1 k d le lt) (subst (IsBefore (time (get_or ats k d))) (sym e) refl)))

  -- and up to the point of the end, where they have one
  pub up_to_end : (end : ℕ) → times.end ≡ Some end → (ats : List ℕ) (low high : ℕ) → IsPartitionPoint (λ at. nat_lt (time at) times.start ≡ true) (λ at. nat_lt (time at) times.start ≡ false) ats low
      → IsPartitionPoint (λ at. nat_lt (time at) end ≡ true) (λ at. nat_lt (time at) end ≡ false) (drop low ats) high → high ≤ length (drop low ats)
      → filter inside (drop low ats) ≡ take high (drop low ats)
  up_to_end end e ats low high point last bound =
      let behind = drop low ats in
      let later : (k : ℕ) (d : ℕ) → k < length behind → nat_lt (time (get_or behind k d)) times.start ≡ false =
      λ k d lt. ap (λ at. nat_lt (time at) times.start) (get_or-drop low ats k d) ∙ point.1 (low + k) d (omega arith) (omega (arith, lt, length-drop low ats)) in
      let all = filter_all inside (take high behind) (within_front (λ at. inside at ≡ true) behind high (λ k d le lt.
      within (get_or behind k d) (later k d (omega arith)) (subst (IsBefore (time (get_or behind k d))) (sym e) (below_end (time (get_or behind k d)) end (last.0 k d le lt))))) in
      let none = filter_none inside (drop high behind) (within_back (λ at. inside at ≡ false) behind high (λ k d le lt. ends (get_or behind k d) end e (last.1 k d le lt))) in
      ap (filter inside) (sym (take-append-drop high behind)) ∙ filter-append inside (take high behind) (drop high behind) ∙ ap₂ (λ a b. a ++ b) all none ∙ append-nil (take high behind)
    where
      below_end : (t stop : ℕ) → nat_lt t stop ≡ true → IsBefore t (Some stop)
      below_end t stop h = below_holds t stop (ltb-true t stop h)

-- ---- two rising lists with the same sums are one

-- each is at most those behind it
Rises : List ℕ → Type 0
Rises [] = Unit {0}
Rises (x ∷ xs) = AllByRecursion (λ y. x ≤ y) xs × Rises xs

abbrev one_if : Bool → ℕ
one_if b = cond b 1 0

-- 1 below a number
abbrev under : ℕ → ℕ → ℕ
under y n = cond (nat_lt n y) 1 0

none_under : (y : ℕ) (ys : List ℕ) → AllByRecursion (λ z. y ≤ z) ys → sum_by (under y) ys ≡ 0
none_under y [] all = refl
none_under y (z ∷ ys) all =
    omega (arith, sum_by-cons (under y) z ys, none_under y ys all.1, ap one_if (le-ltb z y all.0))

first_not_under : (x y : ℕ) (xs ys : List ℕ) → SameSums (x ∷ xs) (y ∷ ys) → AllByRecursion (λ z. y ≤ z) ys → y ≤ x
first_not_under x y xs ys same all = by_test (nat_lt x y) refl
  where
    by_test : (b : Bool) → nat_lt x y ≡ b → y ≤ x
    by_test true e =
        absurd (omega (arith, same (under y), sum_by-cons (under y) x xs, sum_by-cons (under y) y ys, none_under y ys all, ap one_if e, ap one_if (le-ltb y y (omega arith))))
    by_test false e = ltb-false x y e

no_sum : (y : ℕ) (ys : List ℕ) → SameSums [] (y ∷ ys) → ⊥
no_sum y ys same = omega (arith, same (λ n. 1), sum_by-cons (λ (n : ℕ). 1) y ys)

one_rising : (xs ys : List ℕ) → Rises xs → Rises ys → SameSums xs ys → xs ≡ ys
unfolding Rises
one_rising [] [] up over same = refl
one_rising [] (y ∷ ys) up over same = absurd (no_sum y ys same)
one_rising (x ∷ xs) [] up over same = absurd (no_sum x xs (λ f. sym (same f)))
one_rising (x ∷ xs) (y ∷ ys) up over same =
    let low = first_not_under x y xs ys same over.0 in
    let high = first_not_under y x ys xs (λ f. sym (same f)) up.0 in
    let e : x ≡ y = omega (arith, low, high) in
    let rest : SameSums xs ys = λ f. omega (arith, same f, sum_by-cons f x xs, sum_by-cons f y ys, ap f e) in
    ap₂ (λ n l. n ∷ l) e (one_rising xs ys up.1 over.1 rest)

all_above : (x : ℕ) (xs : List ℕ) → ((i : ℕ) → i < length xs → x ≤ get_or xs i x) → AllByRecursion (λ y. x ≤ y) xs
all_above x [] h = tt
all_above x (y ∷ xs) h = (h 0 (omega arith), all_above x xs (λ i lt. h (suc i) (omega (arith, lt))))

rises_by : (xs : List ℕ) → IsNonDecreasingBy (λ x. x) xs → Rises xs
unfolding Rises
rises_by [] h = tt
rises_by (x ∷ xs) h = (all_above x xs (λ i lt. h 0 (suc i) x (omega arith) (omega (arith, lt))), rises_by xs (λ i j d le lt. h (suc i) (suc j) d (omega (arith, le)) (omega (arith, lt))))

-- what a sort makes of positions with the same sums as those of the items that pass
pub sorted_is : {X : Type 0} (test : X → Bool) (rows : List X) (found sorted : List ℕ) → SameSums found (positions test rows) → IsPermutation found sorted → IsSorted nat_cmp sorted → sorted ≡ positions test rows
sorted_is test rows found sorted same moved rise =
    one_rising sorted (positions test rows) (rises_by sorted (IsNonDecreasingBy-from_sort (λ x. x) sorted rise))
    (rises_by (positions test rows) (non_decreasing_from_sorted (positions test rows) (positions_rise test rows)))
    (λ f. sum_by-IsPermutation f found sorted moved ∙ same f)

-- ---- what they add up to

module _ {X : Type 0} (row : X → List ℕ × List ℕ) where
  -- the total rests on sums alone
  pub total_same : (xs ys : List X) → SameSums xs ys → total_by row xs ≡ total_by row ys
  total_same xs ys same = lanes_alike (total_by row xs) (total_by row ys)
      (ap (λ (n : ℕ). n % 2 ^ 64) (same_long xs ys same))
      (lane (λ x. leaf_word 0 (row x))) (lane (λ x. leaf_word 1 (row x))) (lane (λ x. leaf_word 2 (row x))) (lane (λ x. leaf_word 3 (row x)))
    where
      lane : (f : X → ℕ) → lane_by f xs ≡ lane_by f ys
      lane f = ap (λ (n : ℕ). n % 2 ^ 64) (same f)

  pub total_mapped : {Y : Type 0} (g : Y → X) (ys : List Y) → total_by row (map g ys) ≡ total_by (λ y. row (g y)) ys
  total_mapped {Y} g ys = lanes_alike (total_by row (map g ys)) (total_by (λ y. row (g y)) ys)
      (ap (λ (n : ℕ). n % 2 ^ 64) (length-map ys g))
      (lane (λ x. leaf_word 0 (row x))) (lane (λ x. leaf_word 1 (row x))) (lane (λ x. leaf_word 2 (row x))) (lane (λ x. leaf_word 3 (row x)))
    where
      lane : (f : X → ℕ) → lane_by f (map g ys) ≡ lane_by (λ y. f (g y)) ys
      lane f = ap (λ (n : ℕ). n % 2 ^ 64) (sum_mapped g f ys)
