-- Rows of one subspace are cut at the paths of three of them, and evenly.
use Rattle.std.proofs.Common.{◌≡◌, inl, inr, ℕ, zero, suc, ◌+◌, ◌-◌, ◌*◌, ◌/◌, ◌<◌, ◌≤◌, Bool, true, false, not, cond, List, [], ◌∷◌, length, map, get_or, slice_get, drop, Some, refl, sym, ap, ap₂, ◌∙◌, subst, Ordering, Less, is_gt, arith}
use Rattle.std.specs.List.{AllByRecursion}
use Rattle.std.specs.List.Sorted.{IsStrictlySortedBy}
use Rattle.std.specs.Ordering.{ordering_reverse}
use Rattle.std.specs.Cmp.{IsTotalOrder}
use Rattle.std.specs.Cmp.Lexicographic.{bytes_decides}
use Rattle.std.proofs.lemmas.List.{length-map, length-drop}
use Rattle.std.proofs.lemmas.Option.{get_or_from_slice_get}
use Rattle.willow_path.specs.Path.{path_cmp}
use Rattle.willow_path.proofs.PathOrder.{path_cmp_total}
use Rattle.willow_area.specs.declared.cut.CutAt.{CutAt}
use Rattle.willow_area.specs.declared.cut.CutAt.TheVariants.{Path}
use Rattle.willow_entry.specs.Entry.{same_bytes}
use Rattle.willow_entry.specs.Row.{RowValue, inner_place_cmp}
use Rattle.willow_entry.proofs.Members.{Member, false_of_any}
use Rattle.range_split.specs.Points.{by_path, cuts_at}
use Rattle.range_split.specs.Quarters.{distinct_above, quarter, quarters, or_others, cuts_of, part_sizes, greatest, load, paths_of, have_subspaces, subspace_points, path_points, base_points, even_points}
use Rattle.range_split.proofs.Sorting.{sorted_itself}
use Rattle.range_split.proofs.Evenly.{ByPath, base_is_even, paths_rise, behind_first, cut_behind}
use Rattle.range_split.proofs.Quartering.{holds, path_less}

-- ---- one subspace

-- each row is in the subspace
abbrev pub AreIn : List ℕ → List RowValue → Type 0
AreIn key rows = AllByRecursion (λ row. row.entry.subspace ≡ key) rows

same_test : (x y : List ℕ) → x ≡ y → not (same_bytes x y) ≡ false
same_test x y e = ap not ((bytes_decides x y).1 e)

above_in : (key : List ℕ) (r : RowValue) (rows : List RowValue) → r.entry.subspace ≡ key → AreIn key rows → AllByRecursion (λ s. inner_place_cmp r s ≡ Less) rows → AllByRecursion (λ s. path_cmp r.entry.path s.entry.path ≡ Less) rows
above_in key r [] is are up = tt
above_in key r (s ∷ rows) is are up = (path_less r s (same_test s.entry.subspace r.entry.subspace (are.0 ∙ sym is)) up.0, above_in key r rows is are.1 up.1)

rise_in : (key : List ℕ) (rows : List RowValue) → AreIn key rows → IsStrictlySortedBy inner_place_cmp rows → ByPath rows
unfolding IsStrictlySortedBy
rise_in key [] are up = tt
rise_in key (r ∷ rows) are up = (above_in key r rows are.0 are.1 up.0, rise_in key rows are.1 up.1)

all_members : {X : Type 0} (P : X → Type 0) (xs : List X) → ((x : X) → Member xs x → P x) → AllByRecursion P xs
all_members P [] h = tt
all_members P (x ∷ xs) h = (h x (inl refl), all_members P xs (λ y m. h y (inr m)))

pub one_by_path : (first : RowValue) (rest : List RowValue) → have_subspaces (first ∷ rest) ≡ false → IsStrictlySortedBy inner_place_cmp (first ∷ rest) → ByPath (first ∷ rest)
one_by_path first rest one rise =
    let each : (row : RowValue) → Member rest row → row.entry.subspace ≡ first.entry.subspace =
    λ row m. (bytes_decides row.entry.subspace first.entry.subspace).0 (holds (same_bytes row.entry.subspace first.entry.subspace) (false_of_any (λ r. not (same_bytes r.entry.subspace first.entry.subspace)) rest one row m)) in
    rise_in first.entry.subspace (first ∷ rest) (refl, all_members (λ row. row.entry.subspace ≡ first.entry.subspace) rest each) rise

-- ---- three paths

rise_at : (rows : List RowValue) (i j : ℕ) (d : RowValue) → ByPath rows → i < j → j < length rows → path_cmp (get_or rows i d).entry.path (get_or rows j d).entry.path ≡ Less
unfolding IsStrictlySortedBy
rise_at [] i j d h lt within = absurd (omega (arith, within))
rise_at (r ∷ rows) zero zero d h lt within = absurd (omega (arith, lt))
rise_at (r ∷ rows) zero (suc j) d h lt within = behind_first (λ s. path_cmp r.entry.path s.entry.path ≡ Less) rows j d h.0 (omega (arith, within))
rise_at (r ∷ rows) (suc i) zero d h lt within = absurd (omega (arith, lt))
rise_at (r ∷ rows) (suc i) (suc j) d h lt within = rise_at rows i j d h.1 (omega (arith, lt)) (omega (arith, within))

module _ {A : Type 0} (cmp : A → A → Ordering) (order : IsTotalOrder cmp) where
  greater : (low x : A) → cmp low x ≡ Less → is_gt (cmp x low) ≡ true
  greater low x h = ap is_gt (order.antisymm x low ∙ ap ordering_reverse h)

  three_rise : (low a b c : A) → cmp low a ≡ Less → cmp a b ≡ Less → cmp b c ≡ Less → distinct_above cmp low (a ∷ b ∷ c ∷ []) ≡ a ∷ b ∷ c ∷ []
  unfolding distinct_above
  three_rise low a b c h k l =
      let last : distinct_above cmp b (c ∷ []) ≡ c ∷ [] = ap (λ t. cond t (c ∷ []) []) (greater b c l) in
      let two : distinct_above cmp a (b ∷ c ∷ []) ≡ b ∷ c ∷ [] = ap (λ t. cond t (b ∷ distinct_above cmp b (c ∷ [])) (distinct_above cmp a (c ∷ []))) (greater a b k) ∙ ap (λ xs. b ∷ xs) last in
      ap (λ t. cond t (a ∷ distinct_above cmp a (b ∷ c ∷ [])) (distinct_above cmp low (b ∷ c ∷ []))) (greater low a h) ∙ ap (λ xs. a ∷ xs) two

path_at : (rows : List RowValue) (k : ℕ) (d : RowValue) → get_or (paths_of rows) k d.entry.path ≡ (get_or rows k d).entry.path
path_at [] k d = refl
path_at (r ∷ rows) zero d = refl
path_at (r ∷ rows) (suc k) d = path_at rows k d

-- the place of the row before which n quarters of the rows stand
abbrev pub place : ℕ → List RowValue → ℕ
place n rows = (n * length rows) / 4

abbrev pub path_by : ℕ → RowValue → List RowValue → List (List ℕ)
path_by n d rows = (get_or rows (place n rows) d).entry.path

module _ (first : RowValue) (rest : List RowValue) (h : ByPath (first ∷ rest)) (many : 16 < length (first ∷ rest)) where
  abbrev rows : List RowValue
  rows = first ∷ rest

  quarter_is : (n : ℕ) → quarter n first.entry.path (paths_of (first ∷ rest)) ≡ path_by n first (first ∷ rest)
  quarter_is n = ap (λ len. get_or (paths_of (first ∷ rest)) ((n * len) / 4) first.entry.path) (length-map (first ∷ rest) (λ row. row.entry.path)) ∙ path_at (first ∷ rest) (place n (first ∷ rest)) first

  pub three_paths : path_points (first ∷ rest) ≡ by_path (path_by 1 first (first ∷ rest) ∷ path_by 2 first (first ∷ rest) ∷ path_by 3 first (first ∷ rest) ∷ [])
  unfolding cuts_of
  three_paths =
      let all = first ∷ rest in
      let low = first.entry.path in
      let a = path_by 1 first all in
      let b = path_by 2 first all in
      let c = path_by 3 first all in
      let at : quarters low (paths_of all) ≡ a ∷ b ∷ c ∷ [] =
      ap₂ (λ x ys. x ∷ ys) (quarter_is 1) (ap₂ (λ x ys. x ∷ ys) (quarter_is 2) (ap (λ x. x ∷ []) (quarter_is 3))) in
      let up_a : path_cmp low a ≡ Less = rise_at all 0 (place 1 all) first h (omega (arith, many)) (omega (arith, many)) in
      let up_b : path_cmp a b ≡ Less = rise_at all (place 1 all) (place 2 all) first h (omega (arith, many)) (omega (arith, many)) in
      let up_c : path_cmp b c ≡ Less = rise_at all (place 2 all) (place 3 all) first h (omega (arith, many)) (omega (arith, many)) in
      let more = Rattle.std.proofs.Common.take 1 (distinct_above path_cmp low (paths_of all)) in
      ap (λ ps. by_path (cuts_of path_cmp ps)) (sorted_itself path_cmp path_cmp_total (paths_of all) (paths_rise all h))
      ∙ ap (λ xs. by_path (or_others (distinct_above path_cmp low xs) more)) at
      ∙ ap (λ xs. by_path (or_others xs more)) (three_rise path_cmp path_cmp_total low a b c up_a up_b up_c)

  pub paths_are_even : 2 * load (path_points (first ∷ rest)) (first ∷ rest) ≤ length (first ∷ rest)
  unfolding part_sizes
  paths_are_even =
      let all = first ∷ rest in
      let cut : ℕ → CutAt = λ n. Path (path_by n first all) in
      let k1 = place 1 all in
      let k2 = place 2 all in
      let k3 = place 3 all in
      let one = cut_behind all first h 0 k1 (cut 2 ∷ cut 3 ∷ []) (omega arith) (omega (arith, many)) in
      let two = cut_behind all first h k1 k2 (cut 3 ∷ []) (omega (arith, many)) (omega (arith, many)) in
      let three = cut_behind all first h k2 k3 [] (omega (arith, many)) (omega (arith, many)) in
      let sizes : part_sizes (cut 1 ∷ cut 2 ∷ cut 3 ∷ []) all ≡ (k1 - 0) ∷ (k2 - k1) ∷ (k3 - k2) ∷ length (drop k3 all) ∷ [] =
      one ∙ ap (λ l. (k1 - 0) ∷ l) (two ∙ ap (λ l. (k2 - k1) ∷ l) three) in
      let most : load (path_points all) all ≡ greatest ((k1 - 0) ∷ (k2 - k1) ∷ (k3 - k2) ∷ length (drop k3 all) ∷ []) =
      ap (λ points. load points all) three_paths ∙ ap greatest sizes in
      omega (arith, most, length-drop k3 all, many)

-- rows of one subspace are cut at the paths of the rows at the quarters
pub paths_told : (rows : List RowValue) → have_subspaces rows ≡ false → IsStrictlySortedBy inner_place_cmp rows → 16 < length rows → (a b c : RowValue)
    → slice_get rows (place 1 rows) ≡ Some a → slice_get rows (place 2 rows) ≡ Some b → slice_get rows (place 3 rows) ≡ Some c
    → cuts_at (even_points rows) ≡ Path a.entry.path ∷ Path b.entry.path ∷ Path c.entry.path ∷ []
paths_told [] one rise many a b c is_a is_b is_c = absurd (omega (arith, many))
paths_told (first ∷ rest) one rise many a b c is_a is_b is_c =
    let rows = first ∷ rest in
    let h = one_by_path first rest one rise in
    let base : base_points rows ≡ path_points rows = ap (λ t. cond t (subspace_points rows) (path_points rows)) one in
    let even = base_is_even rows (omega (arith, many)) (subst (λ p. 2 * load p rows ≤ length rows) (sym base) (paths_are_even first rest h many)) in
    let at : (n : ℕ) (r : RowValue) → slice_get rows (place n rows) ≡ Some r → path_by n first rows ≡ r.entry.path =
    λ n r e. ap (λ (x : RowValue). x.entry.path) (get_or_from_slice_get rows (place n rows) r first e) in
    ap cuts_at (even ∙ base ∙ three_paths first rest h many)
    ∙ ap₂ (λ x ys. Path x ∷ ys) (at 1 a is_a) (ap₂ (λ x ys. Path x ∷ ys) (at 2 b is_b) (ap (λ x. Path x ∷ []) (at 3 c is_c)))
