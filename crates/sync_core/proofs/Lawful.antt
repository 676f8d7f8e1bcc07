-- The rules of each version meet what the laws of an exchange ask.
use Rattle.std.proofs.Common.{◌≡◌, ℕ, ◌/◌, ◌≤◌, Bool, true, false, cond, List, [], ◌∷◌, length, filter, get_or, is_gt, Option, Some, None, IsTrue, All, refl, sym, ap, ◌∙◌, subst, arith}
use Rattle.std.specs.List.{AllByRecursion, list_all}
use Rattle.std.specs.List.Sorted.{IsStrictlySortedBy}
use Rattle.std.specs.Ordering.{is_lt}
use Rattle.std.specs.Prelude.{option_map, unwrap_or, nat_eq}
use Rattle.std.specs.Option.{option_map_or}
use Rattle.std.specs.Cmp.Lexicographic.{bytes_decides}
use Rattle.std.proofs.lemmas.Bool.{and_from, and_parts}
use Rattle.std.proofs.lemmas.Option.{same_Some}
use Rattle.std.proofs.lemmas.List.Sums.{sum_by-cons}
use Rattle.std.proofs.lemmas.List.Kept.{IsStrictlySortedBy-filter}
use Rattle.willow_area.specs.Boxes.{Ranges}
use Rattle.willow_area.specs.Cuts.{can_cut, lower_part, upper_part}
use Rattle.willow_area.specs.declared.cut.CutAt.{CutAt}
use Rattle.willow_area.specs.declared.cut.CutAt.TheVariants.{Subspace, Path}
use Rattle.willow_entry.specs.Row.{RowValue, inner_place_cmp}
use Rattle.willow_entry.proofs.RowLaws.{same_row_decides}
use Rattle.block_store.specs.InBox.{is_in, rows_in}
use Rattle.willow_entry.specs.Entry.{bytes_cmp}
use Rattle.range_split.specs.Points.{DimensionPoints, by_subspace, by_path, cuts_at}
use Rattle.range_split.specs.Least.{least_above}
use Rattle.range_split.specs.Choice.{choice, points_of, subspaces_of}
use Rattle.range_split.specs.Quarters.{even_choice}
use Rattle.range_split.specs.Parts.{Divides, cut_all, parts_at}
use Rattle.range_split.specs.Sides.{LeavesRows}
use Rattle.range_split.proofs.Choosing.{are_many}
use Rattle.range_split.proofs.Parting.{all_leave_rows}
use Rattle.range_split.proofs.Dividing.{one_if, split_counts}
use Rattle.range_split.proofs.Quartering.{even_divides}
use Rattle.sync_msg.specs.Items.{HasPoint}
use Rattle.exchange_rules.specs.Premises.{IsDeciding, HasDisjointParts, DividesRows, CanCut, CanSend, boxes_with}
use Rattle.sync_core.specs.SyncRules.{choice_in, is_rising, sync_rules}

-- ---- equality

pub deciding : (version : ℕ) → IsDeciding (sync_rules version)
deciding version = record { rows = same_row_decides; prints = bytes_decides }

-- ---- parts

abbrev boxes_of : ℕ → RowValue → Option (List Ranges) → ℕ
boxes_of version row parts = boxes_with (sync_rules version) row (unwrap_or parts [])

cut_counts : (version : ℕ) (area : Ranges) (ats : List CutAt) (row : RowValue) → boxes_of version row (cut_all area ats) ≤ one_if (is_in area row)
cut_counts version area [] row = omega (arith, sum_by-cons (λ x. cond (is_in x row) 1 0) area [])
cut_counts version area (at ∷ ats) row = by_test (can_cut area at) refl (cut_counts version (upper_part area at) ats row)
  where
    rest : (parts : Option (List Ranges)) → IsTrue (can_cut area at) → boxes_of version row parts ≤ one_if (is_in (upper_part area at) row) → boxes_of version row (option_map (λ ps. lower_part area at ∷ ps) parts) ≤ one_if (is_in area row)
    rest None can h = omega arith
    rest (Some parts) can h = omega (arith, h, split_counts area at row can, sum_by-cons (λ x. cond (is_in x row) 1 0) (lower_part area at) parts)

    by_test : (b : Bool) → can_cut area at ≡ b → boxes_of version row (cut_all (upper_part area at) ats) ≤ one_if (is_in (upper_part area at) row) → boxes_of version row (cond b (option_map (λ ps. lower_part area at ∷ ps) (cut_all (upper_part area at) ats)) None) ≤ one_if (is_in area row)
    by_test true can above = rest (cut_all (upper_part area at) ats) can above
    by_test false can above = omega arith

pub disjoint : (version : ℕ) → HasDisjointParts (sync_rules version)
disjoint version area ats row = cut_counts version area ats row

-- ---- the chosen cut

-- the cuts are those at some points
record AreCutsAt (o : Option DimensionPoints) (ats : List CutAt) : Type 0 where
  points : DimensionPoints
  chosen : o ≡ Some points
  cuts : cuts_at points ≡ ats

cuts_of : (o : Option DimensionPoints) (ats : List CutAt) → option_map cuts_at o ≡ Some ats → AreCutsAt o ats
cuts_of None ats h = absurd cc
cuts_of (Some points) ats h = record { points = points; chosen = refl; cuts = same_Some (cuts_at points) ats h }

-- ---- in version 1

-- where a box is cut at one point inside, its parts are those below it and above it
pub one_cut : (area : Ranges) (at : CutAt) → IsTrue (can_cut area at) → parts_at area (at ∷ []) ≡ lower_part area at ∷ upper_part area at ∷ []
one_cut area at can = ap (λ b. unwrap_or (cond b (Some (lower_part area at ∷ upper_part area at ∷ [])) None) []) can

-- a choice is a cut at one point, which is a subspace or a path
pub record HasOnePoint (ats : List CutAt) : Type 0 where
  pub point : CutAt
  pub alone : ats ≡ point ∷ []
  pub told : HasPoint point

abbrev points_by : Bool → Option (List ℕ) → List ℕ → List (List ℕ) → DimensionPoints
points_by above least key path = cond above (by_subspace (key ∷ [])) (option_map_or (λ k. by_subspace (k ∷ [])) least (by_path (path ∷ [])))

one_point_by : (above : Bool) (least : Option (List ℕ)) (key : List ℕ) (path : List (List ℕ)) → HasOnePoint (cuts_at (points_by above least key path))
one_point_by true least key path = record { point = Subspace key; alone = refl; told = tt }
one_point_by false None key path = record { point = Path path; alone = refl; told = tt }
one_point_by false (Some k) key path = record { point = Subspace k; alone = refl; told = tt }

one_point_of : (first middle : RowValue) (rows : List RowValue) → HasOnePoint (cuts_at (points_of first middle rows))
one_point_of first middle rows =
    one_point_by (is_gt (bytes_cmp middle.entry.subspace first.entry.subspace)) (least_above first.entry.subspace (subspaces_of rows)) middle.entry.subspace middle.entry.path

one_point : (rows : List RowValue) (points : DimensionPoints) → choice rows ≡ Some points → HasOnePoint (cuts_at points)
one_point rows points e =
    let m = are_many rows points e in
    let P : DimensionPoints → Type 0 = λ p. HasOnePoint (cuts_at p) in
    subst P m.parted (one_point_of m.first (get_or rows (length rows / 2) m.first) rows)

-- the cut that is chosen for the rows of a box: at one point, which leaves rows on both sides
pub record CutsInside (rows : List RowValue) (area : Ranges) (ats : List CutAt) : Type 0 where
  pub point : CutAt
  pub alone : ats ≡ point ∷ []
  pub told : HasPoint point
  pub leaves : LeavesRows area rows point

pub cuts_inside : (rows : List RowValue) → IsStrictlySortedBy inner_place_cmp rows → (area : Ranges) (ats : List CutAt) → option_map cuts_at (choice (rows_in area rows)) ≡ Some ats → CutsInside rows area ats
cuts_inside rows rise area ats e =
    let c = cuts_of (choice (rows_in area rows)) ats e in
    let one = one_point (rows_in area rows) c.points c.chosen in
    let leaves : All (LeavesRows area rows) (one.point ∷ []) = subst (λ l. All (LeavesRows area rows) l) one.alone (all_leave_rows area rows c.points rise c.chosen) in
    record { point = one.point; alone = sym c.cuts ∙ one.alone; told = one.told; leaves = leaves 0 one.point (omega arith) }

one_divides : (rows : List RowValue) (area : Ranges) (at : CutAt) → LeavesRows area rows at → Divides area rows (at ∷ [])
one_divides rows area at leaves = record {
  parts = lower_part area at ∷ upper_part area at ∷ [];
  cut = ap (λ b. cond b (Some (lower_part area at ∷ upper_part area at ∷ [])) None) leaves.inside;
  several = omega arith;
  few = omega arith;
  own = (leaves.some_below, (leaves.some_above, tt));
  one = λ r. omega (arith, split_counts area at r leaves.inside, sum_by-cons (λ x. cond (is_in x r) 1 0) (lower_part area at) (upper_part area at ∷ []), sum_by-cons (λ x. cond (is_in x r) 1 0) (upper_part area at) []);
}

-- ---- in each version

-- the cuts of version 2 divide the rows of the box
pub even_cuts_divide : (rows : List RowValue) → IsStrictlySortedBy inner_place_cmp rows → (area : Ranges) (ats : List CutAt) → option_map cuts_at (even_choice (rows_in area rows)) ≡ Some ats → Divides area rows ats
even_cuts_divide rows rise area ats e =
    let c = cuts_of (even_choice (rows_in area rows)) ats e in
    subst (λ l. Divides area rows l) c.cuts (even_divides rows rise area c.points c.chosen)

-- whatever the version, the chosen cuts divide the rows of the box
cuts_divide : (version : ℕ) (rows : List RowValue) → IsStrictlySortedBy inner_place_cmp rows → (area : Ranges) (ats : List CutAt) → option_map cuts_at (choice_in version (rows_in area rows)) ≡ Some ats → Divides area rows ats
cuts_divide version rows rise area ats e = by_version (nat_eq version 1) e
  where
    by_version : (b : Bool) → option_map cuts_at (cond b (choice (rows_in area rows)) (even_choice (rows_in area rows))) ≡ Some ats → Divides area rows ats
    by_version true h =
        let c = cuts_inside rows rise area ats h in
        subst (λ l. Divides area rows l) (sym c.alone) (one_divides rows area c.point c.leaves)
    by_version false h = even_cuts_divide rows rise area ats h

divides : (version : ℕ) (rows : List RowValue) (area : Ranges) (ats : List CutAt) → Divides area rows ats → DividesRows (sync_rules version) rows area ats
divides version rows area ats d =
    let P : List Ranges → Type 0 = λ parts. (2 ≤ length parts) × AllByRecursion (λ y. 1 ≤ length (rows_in y rows)) parts × ((r : RowValue) → one_if (is_in area r) ≤ boxes_with (sync_rules version) r parts) in
    let all : P (parts_at area ats) = subst P (sym (ap (λ o. unwrap_or o []) d.cut)) (d.several, d.own, λ r. omega (arith, d.one r)) in
    record { several = all.0; own = all.1; covers = all.2 }

pub can_cut_rows : (version : ℕ) (rows : List RowValue) → IsStrictlySortedBy inner_place_cmp rows → CanCut (sync_rules version) rows
can_cut_rows version rows rise area ats e = divides version rows area ats (cuts_divide version rows rise area ats e)

-- ---- what is sent

all_pass : {X : Type 0} (p : X → Bool) (xs : List X) → list_all p (filter p xs) ≡ true
all_pass p [] = refl
all_pass p (x ∷ xs) = by_test (p x) refl (all_pass p xs)
  where
    by_test : (b : Bool) → p x ≡ b → list_all p (filter p xs) ≡ true → list_all p (cond b (x ∷ filter p xs) (filter p xs)) ≡ true
    by_test true e rest = and_from (p x) (list_all p (filter p xs)) e rest
    by_test false e rest = rest

fewer_pass : {X : Type 0} (p q : X → Bool) (xs : List X) → list_all p xs ≡ true → list_all p (filter q xs) ≡ true
fewer_pass p q [] e = refl
fewer_pass p q (x ∷ xs) e =
    let both = and_parts (p x) (list_all p xs) e in
    by_test (q x) both.0 (fewer_pass p q xs both.1)
  where
    by_test : (b : Bool) → p x ≡ true → list_all p (filter q xs) ≡ true → list_all p (cond b (x ∷ filter q xs) (filter q xs)) ≡ true
    by_test true first rest = and_from (p x) (list_all p (filter q xs)) first rest
    by_test false first rest = rest

rising_test : (rows : List RowValue) → IsStrictlySortedBy inner_place_cmp rows → is_rising rows ≡ true
unfolding IsStrictlySortedBy
rising_test [] h = refl
rising_test (r ∷ []) h = refl
rising_test (r ∷ s ∷ rows) h = and_from (is_lt (inner_place_cmp r s)) (is_rising (s ∷ rows)) (ap is_lt h.0.0) (rising_test (s ∷ rows) h.1)

pub can_send : (version : ℕ) (rows : List RowValue) → IsStrictlySortedBy inner_place_cmp rows → CanSend (sync_rules version) rows
can_send version rows rise area kept =
    let held = rows_in area rows in
    and_from (list_all (is_in area) (filter kept held)) (is_rising (filter kept held))
    (fewer_pass (is_in area) kept held (all_pass (is_in area) rows))
    (rising_test (filter kept held) (IsStrictlySortedBy-filter inner_place_cmp kept held (IsStrictlySortedBy-filter inner_place_cmp (is_in area) rows rise)))
