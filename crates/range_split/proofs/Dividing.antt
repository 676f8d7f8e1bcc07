-- A box that is cut at points which step up between its rows has rows in each part.
use Rattle.std.proofs.Common.{◌≡◌, ◌↔◌, inl, inr, ℕ, suc, ◌+◌, ◌≤◌, Bool, true, false, not, cond, List, [], ◌∷◌, length, map, Some, None, IsTrue, refl, sym, ap, ◌∙◌, subst, Ordering, Less, is_lt, arith}
use Rattle.std.specs.Prelude.{count_by, option_map}
use Rattle.std.specs.Cmp.{IsTotalOrder}
use Rattle.std.specs.List.{AllByRecursion}
use Rattle.std.specs.Ordering.{ordering_reverse}
use Rattle.std.proofs.lemmas.Bool.{false≢true, not_from_false}
use Rattle.std.proofs.lemmas.Cmp.{tied_itself}
use Rattle.std.proofs.lemmas.List.Sums.{sum_by-cons}
use Rattle.willow_area.specs.Boxes.{Ranges}
use Rattle.willow_area.specs.Cuts.{can_cut, lower_part, upper_part, is_below}
use Rattle.willow_area.specs.declared.cut.CutAt.{CutAt}
use Rattle.willow_area.proofs.Cutting.{lower_part_has, upper_part_has}
use Rattle.willow_entry.specs.Row.{RowValue}
use Rattle.willow_entry.proofs.Members.{Member, member_filter, filter_member}
use Rattle.block_store.specs.InBox.{is_in, rows_in}
use Rattle.range_split.specs.Sides.{StandsAt, is_row_below}
use Rattle.range_split.specs.Parts.{cut_all}
use Rattle.range_split.proofs.Parting.{can_cut_between}
use Rattle.range_split.proofs.Shares.{lower_rows, upper_rows}
use Rattle.range_split.proofs.Sorting.{StepUp}

-- 1 where a test passes
abbrev pub one_if : Bool → ℕ
one_if b = cond b 1 0

-- of a box that is cut in two, a row is in one part exactly where it is in the box
pub split_counts : (area : Ranges) (at : CutAt) (row : RowValue) → IsTrue (can_cut area at) → one_if (is_in (lower_part area at) row) + one_if (is_in (upper_part area at) row) ≡ one_if (is_in area row)
split_counts area at row can =
    counted (is_in (lower_part area at) row) (is_in (upper_part area at) row) (is_in area row) (is_below at row.entry.subspace row.entry.path row.entry.timestamp)
    (lower_part_has area at can row.entry.subspace row.entry.path row.entry.timestamp)
    (upper_part_has area at can row.entry.subspace row.entry.path row.entry.timestamp)
  where
    counted : (low up all below : Bool) → (IsTrue low ↔ (IsTrue all × IsTrue below)) → (IsTrue up ↔ (IsTrue all × (below ≡ false))) → one_if low + one_if up ≡ one_if all
    counted true true all below l u = absurd (false≢true (sym ((u.0 refl).1) ∙ (l.0 refl).1))
    counted true false true below l u = refl
    counted true false false below l u = absurd (false≢true ((l.0 refl).0))
    counted false true true below l u = refl
    counted false true false below l u = absurd (false≢true ((u.0 refl).0))
    counted false false false below l u = refl
    counted false false true true l u = absurd (false≢true (l.1 (refl, refl)))
    counted false false true false l u = absurd (false≢true (u.1 (refl, refl)))

-- the parts of a box at some points: each has a row, and a row of the box is in just one of them
pub record HasParts (area : Ranges) (rows : List RowValue) (ats : List CutAt) : Type 0 where
  pub parts : List Ranges
  pub cut : cut_all area ats ≡ Some parts
  pub number : length parts ≡ suc (length ats)
  pub own : AllByRecursion (λ part. 1 ≤ length (rows_in part rows)) parts
  pub one : (row : RowValue) → count_by (λ part. is_in part row) parts ≡ one_if (is_in area row)

some_there : {X : Type 0} (xs : List X) (x : X) → Member xs x → 1 ≤ length xs
some_there [] x m = absurd m
some_there (y ∷ xs) x m = omega arith

whole : (area : Ranges) (rows : List RowValue) (row : RowValue) → Member (rows_in area rows) row → HasParts area rows []
whole area rows row m = record {
  parts = area ∷ [];
  cut = refl;
  number = refl;
  own = (some_there (rows_in area rows) row m, tt);
  one = λ r. omega (arith, sum_by-cons (λ part. cond (is_in part r) 1 0) area []);
}

cut_more : (area : Ranges) (rows : List RowValue) (at : CutAt) (ats : List CutAt) → IsTrue (can_cut area at) → 1 ≤ length (rows_in (lower_part area at) rows) → HasParts (upper_part area at) rows ats → HasParts area rows (at ∷ ats)
cut_more area rows at ats can low h = record {
  parts = lower_part area at ∷ h.parts;
  cut = ap (λ b. cond b (option_map (λ ps. lower_part area at ∷ ps) (cut_all (upper_part area at) ats)) None) can ∙ ap (option_map (λ ps. lower_part area at ∷ ps)) h.cut;
  number = ap suc h.number;
  own = (low, h.own);
  one = λ r. omega (arith, h.one r, split_counts area at r can, sum_by-cons (λ part. cond (is_in part r) 1 0) (lower_part area at) h.parts);
}

-- a dimension: its order, its cuts, and the value of a row in it
pub record IsDimension {A : Type 0} (cmp : A → A → Ordering) (cut : A → CutAt) (value : RowValue → A) : Type 0 where
  pub order : IsTotalOrder cmp
  pub below : (p : A) (row : RowValue) → is_row_below (cut p) row ≡ is_lt (cmp (value row) p)
  pub stands : (p : A) (row : RowValue) → value row ≡ p → StandsAt (cut p) row

module _ {A : Type 0} (cmp : A → A → Ordering) (cut : A → CutAt) (value : RowValue → A) (d : IsDimension cmp cut value) where
  not_below_itself : (p : A) (row : RowValue) → value row ≡ p → is_row_below (cut p) row ≡ false
  not_below_itself p row e = d.below p row ∙ ap (λ v. is_lt (cmp v p)) e ∙ ap is_lt (tied_itself d.order p)

  -- points that step up are above what they step up from
  step_above : (low : A) (points : List A) (z : A) → StepUp cmp low points → Member points z → cmp low z ≡ Less
  step_above low [] z up m = absurd m
  step_above low (p ∷ ps) z up (inl e) = ap (cmp low) (sym e) ∙ up.0
  step_above low (p ∷ ps) z up (inr m) = d.order.trans low p z up.0 (step_above p ps z up.1 m)

  not_below_higher : (p z : A) (row : RowValue) → cmp p z ≡ Less → value row ≡ z → is_row_below (cut p) row ≡ false
  not_below_higher p z row h e = d.below p row ∙ ap (λ v. is_lt (cmp v p)) e ∙ ap is_lt (d.order.antisymm z p ∙ ap ordering_reverse h)

  -- a row stands at each of the points
  abbrev pub HaveRows : List RowValue → List A → Type 0
  HaveRows rows points = (z : A) → Member points z → (row : RowValue) × Member rows row × (value row ≡ z)

  pub divided : (area : Ranges) (rows : List RowValue) (low : RowValue) (points : List A) → Member (rows_in area rows) low → StepUp cmp (value low) points → HaveRows (rows_in area rows) points → HasParts area rows (map cut points)
  divided area rows low [] m up have = whole area rows low m
  divided area rows low (p ∷ ps) m up have =
      let held = rows_in area rows in
      let at = cut p in
      let here = have p (inl refl) in
      let row = here.0 in
      let low_in = filter_member (is_in area) rows low m in
      let row_in = filter_member (is_in area) rows row here.1 in
      let below : is_row_below at low ≡ true = d.below p low ∙ ap is_lt up.0 in
      let can : can_cut area at ≡ true = can_cut_between area at low row low_in.1 below row_in.1 (d.stands p row here.2) in
      let lower : 1 ≤ length (rows_in (lower_part area at) rows) =
      subst (λ l. 1 ≤ length l) (sym (lower_rows area rows at can)) (some_there _ low (member_filter (is_row_below at) held low m below)) in
      let stays : (r : RowValue) → Member held r → is_row_below at r ≡ false → Member (rows_in (upper_part area at) rows) r =
      λ r k e. subst (λ l. Member l r) (sym (upper_rows area rows at can)) (member_filter (λ s. not (is_row_below at s)) held r k (not_from_false (is_row_below at r) e)) in
      let next : StepUp cmp (value row) ps = subst (λ v. StepUp cmp v ps) (sym here.2) up.1 in
      let rest : HaveRows (rows_in (upper_part area at) rows) ps =
      λ z k. let found = have z (inr k) in (found.0, stays found.0 found.1 (not_below_higher p z found.0 (step_above p ps z up.1 k) found.2), found.2) in
      cut_more area rows at (map cut ps) can lower (divided (upper_part area at) rows row ps (stays row here.1 (not_below_itself p row here.2)) next rest)
