-- A box can be cut at several points exactly where they rise and it can be cut at each of them.
use Rattle.std.proofs.Common.{◌≡◌, ℕ, suc, Bool, true, false, ◌&&◌, cond, List, [], ◌∷◌, ◌≤◌, length, Option, Some, None, refl, sym, ap, ap₂, ◌∙◌, Ordering, is_lt, nat_cmp, arith}
use Rattle.std.specs.Prelude.{is_some, nat_eq, option_map, slice_get}
use Rattle.std.proofs.lemmas.Option.{same_Some}
use Rattle.std.specs.Cmp.{IsTotalOrder}
use Rattle.std.specs.List.{AllByRecursion, list_all}
use Rattle.std.proofs.lemmas.Bool.{and_parts, eqb-true}
use Rattle.std.proofs.lemmas.Cmp.{nat_cmp_total}
use Rattle.std.proofs.Math.Bool.{and-true}
use Rattle.willow_path.specs.Path.{part_cmp, path_cmp}
use Rattle.willow_path.proofs.PathOrder.{part_cmp_total, path_cmp_total}
use Rattle.willow_area.specs.Range.{Range, is_before_end, is_inside, upper}
use Rattle.willow_area.specs.Boxes.{Ranges}
use Rattle.willow_area.specs.Cuts.{can_cut, lower_part, upper_part}
use Rattle.willow_area.specs.declared.cut.CutAt.{CutAt}
use Rattle.willow_area.specs.declared.cut.CutAt.TheVariants.{Subspace, Path, Time}
use Rattle.willow_area.proofs.Orders.{lt_then_lt}
use Rattle.sync_msg.specs.CutPoints.{are_of_one, dimension}
use Rattle.range_split.specs.Parts.{cut_all, is_below_point, are_rising, can_cut_at}

module _ {A : Type 0} (cmp : A → A → Ordering) (order : IsTotalOrder cmp) where
  above_inside : (range : Range A) (at p : A) → is_inside cmp range at ≡ true → is_lt (cmp at p) ≡ true → is_inside cmp (upper range at) p ≡ is_inside cmp range p
  above_inside range at p inside h =
      let start = (and_parts (is_lt (cmp range.start at)) (is_before_end cmp at range.end) inside).0 in
      let up : is_lt (cmp range.start p) ≡ true = lt_then_lt cmp order range.start at p start h in
      ap (λ b. b && is_before_end cmp p range.end) (h ∙ sym up)

  not_inside : (range : Range A) (at p : A) → is_lt (cmp at p) ≡ false → is_inside cmp (upper range at) p ≡ false
  not_inside range at p h = ap (λ b. b && is_before_end cmp p range.end) h

-- above a point at which a box is cut, the upper part can be cut where the box can
can_above : (area : Ranges) (at p : CutAt) → can_cut area at ≡ true → is_below_point at p ≡ true → can_cut (upper_part area at) p ≡ can_cut area p
unfolding can_cut upper_part
can_above area (Subspace key) (Subspace other) can h = above_inside part_cmp part_cmp_total area.keys key other can h
can_above area (Subspace key) (Path other) can h = absurd cc
can_above area (Subspace key) (Time other) can h = absurd cc
can_above area (Path path) (Subspace other) can h = absurd cc
can_above area (Path path) (Path other) can h = above_inside path_cmp path_cmp_total area.paths path other can h
can_above area (Path path) (Time other) can h = absurd cc
can_above area (Time time) (Subspace other) can h = absurd cc
can_above area (Time time) (Path other) can h = absurd cc
can_above area (Time time) (Time other) can h = above_inside nat_cmp nat_cmp_total area.times time other can h

-- at no other point of its dimension
can_not : (area : Ranges) (at p : CutAt) → dimension at ≡ dimension p → is_below_point at p ≡ false → can_cut (upper_part area at) p ≡ false
unfolding can_cut upper_part
can_not area (Subspace key) (Subspace other) same h = not_inside part_cmp part_cmp_total area.keys key other h
can_not area (Subspace key) (Path other) same h = absurd (omega arith)
can_not area (Subspace key) (Time other) same h = absurd (omega arith)
can_not area (Path path) (Subspace other) same h = absurd (omega arith)
can_not area (Path path) (Path other) same h = not_inside path_cmp path_cmp_total area.paths path other h
can_not area (Path path) (Time other) same h = absurd (omega arith)
can_not area (Time time) (Subspace other) same h = absurd (omega arith)
can_not area (Time time) (Path other) same h = absurd (omega arith)
can_not area (Time time) (Time other) same h = not_inside nat_cmp nat_cmp_total area.times time other h

below_then_below : (a b c : CutAt) → is_below_point a b ≡ true → is_below_point b c ≡ true → is_below_point a c ≡ true
below_then_below (Subspace a) (Subspace b) (Subspace c) h k = lt_then_lt part_cmp part_cmp_total a b c h k
below_then_below (Subspace a) (Subspace b) (Path c) h k = absurd cc
below_then_below (Subspace a) (Subspace b) (Time c) h k = absurd cc
below_then_below (Subspace a) (Path b) c h k = absurd cc
below_then_below (Subspace a) (Time b) c h k = absurd cc
below_then_below (Path a) (Path b) (Path c) h k = lt_then_lt path_cmp path_cmp_total a b c h k
below_then_below (Path a) (Path b) (Subspace c) h k = absurd cc
below_then_below (Path a) (Path b) (Time c) h k = absurd cc
below_then_below (Path a) (Subspace b) c h k = absurd cc
below_then_below (Path a) (Time b) c h k = absurd cc
below_then_below (Time a) (Time b) (Time c) h k = lt_then_lt nat_cmp nat_cmp_total a b c h k
below_then_below (Time a) (Time b) (Subspace c) h k = absurd cc
below_then_below (Time a) (Time b) (Path c) h k = absurd cc
below_then_below (Time a) (Subspace b) c h k = absurd cc
below_then_below (Time a) (Path b) c h k = absurd cc

all_above : (area : Ranges) (at next : CutAt) (ats : List CutAt) → can_cut area at ≡ true → is_below_point at next ≡ true → are_rising (next ∷ ats) ≡ true
    → list_all (can_cut (upper_part area at)) (next ∷ ats) ≡ list_all (can_cut area) (next ∷ ats)
all_above area at next [] can h rise = ap (λ b. b && true) (can_above area at next can h)
all_above area at next (other ∷ ats) can h rise =
    let both = and_parts (is_below_point next other) (are_rising (other ∷ ats)) rise in
    ap₂ (λ b c. b && c) (can_above area at next can h) (all_above area at other ats can (below_then_below at next other h both.0) both.1)

no_part : (b : Bool) → b && false ≡ false
no_part true = refl
no_part false = refl

some_map : (low : Ranges) (o : Option (List Ranges)) → is_some (option_map (λ ps. low ∷ ps) o) ≡ is_some o
some_map low None = refl
some_map low (Some ps) = refl

pub cut_test : (d : ℕ) (area : Ranges) (ats : List CutAt) → AllByRecursion (λ p. dimension p ≡ d) ats → is_some (cut_all area ats) ≡ can_cut_at area ats
cut_test d area [] of = refl
cut_test d area (at ∷ []) of = by_test (can_cut area at)
  where
    by_test : (b : Bool) → is_some (cond b (option_map (λ ps. lower_part area at ∷ ps) (cut_all (upper_part area at) [])) None) ≡ (true && (b && true))
    by_test true = refl
    by_test false = refl
cut_test d area (at ∷ next ∷ ats) of =
    by_test (can_cut area at) refl (is_below_point at next) refl (are_rising (next ∷ ats)) refl (cut_test d (upper_part area at) (next ∷ ats) of.1)
  where
    later : Option (List Ranges)
    later = cut_all (upper_part area at) (next ∷ ats)

    others : Bool
    others = list_all (can_cut area) (next ∷ ats)

    by_test : (b : Bool) → can_cut area at ≡ b → (r : Bool) → is_below_point at next ≡ r → (s : Bool) → are_rising (next ∷ ats) ≡ s
        → is_some (cut_all (upper_part area at) (next ∷ ats)) ≡ (are_rising (next ∷ ats) && list_all (can_cut (upper_part area at)) (next ∷ ats))
        → is_some (cond b (option_map (λ ps. lower_part area at ∷ ps) (cut_all (upper_part area at) (next ∷ ats))) None) ≡ ((r && s) && (b && list_all (can_cut area) (next ∷ ats)))
    by_test false e r f s k ih = sym (no_part (r && s))
    by_test true e true f true k ih =
        some_map (lower_part area at) (cut_all (upper_part area at) (next ∷ ats)) ∙ ih ∙ ap₂ (λ x y. x && y) k (all_above area at next ats e f k)
    by_test true e true f false k ih =
        some_map (lower_part area at) (cut_all (upper_part area at) (next ∷ ats)) ∙ ih ∙ ap (λ x. x && list_all (can_cut (upper_part area at)) (next ∷ ats)) k
    by_test true e false f s k ih =
        some_map (lower_part area at) (cut_all (upper_part area at) (next ∷ ats)) ∙ ih
        ∙ ap (λ x. are_rising (next ∷ ats) && (x && list_all (can_cut (upper_part area at)) ats)) (can_not area at next (of.0 ∙ sym of.1.0) f) ∙ no_part (are_rising (next ∷ ats))

-- ---- the test by the points that there are

pub tests_none : (area : Ranges) (points : List CutAt) → length points ≤ 0 → can_cut_at area points ≡ true
tests_none area [] few = refl
tests_none area (at ∷ points) few = absurd (omega (arith, few))

pub tests_one : (area : Ranges) (points : List CutAt) (one : CutAt) → slice_get points 0 ≡ Some one → length points ≤ 1 → can_cut_at area points ≡ can_cut area one
tests_one area [] one e few = absurd cc
tests_one area (at ∷ []) one e few = and-true (can_cut area at) ∙ ap (can_cut area) (same_Some at one e)
tests_one area (at ∷ other ∷ points) one e few = absurd (omega (arith, few))

pub two_points : (points : List CutAt) (one two : CutAt) → slice_get points 0 ≡ Some one → slice_get points 1 ≡ Some two → length points ≤ 2 → points ≡ one ∷ two ∷ []
two_points [] one two e f few = absurd cc
two_points (a ∷ []) one two e f few = absurd cc
two_points (a ∷ b ∷ []) one two e f few = ap₂ (λ x y. x ∷ y ∷ []) (same_Some a one e) (same_Some b two f)
two_points (a ∷ b ∷ c ∷ points) one two e f few = absurd (omega (arith, few))

pub three_points : (points : List CutAt) (one two three : CutAt) → slice_get points 0 ≡ Some one → slice_get points 1 ≡ Some two → slice_get points 2 ≡ Some three → length points ≤ 3 → points ≡ one ∷ two ∷ three ∷ []
three_points [] one two three e f g few = absurd cc
three_points (a ∷ []) one two three e f g few = absurd cc
three_points (a ∷ b ∷ []) one two three e f g few = absurd cc
three_points (a ∷ b ∷ c ∷ []) one two three e f g few = ap₂ (λ x xs. x ∷ xs) (same_Some a one e) (ap₂ (λ x y. x ∷ y ∷ []) (same_Some b two f) (same_Some c three g))
three_points (a ∷ b ∷ c ∷ d ∷ points) one two three e f g few = absurd (omega (arith, few))

-- ---- points of one dimension

each_of : (d : ℕ) (ats : List CutAt) → list_all (λ other. nat_eq (dimension other) d) ats ≡ true → AllByRecursion (λ p. dimension p ≡ d) ats
each_of d [] h = tt
each_of d (at ∷ ats) h =
    let both = and_parts (nat_eq (dimension at) d) (list_all (λ other. nat_eq (dimension other) d) ats) h in
    (eqb-true (dimension at) d both.0, each_of d ats both.1)

-- where the points are of one dimension, the box can be cut at one after the other exactly where the test passes
pub can_cut_test : (area : Ranges) (ats : List CutAt) → are_of_one ats ≡ true → is_some (cut_all area ats) ≡ can_cut_at area ats
can_cut_test area [] h = refl
can_cut_test area (at ∷ ats) h = cut_test (dimension at) area (at ∷ ats) (refl, each_of (dimension at) ats h)

-- ---- the number of parts

-- a box that is cut at some points has one part more
pub parts_number : (area : Ranges) (ats : List CutAt) (parts : List Ranges) → cut_all area ats ≡ Some parts → length parts ≡ suc (length ats)
parts_number area [] parts e = sym (ap length (same_Some (area ∷ []) parts e))
parts_number area (at ∷ ats) parts e = by_test (can_cut area at) (cut_all (upper_part area at) ats) refl e (parts_number (upper_part area at) ats)
  where
    by_test : (b : Bool) (o : Option (List Ranges)) → cut_all (upper_part area at) ats ≡ o → cond b (option_map (λ ps. lower_part area at ∷ ps) o) None ≡ Some parts
        → ((ps : List Ranges) → cut_all (upper_part area at) ats ≡ Some ps → length ps ≡ suc (length ats)) → length parts ≡ suc (suc (length ats))
    by_test true (Some ps) is h later = sym (ap length (same_Some (lower_part area at ∷ ps) parts h)) ∙ ap suc (later ps is)
    by_test true None is h later = absurd cc
    by_test false o is h later = absurd cc
