-- DimensionPoints that are found one by one, and the parts and loads that are found with them.
use Rattle.std.proofs.Common.{◌≡◌, ℕ, ◌+◌, ◌*◌, ◌/◌, ◌<◌, ◌≤◌, Bool, true, false, cond, List, [], ◌∷◌, ◌++◌, length, map, get_or, slice_get, take, drop, Option, Some, None, refl, sym, ap, ap₂, ◌∙◌, append_assoc, subst, Ordering, is_gt, nat_cmp, arith}
use Rattle.std.specs.Prelude.{IsSome, option_map}
use Rattle.std.proofs.lemmas.Bool.{false≢true, and_from}
use Rattle.std.proofs.lemmas.List.{drop_all, drop_more, map-append}
use Rattle.std.proofs.lemmas.Option.{get_or_from_slice_get, slice_get-get_or, slice_get_within}
use Rattle.willow_area.specs.Boxes.{Ranges}
use Rattle.willow_area.specs.Cuts.{can_cut, lower_part, upper_part}
use Rattle.willow_area.specs.declared.cut.CutAt.{CutAt}
use Rattle.range_split.specs.Parts.{cut_all}
use Rattle.range_split.specs.Quarters.{next_low, distinct_above, or_others, cuts_of}
use Rattle.range_split.proofs.Evenly.{distinct_next}

-- ---- one value more

pub distinct_taken : {A : Type 0} (cmp : A → A → Ordering) (low x : A) → is_gt (cmp x low) ≡ true → distinct_above cmp low (x ∷ []) ≡ x ∷ []
unfolding distinct_above
distinct_taken cmp low x e = ap (λ b. cond b (x ∷ []) []) e

pub distinct_left : {A : Type 0} (cmp : A → A → Ordering) (low x : A) → is_gt (cmp x low) ≡ false → distinct_above cmp low (x ∷ []) ≡ []
unfolding distinct_above
distinct_left cmp low x e = ap (λ b. cond b (x ∷ []) []) e

pub distinct_skips : {A : Type 0} (cmp : A → A → Ordering) (low x : A) (xs : List A) → is_gt (cmp x low) ≡ false → distinct_above cmp low (x ∷ xs) ≡ distinct_above cmp low xs
unfolding distinct_above
distinct_skips cmp low x xs e = ap (λ b. cond b (x ∷ distinct_above cmp x xs) (distinct_above cmp low xs)) e

pub distinct_first : {A : Type 0} (cmp : A → A → Ordering) (low x : A) (xs : List A) → is_gt (cmp x low) ≡ true → take 1 (distinct_above cmp low (x ∷ xs)) ≡ x ∷ []
unfolding distinct_above
distinct_first cmp low x xs e = ap (λ b. take 1 (cond b (x ∷ distinct_above cmp x xs) (distinct_above cmp low xs))) e

pub none_above : {A : Type 0} (cmp : A → A → Ordering) (low : A) → distinct_above cmp low [] ≡ []
unfolding distinct_above
none_above cmp low = refl

pub assembled : {A B : Type 0} (cmp : A → A → Ordering) (make : A → B) (low a b c : A)
    → map make (distinct_above cmp low (a ∷ b ∷ c ∷ [])) ≡ (map make (distinct_above cmp low (a ∷ [])) ++ map make (distinct_above cmp (next_low cmp low a) (b ∷ []))) ++ map make (distinct_above cmp (next_low cmp (next_low cmp low a) b) (c ∷ []))
assembled cmp make low a b c =
    let one = next_low cmp low a in
    let two = next_low cmp one b in
    let xs = distinct_above cmp low (a ∷ []) in
    let ys = distinct_above cmp one (b ∷ []) in
    let zs = distinct_above cmp two (c ∷ []) in
    ap (map make) (distinct_next cmp low a (b ∷ c ∷ []) ∙ ap (λ l. xs ++ l) (distinct_next cmp one b (c ∷ [])))
    ∙ map-append make xs (ys ++ zs) ∙ ap (λ l. map make xs ++ l) (map-append make ys zs) ∙ sym (append_assoc (map make xs) (map make ys) (map make zs))

pub time_above : (low time : ℕ) → low < time → is_gt (nat_cmp time low) ≡ true
time_above low time h = grind (arith, Rattle.std.proofs.lemmas.Bool.Decides.nat_tests)

pub time_not_above : (low time : ℕ) → time ≤ low → is_gt (nat_cmp time low) ≡ false
time_not_above low time h = grind (arith, Rattle.std.proofs.lemmas.Bool.Decides.nat_tests)

-- ---- fronts of a list

-- one is dropped
pub drop_one : {X : Type 0} (xs : List X) (i : ℕ) (x : X) → slice_get xs i ≡ Some x → drop i xs ≡ x ∷ drop (i + 1) xs
drop_one xs i x h = drop_more xs i x (slice_get_within xs i x h) ∙ ap (λ y. y ∷ drop (i + 1) xs) (get_or_from_slice_get xs i x x h)

-- ---- parts

pub can_step : (area rest : Ranges) (parts : List Ranges) (points : List CutAt) (i : ℕ) (at : CutAt) → slice_get points i ≡ Some at
    → cut_all area points ≡ option_map (λ ps. parts ++ ps) (cut_all rest (drop i points)) → IsSome (cut_all area points) → can_cut rest at ≡ true
can_step area rest parts points i at there e some =
    by_test (can_cut rest at) (subst IsSome (e ∙ ap (λ l. option_map (λ ps. parts ++ ps) (cut_all rest l)) (drop_one points i at there)) some)
  where
    by_test : (b : Bool) → IsSome (option_map (λ ps. parts ++ ps) (cond b (option_map (λ ps. lower_part rest at ∷ ps) (cut_all (upper_part rest at) (drop (i + 1) points))) None)) → b ≡ true
    by_test true h = refl
    by_test false h = absurd (false≢true h)

regroup : (parts : List Ranges) (low : Ranges) (o : Option (List Ranges)) → option_map (λ ps. parts ++ ps) (option_map (λ ps. low ∷ ps) o) ≡ option_map (λ ps. (parts ++ low ∷ []) ++ ps) o
regroup parts low None = refl
regroup parts low (Some ps) = ap (λ (l : List Ranges). Some l) (sym (append_assoc parts (low ∷ []) ps))

pub cut_on : (area rest : Ranges) (parts : List Ranges) (points : List CutAt) (i : ℕ) (at : CutAt) → slice_get points i ≡ Some at → can_cut rest at ≡ true
    → cut_all area points ≡ option_map (λ ps. parts ++ ps) (cut_all rest (drop i points))
    → cut_all area points ≡ option_map (λ ps. (parts ++ lower_part rest at ∷ []) ++ ps) (cut_all (upper_part rest at) (drop (i + 1) points))
cut_on area rest parts points i at there can e =
    let later = cut_all (upper_part rest at) (drop (i + 1) points) in
    e ∙ ap (λ l. option_map (λ ps. parts ++ ps) (cut_all rest l)) (drop_one points i at there)
    ∙ ap (λ b. option_map (λ ps. parts ++ ps) (cond b (option_map (λ ps. lower_part rest at ∷ ps) later) None)) can
    ∙ regroup parts (lower_part rest at) later

pub cut_end : (area rest : Ranges) (parts : List Ranges) (points : List CutAt) (i : ℕ) → length points ≤ i
    → cut_all area points ≡ option_map (λ ps. parts ++ ps) (cut_all rest (drop i points)) → cut_all area points ≡ Some (parts ++ rest ∷ [])
cut_end area rest parts points i past e = e ∙ ap (λ l. option_map (λ ps. parts ++ ps) (cut_all rest l)) (drop_all i points past)

pub nothing_cut : (o : Option (List Ranges)) → o ≡ option_map (λ ps. [] ++ ps) o
nothing_cut None = refl
nothing_cut (Some ps) = refl

-- ---- three values one by one

pub pushed : {A B : Type 0} (cmp : A → A → Ordering) (make : A → B) (low a b c one two : A) (p0 p1 p2 p3 : List B)
    → p0 ≡ [] → p1 ≡ p0 ++ map make (distinct_above cmp low (a ∷ [])) → one ≡ next_low cmp low a
    → p2 ≡ p1 ++ map make (distinct_above cmp one (b ∷ [])) → two ≡ next_low cmp one b
    → p3 ≡ p2 ++ map make (distinct_above cmp two (c ∷ []))
    → p3 ≡ map make (distinct_above cmp low (a ∷ b ∷ c ∷ []))
pushed cmp make low a b c one two p0 p1 p2 p3 none first is_one second is_two third =
    let front : p1 ≡ map make (distinct_above cmp low (a ∷ [])) = first ∙ ap (λ l. l ++ map make (distinct_above cmp low (a ∷ []))) none in
    let low_two : two ≡ next_low cmp (next_low cmp low a) b = is_two ∙ ap (λ x. next_low cmp x b) is_one in
    third
    ∙ ap₂ (λ l x. l ++ map make (distinct_above cmp x (c ∷ []))) (second ∙ ap₂ (λ l x. l ++ map make (distinct_above cmp x (b ∷ []))) front is_one) low_two
    ∙ sym (assembled cmp make low a b c)

pub cuts_of_none : (times : List ℕ) → length times ≤ 0 → cuts_of nat_cmp times ≡ []
unfolding cuts_of
cuts_of_none [] h = refl
cuts_of_none (x ∷ xs) h = absurd (omega (arith, h))

any_default : (xs : List ℕ) (i : ℕ) (d e : ℕ) → i < length xs → get_or xs i d ≡ get_or xs i e
any_default xs i d e lt = get_or_from_slice_get xs i (get_or xs i e) d (slice_get-get_or xs i e lt)

-- times that rise are cut at those at the quarters
pub times_told : (times : List ℕ) → 0 < length times
    → cuts_of nat_cmp times
    ≡ or_others (distinct_above nat_cmp (get_or times 0 0) (get_or times (length times / 4) 0 ∷ get_or times ((2 * length times) / 4) 0 ∷ get_or times ((3 * length times) / 4) 0 ∷ []))
    (take 1 (distinct_above nat_cmp (get_or times 0 0) times))
unfolding cuts_of
times_told [] some = absurd (omega (arith, some))
times_told (low ∷ rest) some =
    let times = low ∷ rest in
    let n = length times in
    let one : (1 * n) / 4 ≡ n / 4 = omega arith in
    let two : (2 * n) / 4 < n = omega arith in
    let three : (3 * n) / 4 < n = omega arith in
    ap₂ (λ x ys. or_others (distinct_above nat_cmp low (x ∷ ys)) (take 1 (distinct_above nat_cmp low times)))
    (ap (λ k. get_or times k low) one ∙ any_default times (n / 4) low 0 (omega arith))
    (ap₂ (λ x y. x ∷ y ∷ []) (any_default times ((2 * n) / 4) low 0 two) (any_default times ((3 * n) / 4) low 0 three))
