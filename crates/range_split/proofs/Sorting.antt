-- Values that are sorted, and where rising values are cut.
use Rattle.std.proofs.Common.{◌≡◌, inl, inr, ℕ, suc, ◌*◌, ◌/◌, ◌<◌, ◌≤◌, Bool, true, false, cond, List, [], ◌∷◌, length, get_or, take, refl, sym, ap, ◌∙◌, subst, Ordering, Less, is_gt, arith}
use Rattle.std.proofs.Math.Nat.{mul-le-mul_right}
use Rattle.std.specs.Cmp.{IsTotalOrder}
use Rattle.std.specs.List.{AllByRecursion}
use Rattle.std.specs.Ordering.{ordering_reverse}
use Rattle.std.proofs.lemmas.Bool.{false≢true}
use Rattle.std.proofs.lemmas.Cmp.{upto, tied_itself}
use Rattle.std.proofs.lemmas.List.Elements.{Contains-get_or}
use Rattle.willow_entry.proofs.Members.{Member, member_from_contains}
use Rattle.willow_entry.proofs.Ranks.{greater_from_test}
use Rattle.range_split.specs.Quarters.{put, sorted, distinct_above, quarters, or_others, cuts_of, cuts_among}

-- no value is above one behind it
abbrev pub Rises : {A : Type 0} → (A → A → Ordering) → List A → Type 0
Rises cmp [] = Unit {0}
Rises cmp (x ∷ xs) = AllByRecursion (λ y. is_gt (cmp x y) ≡ false) xs × Rises cmp xs

-- each value is above the one before it, the first above a low one
abbrev pub StepUp : {A : Type 0} → (A → A → Ordering) → A → List A → Type 0
StepUp cmp low [] = Unit {0}
StepUp cmp low (x ∷ xs) = (cmp low x ≡ Less) × StepUp cmp x xs

module _ {A : Type 0} (cmp : A → A → Ordering) (order : IsTotalOrder cmp) where
  -- ---- sorting

  put_all : (P : A → Type 0) (x : A) (ys : List A) → P x → AllByRecursion P ys → AllByRecursion P (put cmp x ys)
  unfolding put
  put_all P x [] p all = (p, tt)
  put_all P x (y ∷ ys) p all = by_test (is_gt (cmp x y)) (put_all P x ys p all.1)
    where
      by_test : (b : Bool) → AllByRecursion P (put cmp x ys) → AllByRecursion P (cond b (y ∷ put cmp x ys) (x ∷ y ∷ ys))
      by_test true rest = (all.0, rest)
      by_test false rest = (p, all)

  -- what is above another is not below it
  not_above : (x y : A) → is_gt (cmp x y) ≡ true → is_gt (cmp y x) ≡ false
  not_above x y h = ap is_gt (order.antisymm y x ∙ ap ordering_reverse (greater_from_test (cmp x y) h))

  all_from : (x y : A) (zs : List A) → is_gt (cmp x y) ≡ false → AllByRecursion (λ z. is_gt (cmp y z) ≡ false) zs → AllByRecursion (λ z. is_gt (cmp x z) ≡ false) zs
  all_from x y [] h all = tt
  all_from x y (z ∷ zs) h all = (upto order x y z h all.0, all_from x y zs h all.1)

  put_rises : (x : A) (ys : List A) → Rises cmp ys → Rises cmp (put cmp x ys)
  unfolding put
  put_rises x [] h = (tt, tt)
  put_rises x (y ∷ ys) h = by_test (is_gt (cmp x y)) refl (put_rises x ys h.1)
    where
      by_test : (b : Bool) → is_gt (cmp x y) ≡ b → Rises cmp (put cmp x ys) → Rises cmp (cond b (y ∷ put cmp x ys) (x ∷ y ∷ ys))
      by_test true e rest = (put_all (λ z. is_gt (cmp y z) ≡ false) x ys (not_above x y e) h.0, rest)
      by_test false e rest = ((e, all_from x y ys e h.0), h)

  pub sorted_rises : (xs : List A) → Rises cmp (sorted cmp xs)
  unfolding sorted
  sorted_rises [] = tt
  sorted_rises (x ∷ xs) = put_rises x (sorted cmp xs) (sorted_rises xs)

  put_first : (x : A) (ys : List A) → AllByRecursion (λ y. is_gt (cmp x y) ≡ false) ys → put cmp x ys ≡ x ∷ ys
  unfolding put
  put_first x [] h = refl
  put_first x (y ∷ ys) h = ap (λ b. cond b (y ∷ put cmp x ys) (x ∷ y ∷ ys)) h.0

  -- what rises already stays as it is
  pub sorted_itself : (xs : List A) → Rises cmp xs → sorted cmp xs ≡ xs
  unfolding sorted
  sorted_itself [] h = refl
  sorted_itself (x ∷ xs) h = ap (put cmp x) (sorted_itself xs h.1) ∙ put_first x xs h.0

  put_member : (x : A) (ys : List A) (z : A) → Member (put cmp x ys) z → Member (x ∷ ys) z
  unfolding put
  put_member x [] z m = m
  put_member x (y ∷ ys) z m = by_test (is_gt (cmp x y)) m (put_member x ys z)
    where
      moved : Member (x ∷ ys) z → Member (x ∷ y ∷ ys) z
      moved (inl e) = inl e
      moved (inr k) = inr (inr k)

      passed : Member (y ∷ put cmp x ys) z → (Member (put cmp x ys) z → Member (x ∷ ys) z) → Member (x ∷ y ∷ ys) z
      passed (inl e) later = inr (inl e)
      passed (inr k) later = moved (later k)

      by_test : (b : Bool) → Member (cond b (y ∷ put cmp x ys) (x ∷ y ∷ ys)) z → (Member (put cmp x ys) z → Member (x ∷ ys) z) → Member (x ∷ y ∷ ys) z
      by_test true k later = passed k later
      by_test false k later = k

  member_put : (x : A) (ys : List A) (z : A) → Member (x ∷ ys) z → Member (put cmp x ys) z
  unfolding put
  member_put x [] z m = m
  member_put x (y ∷ ys) z m = by_test (is_gt (cmp x y)) m (member_put x ys z)
    where
      passed : Member (x ∷ y ∷ ys) z → (Member (x ∷ ys) z → Member (put cmp x ys) z) → Member (y ∷ put cmp x ys) z
      passed (inl e) later = inr (later (inl e))
      passed (inr (inl e)) later = inl e
      passed (inr (inr k)) later = inr (later (inr k))

      by_test : (b : Bool) → Member (x ∷ y ∷ ys) z → (Member (x ∷ ys) z → Member (put cmp x ys) z) → Member (cond b (y ∷ put cmp x ys) (x ∷ y ∷ ys)) z
      by_test true k later = passed k later
      by_test false k later = k

  pub sorted_member : (xs : List A) (z : A) → Member (sorted cmp xs) z → Member xs z
  unfolding sorted
  sorted_member [] z m = m
  sorted_member (x ∷ xs) z m = behind (sorted_member xs z) (put_member x (sorted cmp xs) z m)
    where
      behind : (Member (sorted cmp xs) z → Member xs z) → Member (x ∷ sorted cmp xs) z → Member (x ∷ xs) z
      behind later (inl e) = inl e
      behind later (inr k) = inr (later k)

  pub member_sorted : (xs : List A) (z : A) → Member xs z → Member (sorted cmp xs) z
  unfolding sorted
  member_sorted [] z m = m
  member_sorted (x ∷ xs) z (inl e) = member_put x (sorted cmp xs) z (inl e)
  member_sorted (x ∷ xs) z (inr m) = member_put x (sorted cmp xs) z (inr (member_sorted xs z m))

  put_length : (x : A) (ys : List A) → length (put cmp x ys) ≡ suc (length ys)
  unfolding put
  put_length x [] = refl
  put_length x (y ∷ ys) = by_test (is_gt (cmp x y)) (put_length x ys)
    where
      by_test : (b : Bool) → length (put cmp x ys) ≡ suc (length ys) → length (cond b (y ∷ put cmp x ys) (x ∷ y ∷ ys)) ≡ suc (suc (length ys))
      by_test true e = ap suc e
      by_test false e = refl

  pub sorted_length : (xs : List A) → length (sorted cmp xs) ≡ length xs
  unfolding sorted
  sorted_length [] = refl
  sorted_length (x ∷ xs) = put_length x (sorted cmp xs) ∙ ap suc (sorted_length xs)

  -- ---- distinct values

  below_low : (x low : A) → is_gt (cmp x low) ≡ true → cmp low x ≡ Less
  below_low x low h = order.antisymm low x ∙ ap ordering_reverse (greater_from_test (cmp x low) h)

  distinct_steps : (low : A) (xs : List A) → StepUp cmp low (distinct_above cmp low xs)
  unfolding distinct_above
  distinct_steps low [] = tt
  distinct_steps low (x ∷ xs) = by_test (is_gt (cmp x low)) refl (distinct_steps x xs) (distinct_steps low xs)
    where
      by_test : (b : Bool) → is_gt (cmp x low) ≡ b → StepUp cmp x (distinct_above cmp x xs) → StepUp cmp low (distinct_above cmp low xs) → StepUp cmp low (cond b (x ∷ distinct_above cmp x xs) (distinct_above cmp low xs))
      by_test true e higher same = (below_low x low e, higher)
      by_test false e higher same = same

  distinct_member : (low : A) (xs : List A) (z : A) → Member (distinct_above cmp low xs) z → Member xs z
  unfolding distinct_above
  distinct_member low [] z m = m
  distinct_member low (x ∷ xs) z m = by_test (is_gt (cmp x low)) (distinct_member x xs z) (distinct_member low xs z) m
    where
      behind : (Member (distinct_above cmp x xs) z → Member xs z) → Member (x ∷ distinct_above cmp x xs) z → Member (x ∷ xs) z
      behind later (inl e) = inl e
      behind later (inr k) = inr (later k)

      by_test : (b : Bool) → (Member (distinct_above cmp x xs) z → Member xs z) → (Member (distinct_above cmp low xs) z → Member xs z)
          → Member (cond b (x ∷ distinct_above cmp x xs) (distinct_above cmp low xs)) z → Member (x ∷ xs) z
      by_test true higher same k = behind higher k
      by_test false higher same k = inr (same k)

  distinct_length : (low : A) (xs : List A) → length (distinct_above cmp low xs) ≤ length xs
  unfolding distinct_above
  distinct_length low [] = omega arith
  distinct_length low (x ∷ xs) = by_test (is_gt (cmp x low)) (distinct_length x xs) (distinct_length low xs)
    where
      by_test : (b : Bool) → length (distinct_above cmp x xs) ≤ length xs → length (distinct_above cmp low xs) ≤ length xs → length (cond b (x ∷ distinct_above cmp x xs) (distinct_above cmp low xs)) ≤ length (x ∷ xs)
      by_test true h k = omega arith
      by_test false h k = omega arith

  -- where some value is above the low one, there are some
  distinct_some : (low : A) (xs : List A) (z : A) → Member xs z → is_gt (cmp z low) ≡ true → 1 ≤ length (distinct_above cmp low xs)
  unfolding distinct_above
  distinct_some low [] z m h = absurd m
  distinct_some low (x ∷ xs) z m h = by_test (is_gt (cmp x low)) refl m (λ k. distinct_some low xs z k h)
    where
      behind : is_gt (cmp x low) ≡ false → Member (x ∷ xs) z → (Member xs z → 1 ≤ length (distinct_above cmp low xs)) → 1 ≤ length (distinct_above cmp low xs)
      behind e (inl same) later = absurd (false≢true (sym e ∙ ap (λ y. is_gt (cmp y low)) same ∙ h))
      behind e (inr k) later = later k

      by_test : (b : Bool) → is_gt (cmp x low) ≡ b → Member (x ∷ xs) z → (Member xs z → 1 ≤ length (distinct_above cmp low xs)) → 1 ≤ length (cond b (x ∷ distinct_above cmp x xs) (distinct_above cmp low xs))
      by_test true e k later = omega arith
      by_test false e k later = behind e k later

  -- ---- cuts

  -- DimensionPoints that step up from the least of some values, of which each is one of them.
  pub record AreCuts (values points : List A) : Type 0 where
    pub low : A
    pub there : Member values low
    pub up : StepUp cmp low points
    pub members : (z : A) → Member points z → Member values z
    pub few : length points ≤ 3

  at_quarter : (n : ℕ) (other : A) (values : List A) → n ≤ 3 → 0 < length values → Member values (get_or values ((n * length values) / 4) other)
  at_quarter n other values h some =
      let rest : n * length values ≤ 3 * length values = mul-le-mul_right (length values) h in
      member_from_contains values (get_or values ((n * length values) / 4) other) (Contains-get_or values ((n * length values) / 4) other (omega (arith, rest)))

  quarter_member : (low : A) (values : List A) (z : A) → 0 < length values → Member (quarters low values) z → Member values z
  quarter_member low values z some (inl e) = subst (Member values) e (at_quarter 1 low values (omega arith) some)
  quarter_member low values z some (inr (inl e)) = subst (Member values) e (at_quarter 2 low values (omega arith) some)
  quarter_member low values z some (inr (inr (inl e))) = subst (Member values) e (at_quarter 3 low values (omega arith) some)
  quarter_member low values z some (inr (inr (inr m))) = absurd m

  -- the points of a list that is not empty, or else the first of another
  first_of_both : (low : A) (points others values : List A) → Member values low → StepUp cmp low points → StepUp cmp low others → length points ≤ 3
      → ((z : A) → Member points z → Member values z) → ((z : A) → Member others z → Member values z) → AreCuts values (or_others points (take 1 others))
  first_of_both low [] [] values there up over few m k = record { low = low; there = there; up = tt; members = λ z h. absurd h; few = omega arith }
  first_of_both low [] (y ∷ ys) values there up over few m k = record { low = low; there = there; up = (over.0, tt); members = λ z h. k z (only z h); few = omega arith }
    where
      only : (z : A) → Member (y ∷ []) z → Member (y ∷ ys) z
      only z (inl e) = inl e
      only z (inr h) = absurd h
  first_of_both low (x ∷ xs) others values there up over few m k = record { low = low; there = there; up = up; members = m; few = few }

  cuts_of_rising : (values : List A) → 0 < length values → AreCuts values (cuts_of cmp values)
  unfolding cuts_of
  cuts_of_rising [] some = absurd (omega arith)
  cuts_of_rising (low ∷ values) some =
      let all = low ∷ values in
      let at = quarters low all in
      first_of_both low (distinct_above cmp low at) (distinct_above cmp low all) all (inl refl) (distinct_steps low at) (distinct_steps low all)
      (distinct_length low at)
      (λ z m. quarter_member low all z some (distinct_member low at z m)) (distinct_member low all)

  pub cuts_are : (values : List A) → 0 < length values → AreCuts values (cuts_among cmp values)
  cuts_are values some =
      let s = sorted cmp values in
      let c = cuts_of_rising s (omega (arith, some, sorted_length values)) in
      record { low = c.low; there = sorted_member values c.low c.there; up = c.up; members = λ z m. sorted_member values z (c.members z m); few = c.few }

  some_of_both : (points others : List A) → 1 ≤ length others → 1 ≤ length (or_others points (take 1 others))
  some_of_both [] [] h = h
  some_of_both [] (y ∷ ys) h = omega arith
  some_of_both (x ∷ xs) others h = omega arith

  rises_head : (low : A) (values : List A) (z : A) → AllByRecursion (λ y. is_gt (cmp low y) ≡ false) values → Member (low ∷ values) z → is_gt (cmp low z) ≡ false
  rises_head low values z all (inl e) = ap (λ y. is_gt (cmp low y)) (sym e) ∙ ap is_gt (tied_itself order low)
  rises_head low [] z all (inr m) = absurd m
  rises_head low (y ∷ ys) z all (inr (inl e)) = ap (λ x. is_gt (cmp low x)) (sym e) ∙ all.0
  rises_head low (y ∷ ys) z all (inr (inr m)) = rises_head low ys z all.1 (inr m)

  above_low : (low x y : A) → is_gt (cmp low x) ≡ false → cmp x y ≡ Less → is_gt (cmp y low) ≡ true
  above_low low x y h k = by_test (is_gt (cmp y low)) refl
    where
      -- else y is at most low, which is at most x, and x is not above itself
      by_test : (b : Bool) → is_gt (cmp y low) ≡ b → b ≡ true
      by_test true e = refl
      by_test false e = absurd (false≢true (sym (upto order y low x e h) ∙ ap is_gt (order.antisymm y x ∙ ap ordering_reverse k)))

  rising_some : (values : List A) (x y : A) → Rises cmp values → Member values x → Member values y → cmp x y ≡ Less → 1 ≤ length (cuts_of cmp values)
  unfolding cuts_of
  rising_some [] x y rise m k h = absurd m
  rising_some (low ∷ values) x y rise m k h =
      some_of_both (distinct_above cmp low (quarters low (low ∷ values))) (distinct_above cmp low (low ∷ values))
      (distinct_some low (low ∷ values) y k (above_low low x y (rises_head low values x rise.0 m) h))

  -- where one value is below another there is a point
  pub cuts_some : (values : List A) (x y : A) → Member values x → Member values y → cmp x y ≡ Less → 1 ≤ length (cuts_among cmp values)
  cuts_some values x y m k h = rising_some (sorted cmp values) x y (sorted_rises values) (member_sorted values x m) (member_sorted values y k) h
