-- The rules of numbers meet what the laws ask.
use Rattle.std.proofs.Common.{◌≡◌, ℕ, zero, suc, ◌/◌, ◌≤◌, ◌<◌, Bool, true, false, ◌&&◌, cond, ltb, leb, List, [], ◌∷◌, length, get_or, filter, count_by, Contains, None, Some, refl, sym, subst, arith}
use Rattle.std.specs.List.{AllByRecursion, list_all}
use Rattle.std.specs.Cmp.Lexicographic.{bytes_decides}
use Rattle.std.proofs.lemmas.Bool.{and_parts, and_from, cond-true, eqb-true, eq-eqb, leb-true, leb-false, ltb-true, le-leb, lt-ltb}
use Rattle.std.proofs.lemmas.Bool.Decides.{nat_tests}
use Rattle.std.proofs.lemmas.List.Sums.{length-filter, AllPass-from_list_all, list_all-from_AllPass}
use Rattle.std.proofs.lemmas.List.Elements.{All-filter, All-get_or, All-contains_itself, filter_passes}
use Rattle.exchange_rules.specs.Rules.{box_rows}
use Rattle.exchange_rules.specs.Items.{Ask, Print, Sent}
use Rattle.exchange_rules.specs.Exchange.{asked, enough, first_asks, IsApart, Apart}
use Rattle.exchange_rules.specs.Premises.{boxes_with, IsDeciding, HasDisjointParts, DividesRows, CanCut, CanSend}
use Rattle.exchange_rules.specs.Numbers.{Range, range_has, is_rising, halves, of_numbers}
use Rattle.exchange_rules.proofs.Members.{contains_counted}

pub numbers_decide : (few : ℕ) → IsDeciding (of_numbers few)
numbers_decide few = record { rows = λ n m. (eqb-true n m, eq-eqb n m); prints = bytes_decides }

-- below a number and from it on, each number of the range stands once, and no other
once_within : (start end n r : ℕ) → cond (ltb start n && ltb n end)
    (count_by (λ x. range_has x r) (record { start = start; end = n } ∷ record { start = n; end = end } ∷ [])) 0 ≤ cond (leb start r && ltb r end) 1 0
once_within start end n r = grind (arith, nat_tests)

count_if : {A : Type 0} (p : A → Bool) (b : Bool) (xs : List A) → count_by p (cond b xs []) ≡ cond b (count_by p xs) 0
count_if p true xs = refl
count_if p false xs = refl

pub numbers_disjoint : (few : ℕ) → HasDisjointParts (of_numbers few)
numbers_disjoint few x n r =
    let both : List Range = record { start = x.start; end = n } ∷ record { start = n; end = x.end } ∷ [] in
    omega (arith, count_if (λ y. range_has y r) (ltb x.start n && ltb n x.end) both, once_within x.start x.end n r)

each_once : (start end n r : ℕ) → start < n → n < end
    → cond (leb start r && ltb r end) 1 0 ≤ count_by (λ x. range_has x r) (record { start = start; end = n } ∷ record { start = n; end = end } ∷ [])
each_once start end n r h k = grind (arith, nat_tests)

-- ---- rising numbers

rising_kept : (kept : ℕ → Bool) (ns : List ℕ) → is_rising ns ≡ true → is_rising (filter kept ns) ≡ true
rising_kept kept [] h = refl
rising_kept kept (n ∷ ns) h =
    let parts = and_parts (list_all (ltb n) ns) (is_rising ns) h in
    let rest = rising_kept kept ns parts.1 in
    let above = list_all-from_AllPass (ltb n) (filter kept ns) (All-filter kept (λ m. ltb n m ≡ true) ns (AllPass-from_list_all (ltb n) ns parts.0)) in
    let P : Bool → Type 0 = λ b. is_rising (cond b (n ∷ filter kept ns) (filter kept ns)) ≡ true in
    let both : (b : Bool) → P b = elim [ true ↦ and_from (list_all (ltb n) (filter kept ns)) (is_rising (filter kept ns)) above rest | false ↦ rest ] in
    both (kept n)

first_below : (ns : List ℕ) → is_rising ns ≡ true → (k : ℕ) → 0 < k → k < length ns → get_or ns 0 0 < get_or ns k 0
first_below [] h k pos below = absurd (omega arith)
first_below (n ∷ ns) h zero pos below = absurd (omega arith)
first_below (n ∷ ns) h (suc k) pos below =
    let parts = and_parts (list_all (ltb n) ns) (is_rising ns) h in
    ltb-true n (get_or ns k 0) (AllPass-from_list_all (ltb n) ns parts.0 k 0 (omega arith))

-- where a middle is chosen there are more than two
chosen : (b : Bool) (n cut : ℕ) → cond b None (Some n) ≡ Some cut → (b ≡ false) × (n ≡ cut)
chosen true n cut e = absurd cc
chosen false n cut e = (refl, cc)

module _ (few : ℕ) (l : List ℕ) (rises : is_rising l ≡ true) where
  pub numbers_can_send : CanSend (of_numbers few) l
  numbers_can_send x kept =
      let rows = filter kept (filter (range_has x) l) in
      and_from (list_all (range_has x) rows) (is_rising rows)
      (list_all-from_AllPass (range_has x) rows (All-filter kept (λ n. range_has x n ≡ true) (filter (range_has x) l) (filter_passes (range_has x) l)))
      (rising_kept kept (filter (range_has x) l) (rising_kept (range_has x) l rises))

  has_own : (x y : Range) (k : ℕ) → k < length (filter (range_has x) l) → range_has y (get_or (filter (range_has x) l) k 0) ≡ true → 1 ≤ length (filter (range_has y) l)
  has_own x y k below e =
      let stands = All-get_or (Contains l) (filter (range_has x) l) k 0 below (All-filter (range_has x) (Contains l) l (All-contains_itself l)) in
      omega (arith, length-filter (range_has y) l, contains_counted (range_has y) l (get_or (filter (range_has x) l) k 0) e stands)

  within : (x : Range) (k : ℕ) → k < length (filter (range_has x) l) → (x.start ≤ get_or (filter (range_has x) l) k 0) × (get_or (filter (range_has x) l) k 0 < x.end)
  within x k below =
      let n = get_or (filter (range_has x) l) k 0 in
      let parts = and_parts (leb x.start n) (ltb n x.end) (filter_passes (range_has x) l k 0 below) in
      (leb-true x.start n parts.0, ltb-true n x.end parts.1)

  two_halves : (x : Range) (n : ℕ) → x.start < n → n < x.end → halves x n ≡ record { start = x.start; end = n } ∷ record { start = n; end = x.end } ∷ []
  two_halves x n h k =
      cond-true (ltb x.start n && ltb n x.end) (record { start = x.start; end = n } ∷ record { start = n; end = x.end } ∷ []) []
      (and_from (ltb x.start n) (ltb n x.end) (lt-ltb x.start n h) (lt-ltb n x.end k))

  -- the first number of a range is below the cut, and the cut is a number of it
  cut_at : (x : Range) (k : ℕ) → 0 < k → k < length (filter (range_has x) l) → DividesRows (of_numbers few) l x (get_or (filter (range_has x) l) k 0)
  cut_at x k pos below =
      let ns = filter (range_has x) l in
      let n = get_or ns k 0 in
      let less = first_below ns (rising_kept (range_has x) l rises) k pos below in
      let lower : Range = record { start = x.start; end = n } in
      let upper : Range = record { start = n; end = x.end } in
      let low : 0 < length ns = omega arith in
      let first = within x 0 low in
      let here = within x k below in
      let in_lower = and_from (leb x.start (get_or ns 0 0)) (ltb (get_or ns 0 0) n) (le-leb x.start (get_or ns 0 0) first.0) (lt-ltb (get_or ns 0 0) n less) in
      let in_upper = and_from (leb n n) (ltb n x.end) (le-leb n n (omega arith)) (lt-ltb n x.end here.1) in
      let e = two_halves x n (omega (arith, first.0, less)) here.1 in
      record {
        several = subst (λ ys. 2 ≤ length ys) (sym e) (omega arith);
        own = subst (AllByRecursion (λ y. 1 ≤ length (box_rows (of_numbers few) y l))) (sym e) (has_own x lower 0 low in_lower, (has_own x upper k below in_upper, tt));
        covers = λ r. subst (λ ys. cond (range_has x r) 1 0 ≤ boxes_with (of_numbers few) r ys) (sym e) (each_once x.start x.end n r (omega (arith, first.0, less)) here.1);
      }

  pub numbers_can_cut : 0 < few → CanCut (of_numbers few) l
  numbers_can_cut some x cut is =
      let ns = filter (range_has x) l in
      let c = chosen (leb (length ns) few) (get_or ns (length ns / 2) 0) cut is in
      let many = leb-false (length ns) few c.0 in
      subst (DividesRows (of_numbers few) l x) c.1 (cut_at x (length ns / 2) (omega arith) (omega arith))

-- the fingerprints of numbers tell all apart
pub numbers_apart : (few : ℕ) (a b : List ℕ) (x : Range) → Apart (of_numbers few) a b x
numbers_apart few a b x = each_apart (asked (of_numbers few) (enough (of_numbers few) a b x) b a (first_asks (of_numbers few) a x))
  where
    each_apart : (asks : List (Ask ℕ Range)) → AllByRecursion (IsApart (of_numbers few) a b) asks
    each_apart [] = tt
    each_apart (Print y print ∷ asks) = ((λ e. e), each_apart asks)
    each_apart (Sent y sent ∷ asks) = (tt, each_apart asks)
