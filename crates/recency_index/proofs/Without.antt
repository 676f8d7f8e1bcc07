-- Items of which some are left out, one after the other.
use Rattle.std.proofs.Common.{◌≡◌, inl, inr, ℕ, zero, suc, ◌<◌, List, [], ◌∷◌, ◌++◌, ◌&&◌, ◌||◌, Bool, true, false, cond, not, filter, length, get_or, take, refl, sym, ap, ◌∙◌, Equal, arith}
use Rattle.std.specs.List.{IsDistinct}
use Rattle.std.specs.Cmp.{Equal-is, both_ways}
use Rattle.std.specs.Ordering.{is_eq, eq_by_cmp}
use Rattle.std.proofs.Math.Bool.{or-false}
use Rattle.std.proofs.lemmas.Cmp.{tied_itself}
use Rattle.std.proofs.lemmas.List.Folds.{list_any-append}
use Rattle.willow_entry.proofs.Members.{Member}
use Rattle.willow_entry.proofs.Rising.{all_member}
use Rattle.willow_entry.proofs.Ranks.{subspace_path_total}
use Rattle.recency_index.specs.declared.ranked.Ranked.{Ranked}
use Rattle.recency_index.specs.Recency.{recency_cmp, is_at, is_among, without, without_at}
use Rattle.recency_index.specs.Orders.{place_cmp}
use Rattle.recency_index.proofs.Order.{recency_total, recency_tie}

module _ {X : Type 0} where
  pub filter_all : (p : X → Bool) (xs : List X) → ((x : X) → Member xs x → p x ≡ true) → filter p xs ≡ xs
  filter_all p [] h = refl
  filter_all p (x ∷ xs) h = rw (h x (inl refl)) (ap (λ l. x ∷ l) (filter_all p xs (λ y m. h y (inr m))))

  -- a filter goes by what its test says of the items
  filter_alike : (p q : X → Bool) (xs : List X) → ((x : X) → Member xs x → p x ≡ q x) → filter p xs ≡ filter q xs
  filter_alike p q [] h = refl
  filter_alike p q (x ∷ xs) h = ap (λ b. cond b (x ∷ filter p xs) (filter p xs)) (h x (inl refl)) ∙ ap (λ l. cond (q x) (x ∷ l) l) (filter_alike p q xs (λ y m. h y (inr m)))

  filter_twice : (p q r : X → Bool) → ((x : X) → r x ≡ (q x && p x)) → (xs : List X) → filter p (filter q xs) ≡ filter r xs
  filter_twice p q r same [] = refl
  filter_twice p q r same (x ∷ xs) =
      let P : Bool → Type 0 = λ b. filter p (cond b (x ∷ filter q xs) (filter q xs)) ≡ cond (b && p x) (x ∷ filter r xs) (filter r xs) in
      let each : (b : Bool) → P b = elim [
        | true ↦ ap (λ l. cond (p x) (x ∷ l) l) (filter_twice p q r same xs)
        | false ↦ filter_twice p q r same xs
      ] in
      each (q x) ∙ sym (ap (λ b. cond b (x ∷ filter r xs) (filter r xs)) (same x))

not_either : (a b : Bool) → not (a || b) ≡ (not a && not b)
not_either true b = refl
not_either false b = refl

pub without_more : (gone : List Ranked) (x : Ranked) (ys : List Ranked) → without (x ∷ []) (without gone ys) ≡ without (gone ++ x ∷ []) ys
without_more gone x ys = filter_twice (λ item. not (is_among (x ∷ []) item)) (λ item. not (is_among gone item)) (λ item. not (is_among (gone ++ x ∷ []) item))
    (λ item. ap not (list_any-append (λ g. is_eq (recency_cmp g item)) gone (x ∷ [])) ∙ not_either (is_among gone item) (is_among (x ∷ []) item)) ys

pub without_none : (ys : List Ranked) → ys ≡ without [] ys
without_none ys = sym (filter_all (λ item. true) ys (λ y m. refl))

-- where two items at one place are one, to leave out what is at the place of an item is to leave out the item
pub without_one : (x : Ranked) (ys : List Ranked) → ((y : Ranked) → Member ys y → place_cmp y x ≡ Equal → y ≡ x) → without_at x.subspace x.path ys ≡ without (x ∷ []) ys
without_one x ys one = filter_alike (λ item. not (is_at x.subspace x.path item)) (λ item. not (is_among (x ∷ []) item)) ys (λ y m.
    ap not (both_ways (is_at x.subspace x.path y) (is_eq (recency_cmp x y))
    (λ at. let same = one y m ((Equal-is (place_cmp y x)).0 at) in (Equal-is (recency_cmp x y)).1 (ap (recency_cmp x) same ∙ tied_itself recency_total x))
    (λ is. let same = recency_tie x y ((Equal-is (recency_cmp x y)).0 is) in (Equal-is (place_cmp y x)).1 (ap (λ z. place_cmp z x) (sym same) ∙ tied_itself subspace_path_total (x.subspace, x.path)))
    ∙ sym (or-false (is_eq (recency_cmp x y)))))

member_at : (xs : List Ranked) (i : ℕ) (x : Ranked) → i < length xs → x ≡ get_or xs i x → Member xs x
member_at [] i x within is = absurd (omega arith)
member_at (y ∷ xs) zero x within is = inl (sym is)
member_at (y ∷ xs) (suc i) x within is = inr (member_at xs i x (omega arith) is)

-- of distinct items, one is not among those before it
pub not_before : (xs : List Ranked) (i : ℕ) (x : Ranked) → IsDistinct (eq_by_cmp recency_cmp) xs → i < length xs → x ≡ get_or xs i x → is_among (take i xs) x ≡ false
unfolding IsDistinct
not_before [] i x distinct within is = absurd (omega arith)
not_before (y ∷ xs) zero x distinct within is = refl
not_before (y ∷ xs) (suc i) x distinct within is =
    let here : eq_by_cmp recency_cmp y x ≡ false = all_member recency_cmp (λ z. eq_by_cmp recency_cmp y z ≡ false) xs distinct.0 x (member_at xs i x (omega arith) is) in
    ap (λ b. b || is_among (take i xs) x) here ∙ not_before xs i x distinct.1 (omega arith) is
