-- The pairs of slots and values, by the list of the slots.
use Rattle.std.proofs.Common.{◌≡◌, ◌≢◌, ℕ, suc, ◌+◌, ◌<◌, inl, inr, Option, None, Some, arith, refl, ap, sym, ◌∙◌, subst, List, [], ◌∷◌, ◌++◌, length, Contains, Ordering, Less}
use Rattle.std.specs.List.{AllByRecursion}
use Rattle.std.specs.List.Sorted.{IsStrictlySortedBy}
use Rattle.std.proofs.Math.Nat.{eq-zero-or-pos}
use Rattle.std.proofs.lemmas.List.Elements.{Contains-push, Contains-push_cases, Contains-append_left, Contains-append_right, Contains-append_cases}
use Rattle.link_arena.specs.Tree.{Rises, count_of, hit}
use Rattle.link_arena.specs.Arena.{IsOneMore, slots_in}
use Rattle.link_arena.specs.Slots.{slot_cmp}
use Rattle.link_arena.specs.View.{pairs_of, with_pair}
use Rattle.link_arena.proofs.Trees.{hit_same}
use Rattle.link_arena.proofs.Lists.{is_hit}

-- each slot of the list has a value
abbrev pub AreFilled : {T : Type 0} → (ℕ → Option T) → List ℕ → Type 0
AreFilled value xs = (s : ℕ) → 0 < count_of s xs → value s ≢ None

not_in_nothing : {X : Type 0} → (x : X) → Contains [] x → ⊥
not_in_nothing x c = let below : c.0 < 0 = c.1 in omega arith

only_one : {X : Type 0} → (x y : X) → Contains (x ∷ []) y → x ≡ y
only_one x y c = elim (Contains-push_cases [] x y c) [ inl nothing ↦ absurd (not_in_nothing y nothing) | inr e ↦ e ]

module _ {T : Type 0} (value : ℕ → Option T) where
  pub pairs_append : (xs ys : List ℕ) → pairs_of value (xs ++ ys) ≡ pairs_of value xs ++ pairs_of value ys
  pairs_append [] ys = refl
  pairs_append (x ∷ xs) ys =
      let P : Option T → Type 0 = λ o. with_pair x o (pairs_of value (xs ++ ys)) ≡ with_pair x o (pairs_of value xs) ++ pairs_of value ys in
      let each : (o : Option T) → P o = elim [
        | None ↦ pairs_append xs ys
        | Some v ↦ ap (λ rest. (x, v) ∷ rest) (pairs_append xs ys)
      ] in
      each (value x)

  pub pairs_slots : (xs : List ℕ) → AreFilled value xs → slots_in (pairs_of value xs) ≡ xs
  pairs_slots [] filled = refl
  pairs_slots (x ∷ xs) filled =
      let P : Option T → Type 0 = λ o. o ≢ None → slots_in (with_pair x o (pairs_of value xs)) ≡ x ∷ xs in
      let each : (o : Option T) → P o = elim [
        | None ↦ λ some. absurd (some refl)
        | Some v ↦ λ some. ap (λ rest. x ∷ rest) (pairs_slots xs (λ s h. filled s (omega arith)))
      ] in
      each (value x) (filled x (omega (arith, hit_same x)))

  pub pairs_length : (xs : List ℕ) → AreFilled value xs → length (pairs_of value xs) ≡ length xs
  pairs_length [] filled = refl
  pairs_length (x ∷ xs) filled =
      let P : Option T → Type 0 = λ o. o ≢ None → length (with_pair x o (pairs_of value xs)) ≡ length (x ∷ xs) in
      let each : (o : Option T) → P o = elim [
        | None ↦ λ some. absurd (some refl)
        | Some v ↦ λ some. ap suc (pairs_length xs (λ s h. filled s (omega arith)))
      ] in
      each (value x) (filled x (omega (arith, hit_same x)))

  -- a slot of the list stands there with its value
  pub pairs_there : (xs : List ℕ) (s : ℕ) (v : T) → 0 < count_of s xs → value s ≡ Some v → Contains (pairs_of value xs) (s, v)
  pairs_there [] s v h e = absurd (omega arith)
  pairs_there (x ∷ xs) s v h e =
      let P : Option T → Type 0 = λ o. value x ≡ o → Contains (with_pair x o (pairs_of value xs)) (s, v) in
      let each : (o : Option T) → P o = elim [
        | None ↦ λ is. elim (eq-zero-or-pos (hit s x)) [
          | inl none ↦ pairs_there xs s v (omega arith) e
          | inr some ↦ let same : value s ≡ value x = ap value (is_hit s x some) in absurd cc
        ]
        | Some w ↦ λ is. elim (eq-zero-or-pos (hit s x)) [
          | inl none ↦ Contains-append_right ((x, w) ∷ []) (pairs_of value xs) (s, v) (pairs_there xs s v (omega arith) e)
          | inr some ↦
              let here : x ≡ s = sym (is_hit s x some) in
              let own : w ≡ v = let same : value x ≡ value s = ap value here in cc in
              let P : ℕ × T → Type 0 = λ pair. Contains ((x, w) ∷ pairs_of value xs) pair in
              subst P (λ i. (here i, own i)) (Contains-append_left ((x, w) ∷ []) (pairs_of value xs) (x, w) (Contains-push [] (x, w)))
        ]
      ] in
      each (value x) refl

  -- and nothing else does
  pub pairs_hold : (xs : List ℕ) (s : ℕ) (v : T) → Contains (pairs_of value xs) (s, v) → (0 < count_of s xs) × (value s ≡ Some v)
  pairs_hold [] s v c = absurd (not_in_nothing (s, v) c)
  pairs_hold (x ∷ xs) s v c =
      let P : Option T → Type 0 = λ o. value x ≡ o → Contains (with_pair x o (pairs_of value xs)) (s, v) → (0 < count_of s (x ∷ xs)) × (value s ≡ Some v) in
      let each : (o : Option T) → P o = elim [
        | None ↦ λ is m. let below = pairs_hold xs s v m in (omega (arith, below.0), below.1)
        | Some w ↦ λ is m. elim (Contains-append_cases ((x, w) ∷ []) (pairs_of value xs) (s, v) m) [
          | inl one ↦
              let same = only_one (x, w) (s, v) one in
              let here : x ≡ s = ap (λ pair. pair.0) same in
              let own : w ≡ v = ap (λ pair. pair.1) same in
              let one : hit s x ≡ hit x x = ap (λ k. hit k x) (sym here) in
              (omega (arith, hit_same x), sym (ap value here) ∙ is ∙ ap Some own)
          | inr m ↦ let below = pairs_hold xs s v m in (omega (arith, below.0), below.1)
        ]
      ] in
      each (value x) refl c

module _ {T : Type 0} (cmp : T → T → Ordering) (value : ℕ → Option T) where
  all_above : (a : T) (xs : List ℕ) → ((s : ℕ) → 0 < count_of s xs → slot_cmp cmp (Some a) (value s) ≡ Less) → AllByRecursion (λ (pair : ℕ × T). cmp a pair.1 ≡ Less) (pairs_of value xs)
  all_above a [] above = tt
  all_above a (x ∷ xs) above =
      let rest = all_above a xs (λ s h. above s (omega arith)) in
      let P : Option T → Type 0 = λ o. slot_cmp cmp (Some a) o ≡ Less → AllByRecursion (λ (pair : ℕ × T). cmp a pair.1 ≡ Less) (with_pair x o (pairs_of value xs)) in
      let each : (o : Option T) → P o = elim [ None ↦ λ e. rest | Some b ↦ λ e. (e, rest) ] in
      each (value x) (above x (omega (arith, hit_same x)))

  -- where the slots rise, their pairs do
  pub pairs_rise : (xs : List ℕ) → Rises (λ s u. slot_cmp cmp (value s) (value u) ≡ Less) xs → IsStrictlySortedBy (λ (a b : ℕ × T). cmp a.1 b.1) (pairs_of value xs)
  unfolding IsStrictlySortedBy
  pairs_rise [] rises = tt
  pairs_rise (x ∷ xs) rises =
      let rest = pairs_rise xs rises.1 in
      let P : Option T → Type 0 = λ o. ((s : ℕ) → 0 < count_of s xs → slot_cmp cmp o (value s) ≡ Less) → IsStrictlySortedBy (λ (a b : ℕ × T). cmp a.1 b.1) (with_pair x o (pairs_of value xs)) in
      let each : (o : Option T) → P o = elim [ None ↦ λ above. rest | Some a ↦ λ above. (all_above a xs above, rest) ] in
      each (value x) rises.0

module _ {T : Type 0} (few more : ℕ → Option T) where
  pairs_still : (xs : List ℕ) → ((s : ℕ) → 0 < count_of s xs → more s ≡ few s) → pairs_of more xs ≡ pairs_of few xs
  pairs_still [] still = refl
  pairs_still (x ∷ xs) still =
      ap (λ o. with_pair x o (pairs_of more xs)) (still x (omega (arith, hit_same x))) ∙ ap (with_pair x (few x)) (pairs_still xs (λ s h. still s (omega arith)))

  -- one more slot is one more pair
  pub one_more : (before after : List (ℕ × T)) (xs ys first last : List ℕ) (slot : ℕ) (v : T) → before ≡ pairs_of few xs → after ≡ pairs_of more ys → xs ≡ first ++ last → ys ≡ first ++ slot ∷ last
      → more slot ≡ Some v → ((s : ℕ) → 0 < count_of s first + count_of s last → more s ≡ few s) → IsOneMore before (slot, v) after
  one_more before after xs ys first last slot v before_is after_is xs_is ys_is is still = record {
    first = pairs_of few first;
    last = pairs_of few last;
    before = before_is ∙ ap (pairs_of few) xs_is ∙ pairs_append few first last;
    after =
        after_is
        ∙ ap (pairs_of more) ys_is
        ∙ pairs_append more first (slot ∷ last)
        ∙ ap (λ front. front ++ pairs_of more (slot ∷ last)) (pairs_still first (λ s h. still s (omega arith)))
        ∙ ap (λ o. pairs_of few first ++ with_pair slot o (pairs_of more last)) is
        ∙ ap (λ rest. pairs_of few first ++ (slot, v) ∷ rest) (pairs_still last (λ s h. still s (omega arith)));
  }
