-- What `placed` and `rising` hold, and that a strictly rising list is told by its members.
use Rattle.std.proofs.Common.{◌≡◌, ◌⊎◌, inl, inr, List, [], ◌∷◌, sym, refl, ap, ap₂, ◌∙◌, subst, Ordering, Less, Equal, Greater, is_lt, true≢false}
use Rattle.std.specs.List.{AllByRecursion}
use Rattle.std.specs.List.Sorted.{IsStrictlySortedBy}
use Rattle.std.specs.Cmp.{IsTotalOrder}
use Rattle.std.specs.Ordering.{match_ordering, ordering_reverse}
use Rattle.std.proofs.lemmas.Cmp.{tied_itself}
use Rattle.willow_entry.specs.Pruning.{placed, rising}
use Rattle.willow_entry.proofs.Members.{Member}

pub Less≢Equal : Less ≡ Equal → ⊥
Less≢Equal e = true≢false (ap is_lt e)

pub Less≢Greater : Less ≡ Greater → ⊥
Less≢Greater e = true≢false (ap is_lt e)

module _ {X : Type 0} (cmp : X → X → Ordering) where
  -- no item of the list but x itself stands at the place of x
  abbrev pub IsFree : X → List X → Type 0
  IsFree x ys = (y : X) → Member ys y → cmp x y ≡ Equal → x ≡ y

  -- ---- what `placed` holds

  pub member_from_placed : (x : X) (ys : List X) (z : X) → Member (placed cmp x ys) z → (x ≡ z) ⊎ Member ys z
  member_from_placed x [] z h = h
  member_from_placed x (y ∷ ys) z h =
      let P : Ordering → Type 0 = λ o. Member (match_ordering o (x ∷ y ∷ ys) (y ∷ ys) (y ∷ placed cmp x ys)) z → (x ≡ z) ⊎ Member (y ∷ ys) z in
      let each : (o : Ordering) → P o = elim [
        | Less ↦ λ m. m
        | Equal ↦ λ m. inr m
        | Greater ↦ λ m. elim m [ inl e ↦ inr (inl e) | inr n ↦ elim (member_from_placed x ys z n) [ inl e ↦ inl e | inr k ↦ inr (inr k) ] ]
      ] in
      each (cmp x y) h

  pub member_placed_old : (x : X) (ys : List X) (z : X) → Member ys z → Member (placed cmp x ys) z
  member_placed_old x [] z h = absurd h
  member_placed_old x (y ∷ ys) z h =
      let P : Ordering → Type 0 = λ o. Member (match_ordering o (x ∷ y ∷ ys) (y ∷ ys) (y ∷ placed cmp x ys)) z in
      let each : (o : Ordering) → P o = elim [
        | Less ↦ inr h
        | Equal ↦ h
        | Greater ↦ elim h [ inl e ↦ inl e | inr n ↦ inr (member_placed_old x ys z n) ]
      ] in
      each (cmp x y)

  pub member_placed_new : (x : X) (ys : List X) → IsFree x ys → Member (placed cmp x ys) x
  member_placed_new x [] free = inl refl
  member_placed_new x (y ∷ ys) free =
      let P : Ordering → Type 0 = λ o. cmp x y ≡ o → Member (match_ordering o (x ∷ y ∷ ys) (y ∷ ys) (y ∷ placed cmp x ys)) x in
      let each : (o : Ordering) → P o = elim [
        | Less ↦ λ e. inl refl
        | Equal ↦ λ e. inl (sym (free y (inl refl) e))
        | Greater ↦ λ e. inr (member_placed_new x ys (λ z m. free z (inr m)))
      ] in
      each (cmp x y) refl

  -- ---- the order of what is placed

  all_placed : (P : X → Type 0) (x : X) (ys : List X) → P x → AllByRecursion P ys → AllByRecursion P (placed cmp x ys)
  all_placed P x [] p all = (p, tt)
  all_placed P x (y ∷ ys) p all =
      let Q : Ordering → Type 0 = λ o. AllByRecursion P (match_ordering o (x ∷ y ∷ ys) (y ∷ ys) (y ∷ placed cmp x ys)) in
      let each : (o : Ordering) → Q o = elim [
        | Less ↦ (p, all)
        | Equal ↦ all
        | Greater ↦ (all.0, all_placed P x ys p all.1)
      ] in
      each (cmp x y)

  all_weaker : (P Q : X → Type 0) → ((x : X) → P x → Q x) → (ys : List X) → AllByRecursion P ys → AllByRecursion Q ys
  all_weaker P Q f [] all = tt
  all_weaker P Q f (y ∷ ys) all = (f y all.0, all_weaker P Q f ys all.1)

  pub all_member : (P : X → Type 0) (ys : List X) → AllByRecursion P ys → (x : X) → Member ys x → P x
  all_member P [] all x h = absurd h
  all_member P (y ∷ ys) all x (inl e) = subst P e all.0
  all_member P (y ∷ ys) all x (inr m) = all_member P ys all.1 x m

  pub all_from_members : (P : X → Type 0) (ys : List X) → ((x : X) → Member ys x → P x) → AllByRecursion P ys
  all_from_members P [] f = tt
  all_from_members P (y ∷ ys) f = (f y (inl refl), all_from_members P ys (λ x m. f x (inr m)))

  module _ (total : IsTotalOrder cmp) where
    pub turned : (x y : X) → cmp x y ≡ Greater → cmp y x ≡ Less
    turned x y e = total.antisymm y x ∙ ap ordering_reverse e

    pub not_below_itself : (x : X) → cmp x x ≡ Less → ⊥
    not_below_itself x e = Less≢Equal (sym e ∙ tied_itself total x)

    pub not_both_below : (x y : X) → cmp x y ≡ Less → cmp y x ≡ Less → ⊥
    not_both_below x y e f = not_below_itself x (total.trans x y x e f)

    pub placed-rises : (x : X) (ys : List X) → IsStrictlySortedBy cmp ys → IsStrictlySortedBy cmp (placed cmp x ys)
    unfolding IsStrictlySortedBy
    placed-rises x [] up = (tt, tt)
    placed-rises x (y ∷ ys) up =
        let P : Ordering → Type 0 = λ o. cmp x y ≡ o → IsStrictlySortedBy cmp (match_ordering o (x ∷ y ∷ ys) (y ∷ ys) (y ∷ placed cmp x ys)) in
        let each : (o : Ordering) → P o = elim [
          | Less ↦ λ e. ((e, all_weaker (λ z. cmp y z ≡ Less) (λ z. cmp x z ≡ Less) (λ z f. total.trans x y z e f) ys up.0), up)
          | Equal ↦ λ e. up
          | Greater ↦ λ e. (all_placed (λ z. cmp y z ≡ Less) x ys (turned x y e) up.0, placed-rises x ys up.1)
        ] in
        each (cmp x y) refl

    pub rising-rises : (xs : List X) → IsStrictlySortedBy cmp (rising cmp xs)
    unfolding IsStrictlySortedBy
    rising-rises [] = tt
    rising-rises (x ∷ xs) = placed-rises x (rising cmp xs) (rising-rises xs)

    -- ---- two rising lists with the same members are one

    tail_member : (x : X) (xs ys : List X) → AllByRecursion (λ z. cmp x z ≡ Less) xs → ((z : X) → Member (x ∷ xs) z → Member (x ∷ ys) z) → (z : X) → Member xs z → Member ys z
    tail_member x xs ys below f z m =
        elim (f z (inr m)) [ inl e ↦ absurd (not_below_itself x (subst (λ w. cmp x w ≡ Less) (sym e) (all_member (λ w. cmp x w ≡ Less) xs below z m))) | inr n ↦ n ]

    pub same_rising : (xs ys : List X) → IsStrictlySortedBy cmp xs → IsStrictlySortedBy cmp ys → ((z : X) → Member xs z → Member ys z) → ((z : X) → Member ys z → Member xs z) → xs ≡ ys
    unfolding IsStrictlySortedBy
    same_rising [] [] up vp f g = refl
    same_rising [] (y ∷ ys) up vp f g = absurd (g y (inl refl))
    same_rising (x ∷ xs) [] up vp f g = absurd (f x (inl refl))
    same_rising (x ∷ xs) (y ∷ ys) up vp f g =
        let head : x ≡ y = elim (f x (inl refl)) [
          | inl e ↦ sym e
          | inr m ↦ elim (g y (inl refl)) [
            | inl e ↦ e
            | inr n ↦ absurd (not_both_below x y (all_member (λ z. cmp x z ≡ Less) xs up.0 y n) (all_member (λ z. cmp y z ≡ Less) ys vp.0 x m))
          ]
        ] in
        let F : (z : X) → Member (x ∷ xs) z → Member (x ∷ ys) z = subst (λ w. (z : X) → Member (x ∷ xs) z → Member (w ∷ ys) z) (sym head) f in
        let G : (z : X) → Member (x ∷ ys) z → Member (x ∷ xs) z = subst (λ w. (z : X) → Member (w ∷ ys) z → Member (x ∷ xs) z) (sym head) g in
        let below : AllByRecursion (λ z. cmp x z ≡ Less) ys = subst (λ w. AllByRecursion (λ z. cmp w z ≡ Less) ys) (sym head) vp.0 in
        let tails = same_rising xs ys up.1 vp.1 (tail_member x xs ys up.0 F) (tail_member x ys xs below G) in
        ap₂ (λ (a : X) (b : List X). a ∷ b) head tails

  -- ---- what `rising` holds

  pub member_from_rising : (xs : List X) (z : X) → Member (rising cmp xs) z → Member xs z
  member_from_rising [] z h = h
  member_from_rising (x ∷ xs) z h =
      elim (member_from_placed x (rising cmp xs) z h) [ inl e ↦ inl e | inr m ↦ inr (member_from_rising xs z m) ]

  -- items at one place are one
  abbrev pub IsApart : List X → Type 0
  IsApart xs = (x y : X) → Member xs x → Member xs y → cmp x y ≡ Equal → x ≡ y

  pub member_rising : (xs : List X) → IsApart xs → (z : X) → Member xs z → Member (rising cmp xs) z
  member_rising [] apart z h = h
  member_rising (x ∷ xs) apart z (inl e) =
      subst (λ w. Member (placed cmp x (rising cmp xs)) w) e (member_placed_new x (rising cmp xs) (λ y m. apart x y (inl refl) (inr (member_from_rising xs y m))))
  member_rising (x ∷ xs) apart z (inr m) =
      member_placed_old x (rising cmp xs) z (member_rising xs (λ a b p q. apart a b (inr p) (inr q)) z m)
