-- What `pruned` keeps, and when two lists keep the same.
use Rattle.std.proofs.Common.{◌≡◌, ◌⊎◌, inl, inr, Bool, true, false, not, List, [], ◌∷◌, ◌++◌, filter, cond, sym, refl, ap, ◌∙◌, subst, append_assoc, Ordering, Decides}
use Rattle.std.specs.List.{list_any}
use Rattle.std.specs.List.Sorted.{IsStrictlySortedBy}
use Rattle.std.proofs.lemmas.Bool.{not-true, not_from_false, both_ways}
use Rattle.std.proofs.lemmas.List.Kept.{IsStrictlySortedBy-filter}
use Rattle.willow_entry.specs.Pruning.{placed, is_undominated, pruned, new_after, Covers, HasCover, IsPruning}
use Rattle.willow_entry.proofs.Members.{Member, contains_from_member, member_from_contains, member_append_left, member_append_right, member_append_cases, member_filter, filter_member, any_false, false_of_any, any_true}
use Rattle.willow_entry.proofs.Rising.{IsFree, IsApart, member_from_placed, member_placed_old, member_placed_new, placed-rises, rising-rises, same_rising, member_from_rising, member_rising}

module _ {X : Type 0} (dominates : X → X → Bool) where
  -- no item of the list dominates x
  abbrev pub IsUndominated : List X → X → Type 0
  IsUndominated xs x = (y : X) → Member xs y → dominates y x ≡ false

  -- an item of the list covers y
  abbrev pub IsCovered : List X → X → Type 0
  IsCovered xs y = (x : X) × Member xs x × Covers dominates x y

  -- the first list covers each item of the second
  abbrev pub CoversAll : List X → List X → Type 0
  CoversAll xs ys = (y : X) → Member ys y → IsCovered xs y

  pub undominated_test : (xs : List X) (x : X) → IsUndominated xs x → is_undominated dominates xs x ≡ true
  undominated_test xs x h = ap not (any_false (λ y. dominates y x) xs h)

  pub undominated_from_test : (xs : List X) (x : X) → is_undominated dominates xs x ≡ true → IsUndominated xs x
  undominated_from_test xs x e = false_of_any (λ y. dominates y x) xs (not-true (list_any (λ y. dominates y x) xs) e)

  pub covered_from_contains : (xs : List X) (y : X) → HasCover dominates xs y → IsCovered xs y
  covered_from_contains xs y h = (h.0, member_from_contains xs h.0 h.1, h.2)

  pub contains_from_covered : (xs : List X) (y : X) → IsCovered xs y → HasCover dominates xs y
  contains_from_covered xs y h = (h.0, contains_from_member xs h.0 h.1, h.2)

  pub covers_members : (xs ys : List X) → ((z : X) → Member ys z → Member xs z) → CoversAll xs ys
  covers_members xs ys f = λ y m. (y, f y m, inl refl)

  pub covered_append_left : (xs ys : List X) (z : X) → IsCovered xs z → IsCovered (xs ++ ys) z
  covered_append_left xs ys z h = (h.0, member_append_left xs ys h.0 h.1, h.2)

  pub covered_append_right : (xs ys : List X) (z : X) → IsCovered ys z → IsCovered (xs ++ ys) z
  covered_append_right xs ys z h = (h.0, member_append_right xs ys h.0 h.1, h.2)

  pub covers_append : (xs ys us vs : List X) → CoversAll xs us → CoversAll ys vs → CoversAll (xs ++ ys) (us ++ vs)
  covers_append xs ys us vs f g = λ z m. elim (member_append_cases us vs z m) [
    | inl p ↦ covered_append_left xs ys z (f z p)
    | inr q ↦ covered_append_right xs ys z (g z q)
  ]

  pub covers_both : (xs us vs : List X) → CoversAll xs us → CoversAll xs vs → CoversAll xs (us ++ vs)
  covers_both xs us vs f g = λ z m. elim (member_append_cases us vs z m) [ inl p ↦ f z p | inr q ↦ g z q ]

  module _ (cmp : X → X → Ordering) (laws : IsPruning dominates cmp) where
    pub covers_chain : (x y z : X) → Covers dominates x y → Covers dominates y z → Covers dominates x z
    covers_chain x y z (inl e) (inl f) = inl (e ∙ f)
    covers_chain x y z (inl e) (inr f) = inr (ap (λ w. dominates w z) e ∙ f)
    covers_chain x y z (inr e) (inl f) = inr (ap (λ w. dominates x w) (sym f) ∙ e)
    covers_chain x y z (inr e) (inr f) = inr (laws.transitive x y z e f)

    dominates_chain : (x y z : X) → Covers dominates x y → dominates y z ≡ true → dominates x z ≡ true
    dominates_chain x y z (inl e) f = ap (λ w. dominates w z) e ∙ f
    dominates_chain x y z (inr e) f = laws.transitive x y z e f

    not_itself : (x : X) → dominates x x ≡ true → ⊥
    not_itself x e = both_ways (dominates x x) (laws.irreflexive x) e

    pub not_dominated : (x y : X) → (dominates x y ≡ true → ⊥) → dominates x y ≡ false
    not_dominated x y f =
        let P : Bool → Type 0 = λ b. dominates x y ≡ b → b ≡ false in
        let each : (b : Bool) → P b = elim [ true ↦ λ e. absurd (f e) | false ↦ λ e. refl ] in
        each (dominates x y) refl

    pub covers_all_chain : (xs ys zs : List X) → CoversAll xs ys → CoversAll ys zs → CoversAll xs zs
    covers_all_chain xs ys zs f g = λ z m.
        let b = g z m in
        let a = f b.0 b.1 in
        (a.0, a.1, covers_chain a.0 b.0 z a.2 b.2)

    -- ---- each item is covered by an undominated one

    -- x itself or an item of the list, which no item of the list dominates
    abbrev IsTop : List X → X → X → Type 0
    IsTop xs x t = ((x ≡ t) ⊎ Member xs t) × IsUndominated xs t × Covers dominates t x

    pub top : (xs : List X) (x : X) → (t : X) × IsTop xs x t
    top [] x = (x, (inl refl, (λ y m. absurd m), inl refl))
    top (w ∷ xs) x =
        let r = top xs x in
        let P : Bool → Type 0 = λ b. dominates w r.0 ≡ b → (t : X) × IsTop (w ∷ xs) x t in
        let each : (b : Bool) → P b = elim [
          | true ↦ λ e. (
            w,
            (
              inr (inl refl),
              (λ y m. elim m [
                | inl q ↦ ap (λ v. dominates v w) (sym q) ∙ laws.irreflexive w
                | inr n ↦ not_dominated y w (λ f. both_ways (dominates y r.0) (r.1.1 y n) (laws.transitive y w r.0 f e))
              ]),
              covers_chain w r.0 x (inr e) r.1.2,
            ),
          )
          | false ↦ λ e. (r.0, (elim r.1.0 [ inl q ↦ inl q | inr n ↦ inr (inr n) ], (λ y m. elim m [ inl q ↦ ap (λ v. dominates v r.0) (sym q) ∙ e | inr n ↦ r.1.1 y n ]), r.1.2))
        ] in
        each (dominates w r.0) refl

    -- ---- what `pruned` holds

    undominated_apart : (xs : List X) → IsApart cmp (filter (is_undominated dominates xs) xs)
    undominated_apart xs = λ x y p q e.
        let f = filter_member (is_undominated dominates xs) xs x p in
        let g = filter_member (is_undominated dominates xs) xs y q in
        laws.settled x y e (undominated_from_test xs y g.1 x f.0) (undominated_from_test xs x f.1 y g.0)

    pub pruned_member : (xs : List X) (z : X) → Member (pruned dominates cmp xs) z → Member xs z × IsUndominated xs z
    unfolding pruned
    pruned_member xs z m =
        let f = filter_member (is_undominated dominates xs) xs z (member_from_rising cmp (filter (is_undominated dominates xs) xs) z m) in
        (f.0, undominated_from_test xs z f.1)

    pub member_pruned : (xs : List X) (z : X) → Member xs z → IsUndominated xs z → Member (pruned dominates cmp xs) z
    unfolding pruned
    member_pruned xs z m u = member_rising cmp (filter (is_undominated dominates xs) xs) (undominated_apart xs) z (member_filter (is_undominated dominates xs) xs z m (undominated_test xs z u))

    pub pruned-rises : (xs : List X) → IsStrictlySortedBy cmp (pruned dominates cmp xs)
    unfolding pruned
    pruned-rises xs = rising-rises cmp laws.total (filter (is_undominated dominates xs) xs)

    pub pruned_covers : (xs : List X) → CoversAll (pruned dominates cmp xs) xs
    pruned_covers xs = λ x m.
        let r = top xs x in
        let inside : Member xs r.0 = elim r.1.0 [ inl e ↦ subst (λ w. Member xs w) e m | inr n ↦ n ] in
        (r.0, member_pruned xs r.0 inside r.1.1, r.1.2)

    pub covers_pruned : (xs : List X) → CoversAll xs (pruned dominates cmp xs)
    covers_pruned xs = covers_members xs (pruned dominates cmp xs) (λ z m. (pruned_member xs z m).0)

    -- ---- lists that cover each other keep the same

    -- what the first list keeps is kept by the second
    kept_by_other : (xs ys : List X) → CoversAll xs ys → CoversAll ys xs → (z : X) → Member (pruned dominates cmp xs) z → Member (pruned dominates cmp ys) z
    kept_by_other xs ys f g z m =
        let k = pruned_member xs z m in
        let b = g z k.0 in
        let a = f b.0 b.1 in
        let same : b.0 ≡ z = elim b.2 [
          | inl e ↦ e
          | inr e ↦ absurd (both_ways (dominates a.0 z) (k.1 a.0 a.1) (dominates_chain a.0 b.0 z a.2 e))
        ] in
        member_pruned ys z (subst (λ w. Member ys w) same b.1)
        (λ y n. not_dominated y z (λ e. let c = f y n in both_ways (dominates c.0 z) (k.1 c.0 c.1) (dominates_chain c.0 y z c.2 e)))

    pub pruned_alike : (xs ys : List X) → CoversAll xs ys → CoversAll ys xs → pruned dominates cmp xs ≡ pruned dominates cmp ys
    pruned_alike xs ys f g = same_rising cmp laws.total (pruned dominates cmp xs) (pruned dominates cmp ys) (pruned-rises xs) (pruned-rises ys) (kept_by_other xs ys f g) (kept_by_other ys xs g f)

    -- a rising list of just the undominated items is the pruned list
    pub pruned-only : (xs kept : List X) → IsStrictlySortedBy cmp kept → ((z : X) → Member kept z → Member xs z × IsUndominated xs z) → ((z : X) → Member xs z → IsUndominated xs z → Member kept z) → kept ≡ pruned dominates cmp xs
    pruned-only xs kept up f g = same_rising cmp laws.total kept (pruned dominates cmp xs) up (pruned-rises xs)
        (λ z m. member_pruned xs z (f z m).0 (f z m).1)
        (λ z m. let k = pruned_member xs z m in g z k.0 k.1)

    -- ---- what follows

    pub pruned_same_members : (xs ys : List X) → ((z : X) → Member xs z → Member ys z) → ((z : X) → Member ys z → Member xs z) → pruned dominates cmp xs ≡ pruned dominates cmp ys
    pruned_same_members xs ys f g = pruned_alike xs ys (covers_members xs ys g) (covers_members ys xs f)

    pub pruned-pruned : (xs : List X) → pruned dominates cmp (pruned dominates cmp xs) ≡ pruned dominates cmp xs
    pruned-pruned xs = pruned_alike (pruned dominates cmp xs) xs (pruned_covers xs) (covers_pruned xs)

    -- pruning early changes nothing
    pub pruned_early : (xs ys : List X) → pruned dominates cmp (pruned dominates cmp xs ++ pruned dominates cmp ys) ≡ pruned dominates cmp (xs ++ ys)
    pruned_early xs ys = pruned_alike (pruned dominates cmp xs ++ pruned dominates cmp ys) (xs ++ ys)
        (covers_append (pruned dominates cmp xs) (pruned dominates cmp ys) xs ys (pruned_covers xs) (pruned_covers ys))
        (covers_append xs ys (pruned dominates cmp xs) (pruned dominates cmp ys) (covers_pruned xs) (covers_pruned ys))

    pub pruned_early_left : (xs ys : List X) → pruned dominates cmp (pruned dominates cmp xs ++ ys) ≡ pruned dominates cmp (xs ++ ys)
    pruned_early_left xs ys = pruned_alike (pruned dominates cmp xs ++ ys) (xs ++ ys)
        (covers_append (pruned dominates cmp xs) ys xs ys (pruned_covers xs) (covers_members ys ys (λ z m. m)))
        (covers_append xs ys (pruned dominates cmp xs) ys (covers_pruned xs) (covers_members ys ys (λ z m. m)))

    pub pruned_early_right : (xs ys : List X) → pruned dominates cmp (xs ++ pruned dominates cmp ys) ≡ pruned dominates cmp (xs ++ ys)
    pruned_early_right xs ys = pruned_alike (xs ++ pruned dominates cmp ys) (xs ++ ys)
        (covers_append xs (pruned dominates cmp ys) xs ys (covers_members xs xs (λ z m. m)) (pruned_covers ys))
        (covers_append xs ys xs (pruned dominates cmp ys) (covers_members xs xs (λ z m. m)) (covers_pruned ys))

    pub pruned_swap : (xs ys : List X) → pruned dominates cmp (xs ++ ys) ≡ pruned dominates cmp (ys ++ xs)
    pruned_swap xs ys = pruned_same_members (xs ++ ys) (ys ++ xs) (other_way xs ys) (other_way ys xs) where
      other_way : (us vs : List X) (z : X) → Member (us ++ vs) z → Member (vs ++ us) z
      other_way us vs z m = elim (member_append_cases us vs z m) [
        | inl p ↦ member_append_right vs us z p
        | inr q ↦ member_append_left vs us z q
      ]

    pub pruned_twice : (xs : List X) → pruned dominates cmp (xs ++ xs) ≡ pruned dominates cmp xs
    pruned_twice xs = pruned_same_members (xs ++ xs) xs
        (λ z m. elim (member_append_cases xs xs z m) [ inl p ↦ p | inr q ↦ q ])
        (λ z m. member_append_left xs xs z m)

    -- a list covers what its front keeps
    pub covers_front : (xs ys : List X) → CoversAll (xs ++ ys) (pruned dominates cmp xs)
    covers_front xs ys = λ z m. covered_append_left xs ys z (covers_pruned xs z m)

    -- what a longer list keeps covers what its front keeps
    pub pruned_covers_front : (xs ys : List X) → CoversAll (pruned dominates cmp (xs ++ ys)) (pruned dominates cmp xs)
    pruned_covers_front xs ys = covers_all_chain (pruned dominates cmp (xs ++ ys)) (xs ++ ys) (pruned dominates cmp xs) (pruned_covers (xs ++ ys)) (covers_front xs ys)

    -- ---- one more item

    push_members : (xs : List X) (x : X) → CoversAll (xs ++ x ∷ []) xs
    push_members xs x = covers_members (xs ++ x ∷ []) xs (λ z m. member_append_left xs (x ∷ []) z m)

    -- a covered item changes nothing
    pub pruned-covered : (xs : List X) (x : X) → IsCovered xs x → pruned dominates cmp (xs ++ x ∷ []) ≡ pruned dominates cmp xs
    pruned-covered xs x c = pruned_alike (xs ++ x ∷ []) xs (push_members xs x)
        (covers_both xs xs (x ∷ []) (covers_members xs xs (λ z m. m)) (λ z m. elim m [ inl e ↦ subst (λ w. IsCovered xs w) e c | inr n ↦ absurd n ]))

    -- the items that x leaves
    abbrev pub left_by : X → List X → List X
    left_by x xs = filter (λ y. not (dominates x y)) xs

    left_free : (xs : List X) (x : X) → (IsCovered xs x → ⊥) → IsFree cmp x (left_by x xs)
    left_free xs x uncovered = λ y m e.
        let f = filter_member (λ w. not (dominates x w)) xs y m in
        laws.settled x y e (not-true (dominates x y) f.1) (not_dominated y x (λ d. uncovered (y, f.0, inr d)))

    -- an uncovered item goes to its place among those that it leaves
    pub pruned-uncovered : (xs : List X) (x : X) → pruned dominates cmp xs ≡ xs → (IsCovered xs x → ⊥) → placed cmp x (left_by x xs) ≡ pruned dominates cmp (xs ++ x ∷ [])
    pruned-uncovered xs x live uncovered = pruned-only (xs ++ x ∷ []) (placed cmp x (left_by x xs))
        (placed-rises cmp laws.total x (left_by x xs) (IsStrictlySortedBy-filter cmp (λ y. not (dominates x y)) xs (subst (λ l. IsStrictlySortedBy cmp l) live (pruned-rises xs))))
        (λ z m. elim (member_from_placed cmp x (left_by x xs) z m) [
          | inl e ↦ (
            member_append_right xs (x ∷ []) z (inl e),
            (λ y n. elim (member_append_cases xs (x ∷ []) y n) [
              | inl p ↦ subst (λ w. dominates y w ≡ false) e (not_dominated y x (λ d. uncovered (y, p, inr d)))
              | inr q ↦ elim q [ inl r ↦ subst (λ w. dominates w z ≡ false) r (subst (λ w. dominates x w ≡ false) e (laws.irreflexive x)) | inr n ↦ absurd n ]
            ]),
          )
          | inr k ↦ (let f = filter_member (λ w. not (dominates x w)) xs z k in (
            member_append_left xs (x ∷ []) z f.0,
            (λ y n. elim (member_append_cases xs (x ∷ []) y n) [
              | inl p ↦ (pruned_member xs z (subst (λ l. Member l z) (sym live) f.0)).1 y p
              | inr q ↦ elim q [ inl r ↦ subst (λ w. dominates w z ≡ false) r (not-true (dominates x z) f.1) | inr n ↦ absurd n ]
            ]),
          ))
        ])
        (λ z m u. elim (member_append_cases xs (x ∷ []) z m) [
          | inl p ↦ member_placed_old cmp x (left_by x xs) z (member_filter (λ w. not (dominates x w)) xs z p (not_from_false (dominates x z) (u x (member_append_right xs (x ∷ []) x (inl refl)))))
          | inr q ↦ elim q [ inl r ↦ subst (λ w. Member (placed cmp x (left_by x xs)) w) r (member_placed_new cmp x (left_by x xs) (left_free xs x uncovered)) | inr n ↦ absurd n ]
        ])

    -- ---- the new items of a list

    module _ (covers : X → X → Bool) (decides : (x y : X) → Decides (covers x y) (Covers dominates x y)) where
      any_covers : (earlier : List X) (x : X) → list_any (λ y. covers y x) earlier ≡ true → IsCovered earlier x
      any_covers earlier x e = let r = any_true (λ y. covers y x) earlier e in (r.0, r.1, (decides r.0 x).0 r.2)

      new_covers : (base earlier xs : List X) → CoversAll base earlier → CoversAll (base ++ new_after covers earlier xs) xs
      unfolding new_after
      new_covers base earlier [] f = λ z m. absurd m
      new_covers base earlier (x ∷ xs) f =
          let P : Bool → Type 0 = λ b. list_any (λ y. covers y x) earlier ≡ b → CoversAll (base ++ cond b (new_after covers (earlier ++ x ∷ []) xs) (x ∷ new_after covers (earlier ++ x ∷ []) xs)) (x ∷ xs) in
          let rest = new_after covers (earlier ++ x ∷ []) xs in
          let each : (b : Bool) → P b = elim [
            | true ↦ λ e.
                let c = any_covers earlier x e in
                let d = f c.0 c.1 in
                let here : IsCovered base x = (d.0, d.1, covers_chain d.0 c.0 x d.2 c.2) in
                let one : CoversAll base (x ∷ []) = λ z m. elim m [ inl q ↦ subst (λ w. IsCovered base w) q here | inr n ↦ absurd n ] in
                let more = new_covers base (earlier ++ x ∷ []) xs (covers_both base earlier (x ∷ []) f one) in
                λ z m. elim m [ inl q ↦ covered_append_left base rest z (one z (inl q)) | inr n ↦ more z n ]
            | false ↦ λ e.
                let more = new_covers (base ++ x ∷ []) (earlier ++ x ∷ []) xs (covers_append base (x ∷ []) earlier (x ∷ []) f (covers_members (x ∷ []) (x ∷ []) (λ z m. m))) in
                let shifted : CoversAll (base ++ (x ∷ rest)) xs = subst (λ l. CoversAll l xs) (append_assoc base (x ∷ []) rest) more in
                λ z m. elim m [ inl q ↦ covered_append_right base (x ∷ rest) z (x, inl refl, inl q) | inr n ↦ shifted z n ]
          ] in
          each (list_any (λ y. covers y x) earlier) refl

      new_member : (earlier xs : List X) (z : X) → Member (new_after covers earlier xs) z → Member xs z
      unfolding new_after
      new_member earlier [] z m = m
      new_member earlier (x ∷ xs) z m =
          let P : Bool → Type 0 = λ b. Member (cond b (new_after covers (earlier ++ x ∷ []) xs) (x ∷ new_after covers (earlier ++ x ∷ []) xs)) z → Member (x ∷ xs) z in
          let each : (b : Bool) → P b = elim [
            | true ↦ λ n. inr (new_member (earlier ++ x ∷ []) xs z n)
            | false ↦ λ n. elim n [ inl q ↦ inl q | inr k ↦ inr (new_member (earlier ++ x ∷ []) xs z k) ]
          ] in
          each (list_any (λ y. covers y x) earlier) m

      -- the new items keep what the list keeps
      pub pruned-new : (xs : List X) → pruned dominates cmp (new_after covers [] xs) ≡ pruned dominates cmp xs
      pruned-new xs = pruned_alike (new_after covers [] xs) xs (new_covers [] [] xs (λ y m. absurd m)) (covers_members xs (new_after covers [] xs) (new_member [] xs))

      pub covers_new : (xs : List X) → CoversAll (new_after covers [] xs) xs
      covers_new xs = new_covers [] [] xs (λ y m. absurd m)
