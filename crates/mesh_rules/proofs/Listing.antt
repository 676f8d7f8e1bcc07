-- A list of the rows that reach a node.
use Rattle.std.proofs.Common.{◌≡◌, ℕ, ◌==◌, ◌⊎◌, inl, inr, Bool, true, cond, ◌&&◌, ◌||◌, List, [], ◌∷◌, Contains, refl, sym, subst, ◌∙◌}
use Rattle.std.specs.Prelude.{◌↔◌}
use Rattle.std.proofs.lemmas.Bool.{false≢true, eqb-true, eq-eqb, cond_both, or_cases, or_left, or_right, and_parts, and_from}
use Rattle.willow_entry.specs.Row.{RowValue}
use Rattle.willow_entry.proofs.Members.{Member, contains_from_member, member_from_contains}
use Rattle.mesh_rules.specs.Events.{NodeEvent, Offer, Meet}
use Rattle.mesh_rules.specs.Reaching.{Reaches}
use Rattle.mesh_rules.proofs.Carrying.{Carries, Comes, comes_from_reaches, reaches_from_comes}

module _ {X : Type 0} (has : X → RowValue → Bool) where
  -- the test of `Carries`
  abbrev carries : RowValue → List (NodeEvent X) → ℕ → ℕ → Bool
  carries r [] i j = i == j
  carries r (Offer node s ∷ es) i j = carries r es i j
  carries r (Meet left right x ∷ es) i j =
      carries r es i j || (has x r && ((i == left && carries r es right j) || (i == right && carries r es left j)))

  carries_means : (r : RowValue) (es : List (NodeEvent X)) (i j : ℕ) → carries r es i j ≡ true → Carries has r es i j
  carries_means r [] i j e = eqb-true i j e
  carries_means r (Offer node s ∷ es) i j e = inl (carries_means r es i j e)
  carries_means r (Meet left right x ∷ es) i j e = elim (or_cases (carries r es i j) _ e) [
    | inl passed ↦ inl (carries_means r es i j passed)
    | inr taken ↦ let both = and_parts (has x r) _ taken in elim (or_cases (i == left && carries r es right j) (i == right && carries r es left j) both.1) [
      | inl at ↦ let c = and_parts (i == left) (carries r es right j) at in
          inr (right, (inl (eqb-true i left c.0, refl), both.0), carries_means r es right j c.1)
      | inr at ↦ let c = and_parts (i == right) (carries r es left j) at in
          inr (left, (inr (eqb-true i right c.0, refl), both.0), carries_means r es left j c.1)
    ]
  ]

  means_carries : (r : RowValue) (es : List (NodeEvent X)) (i j : ℕ) → Carries has r es i j → carries r es i j ≡ true
  means_carries r [] i j c = eq-eqb i j c
  means_carries r (Offer node s ∷ es) i j (inl c) = means_carries r es i j c
  means_carries r (Offer node s ∷ es) i j (inr c) = absurd c.1
  means_carries r (Meet left right x ∷ es) i j (inl c) = or_left (carries r es i j) _ (means_carries r es i j c)
  means_carries r (Meet left right x ∷ es) i j (inr c) = or_right (carries r es i j) _ (and_from (has x r) _ c.1.1 (elim c.1.0 [
    | inl at ↦ or_left (i == left && carries r es right j) (i == right && carries r es left j)
        (and_from (i == left) (carries r es right j) (eq-eqb i left at.0) (means_carries r es right j (subst (λ k. Carries has r es k j) at.1 c.2)))
    | inr at ↦ or_right (i == left && carries r es right j) (i == right && carries r es left j)
        (and_from (i == right) (carries r es left j) (eq-eqb i right at.0) (means_carries r es left j (subst (λ k. Carries has r es k j) at.1 c.2)))
  ]))

  -- the rows that come to node j, in the order in which they are offered
  abbrev coming : List (NodeEvent X) → ℕ → List RowValue
  coming [] j = []
  coming (Offer node s ∷ es) j = cond (carries s es node j) (s ∷ coming es j) (coming es j)
  coming (Meet left right x ∷ es) j = coming es j

  member_comes : (es : List (NodeEvent X)) (j : ℕ) (r : RowValue) → Member (coming es j) r → Comes has r es j
  member_comes [] j r = λ m. absurd m
  member_comes (Offer node s ∷ es) j r =
      cond_both (carries s es node j) (s ∷ coming es j) (coming es j) (λ rows. Member rows r → (s ≡ r) × Carries has r es node j ⊎ Comes has r es j)
      (λ yes m. elim m [
        | inl e ↦ inl (e, subst (λ q. Carries has q es node j) e (carries_means s es node j yes))
        | inr later ↦ inr (member_comes es j r later)
      ])
      (λ no m. inr (member_comes es j r m))
  member_comes (Meet left right x ∷ es) j r = member_comes es j r

  comes_member : (es : List (NodeEvent X)) (j : ℕ) (r : RowValue) → Comes has r es j → Member (coming es j) r
  comes_member [] j r = λ c. absurd c
  comes_member (Offer node s ∷ es) j r =
      cond_both (carries s es node j) (s ∷ coming es j) (coming es j) (λ rows. (s ≡ r) × Carries has r es node j ⊎ Comes has r es j → Member rows r)
      (λ yes c. elim c [ inl at ↦ inl at.0 | inr later ↦ inr (comes_member es j r later) ])
      (λ no c. elim c [
        | inl at ↦ absurd (false≢true (sym no ∙ means_carries s es node j (subst (λ q. Carries has q es node j) (sym at.0) at.1)))
        | inr later ↦ comes_member es j r later
      ])
  comes_member (Meet left right x ∷ es) j r = comes_member es j r

  pub reaching_listed : (es : List (NodeEvent X)) (i : ℕ) → (reached : List RowValue) × ((r : RowValue) → Contains reached r ↔ Reaches has es r i)
  reaching_listed es i = (
    coming es i,
    λ r. (
      (λ c. reaches_from_comes has es r i (member_comes es i r (member_from_contains (coming es i) r c))),
      (λ reaches. contains_from_member (coming es i) r (comes_member es i r (comes_from_reaches has es r i reaches))),
    ),
  )
