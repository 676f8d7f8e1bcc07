-- Which nodes a row reaches, by recursion over the events.
use Rattle.std.proofs.Common.{◌≡◌, ℕ, zero, suc, ◌⊎◌, inl, inr, Bool, List, [], ◌∷◌, map, Some, None, Contains, refl, sym, ap, subst, arith}
use Rattle.std.specs.Prelude.{slice_get, unwrap_or, ◌↔◌}
use Rattle.willow_entry.specs.Row.{RowValue}
use Rattle.willow_entry.proofs.Members.{Member, contains_from_member, member_from_contains}
use Rattle.mesh_rules.specs.Events.{NodeEvent, Offer, Meet, offered_rows}
use Rattle.mesh_rules.specs.Reaching.{TakesTo, LeadsTo, Reaches}

some_same : {A : Type 0} (a b : A) → Some a ≡ Some b → a ≡ b
some_same a b e = ap (λ o. unwrap_or o a) e

nothing_there : {A : Type 0} (a : A) → None ≡ Some a → ⊥
nothing_there a e = cc

abbrev node_of : {X : Type 0} → NodeEvent X → ℕ
node_of (Offer node r) = node
node_of (Meet left right x) = left

abbrev row_of : {X : Type 0} → RowValue → NodeEvent X → RowValue
row_of d (Offer node r) = r
row_of d (Meet left right x) = d

module _ {X : Type 0} (has : X → RowValue → Bool) where
  -- the events carry the row from node i to node j: each is passed over, or takes it to another node
  abbrev pub Carries : RowValue → List (NodeEvent X) → ℕ → ℕ → Type 0
  Carries r [] i j = i ≡ j
  Carries r (e ∷ es) i j = Carries r es i j ⊎ ((k : ℕ) × TakesTo has r i k e × Carries r es k j)

  -- the row is offered to a node, and the events behind carry it to node j
  abbrev pub Comes : RowValue → List (NodeEvent X) → ℕ → Type 0
  Comes r [] j = ⊥
  Comes r (Offer node s ∷ es) j = (s ≡ r) × Carries r es node j ⊎ Comes r es j
  Comes r (Meet left right x ∷ es) j = Comes r es j

  -- ---- places shift with an event in front

  down : (e : NodeEvent X) (es : List (NodeEvent X)) (r : RowValue) (first i : ℕ) (places : List ℕ) (j : ℕ) → LeadsTo has (e ∷ es) r (suc first) i places j → (ps : List ℕ) × LeadsTo has es r first i ps j
  down e es r first i [] j l = ([], l)
  down e es r first i (zero ∷ places) j l = absurd (omega (arith, l.0))
  down e es r first i (suc place ∷ places) j l =
      let rest = down e es r (suc place) l.1.0 places j l.1.2 in
      (place ∷ rest.0, (omega (arith, l.0), (l.1.0, l.1.1, rest.1)))

  up : (e : NodeEvent X) (es : List (NodeEvent X)) (r : RowValue) (first i : ℕ) (places : List ℕ) (j : ℕ) → LeadsTo has es r first i places j → LeadsTo has (e ∷ es) r (suc first) i (map suc places) j
  up e es r first i [] j l = l
  up e es r first i (place ∷ places) j l = (omega (arith, l.0), (l.1.0, l.1.1, up e es r (suc place) l.1.0 places j l.1.2))

  sooner : (es : List (NodeEvent X)) (r : RowValue) (first i : ℕ) (places : List ℕ) (j : ℕ) → LeadsTo has es r (suc first) i places j → LeadsTo has es r first i places j
  sooner es r first i [] j l = l
  sooner es r first i (place ∷ places) j l = (omega (arith, l.0), l.1)

  -- ---- carried along places

  carried_from_leads : (es : List (NodeEvent X)) (r : RowValue) (i : ℕ) (places : List ℕ) (j : ℕ) → LeadsTo has es r 0 i places j → Carries r es i j
  carried_from_leads [] r i [] j l = l
  carried_from_leads [] r i (place ∷ places) j l = absurd (nothing_there l.1.1.0 l.1.1.1)
  carried_from_leads (e ∷ es) r i [] j l = inl (carried_from_leads es r i [] j l)
  carried_from_leads (e ∷ es) r i (zero ∷ places) j l =
      let at = l.1.1 in
      let rest = down e es r 0 l.1.0 places j l.1.2 in
      inr (l.1.0, subst (TakesTo has r i l.1.0) (sym (some_same e at.0 at.1)) at.2, carried_from_leads es r l.1.0 rest.0 j rest.1)
  carried_from_leads (e ∷ es) r i (suc place ∷ places) j l =
      let rest = down e es r 0 i (suc place ∷ places) j (omega arith, l.1) in
      inl (carried_from_leads es r i rest.0 j rest.1)

  leads_from_carried : (es : List (NodeEvent X)) (r : RowValue) (i j : ℕ) → Carries r es i j → (places : List ℕ) × LeadsTo has es r 0 i places j
  leads_from_carried [] r i j c = ([], c)
  leads_from_carried (e ∷ es) r i j (inl c) =
      let rest = leads_from_carried es r i j c in
      (map suc rest.0, sooner (e ∷ es) r 0 i (map suc rest.0) j (up e es r 0 i rest.0 j rest.1))
  leads_from_carried (e ∷ es) r i j (inr c) =
      let rest = leads_from_carried es r c.0 j c.2 in
      (0 ∷ map suc rest.0, (omega arith, (c.0, (e, refl, c.1), up e es r 0 c.0 rest.0 j rest.1)))

  -- ---- offered, then carried

  comes_from_leads : (es : List (NodeEvent X)) (r : RowValue) (j place node : ℕ) (places : List ℕ) → slice_get es place ≡ Some (Offer node r) → LeadsTo has es r (suc place) node places j → Comes r es j
  comes_from_leads [] r j place node places at l = absurd (nothing_there (Offer node r) at)
  comes_from_leads (Offer n s ∷ es) r j zero node places at l =
      let same = some_same (Offer n s) (Offer node r) at in
      let rest = down (Offer n s) es r 0 node places j l in
      inl (ap (row_of r) same, subst (λ i. Carries r es i j) (sym (ap node_of same)) (carried_from_leads es r node rest.0 j rest.1))
  comes_from_leads (Meet left right x ∷ es) r j zero node places at l = absurd (other (some_same (Meet left right x) (Offer node r) at)) where
    other : Meet left right x ≡ Offer node r → ⊥
    other e = cc
  comes_from_leads (Offer n s ∷ es) r j (suc place) node places at l =
      let rest = down (Offer n s) es r (suc place) node places j l in
      inr (comes_from_leads es r j place node rest.0 at rest.1)
  comes_from_leads (Meet left right x ∷ es) r j (suc place) node places at l =
      let rest = down (Meet left right x) es r (suc place) node places j l in
      comes_from_leads es r j place node rest.0 at rest.1

  pub comes_from_reaches : (es : List (NodeEvent X)) (r : RowValue) (j : ℕ) → Reaches has es r j → Comes r es j
  comes_from_reaches es r j reaches = comes_from_leads es r j reaches.0 reaches.1 reaches.3.0 reaches.2 reaches.3.1

  reaches_later : (e : NodeEvent X) (es : List (NodeEvent X)) (r : RowValue) (j : ℕ) → Reaches has es r j → Reaches has (e ∷ es) r j
  reaches_later e es r j reaches = (suc reaches.0, reaches.1, reaches.2, (map suc reaches.3.0, up e es r (suc reaches.0) reaches.1 reaches.3.0 j reaches.3.1))

  pub reaches_from_comes : (es : List (NodeEvent X)) (r : RowValue) (j : ℕ) → Comes r es j → Reaches has es r j
  reaches_from_comes [] r j c = absurd c
  reaches_from_comes (Offer node s ∷ es) r j (inl c) =
      let rest = leads_from_carried es r node j c.1 in
      (0, node, ap (λ t. Some (Offer node t)) c.0, (map suc rest.0, up (Offer node s) es r 0 node rest.0 j rest.1))
  reaches_from_comes (Offer node s ∷ es) r j (inr c) = reaches_later (Offer node s) es r j (reaches_from_comes es r j c)
  reaches_from_comes (Meet left right x ∷ es) r j c = reaches_later (Meet left right x) es r j (reaches_from_comes es r j c)

  -- ---- a row comes to some node just where it is offered

  member_offered : (es : List (NodeEvent X)) (r : RowValue) (j : ℕ) → Comes r es j → Member (offered_rows es) r
  member_offered [] r j c = absurd c
  member_offered (Offer node s ∷ es) r j (inl c) = inl c.0
  member_offered (Offer node s ∷ es) r j (inr c) = inr (member_offered es r j c)
  member_offered (Meet left right x ∷ es) r j c = member_offered es r j c

  stays : (es : List (NodeEvent X)) (r : RowValue) (i : ℕ) → Carries r es i i
  stays [] r i = refl
  stays (e ∷ es) r i = inl (stays es r i)

  comes_somewhere : (es : List (NodeEvent X)) (r : RowValue) → Member (offered_rows es) r → (i : ℕ) × Comes r es i
  comes_somewhere [] r m = absurd m
  comes_somewhere (Offer node s ∷ es) r (inl e) = (node, inl (e, stays es r node))
  comes_somewhere (Offer node s ∷ es) r (inr m) = let rest = comes_somewhere es r m in (rest.0, inr rest.1)
  comes_somewhere (Meet left right x ∷ es) r m = comes_somewhere es r m

  pub was_offered : (es : List (NodeEvent X)) (r : RowValue) (j : ℕ) → Reaches has es r j → Contains (offered_rows es) r
  was_offered es r j reaches = contains_from_member (offered_rows es) r (member_offered es r j (comes_from_reaches es r j reaches))

  pub offered_reach : (es : List (NodeEvent X)) (r : RowValue) → Contains (offered_rows es) r ↔ ((i : ℕ) × Reaches has es r i)
  offered_reach es r = (
    (λ c. let at = comes_somewhere es r (member_from_contains (offered_rows es) r c) in (at.0, reaches_from_comes es r at.0 at.1)),
    (λ at. was_offered es r at.0 at.1),
  )
