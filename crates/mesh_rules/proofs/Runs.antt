-- What the nodes hold behind all events.
use Rattle.std.proofs.Common.{◌≡◌, ℕ, ◌⊎◌, inl, inr, List, [], ◌∷◌, filter, Contains, refl, sym, ap, subst, ◌∙◌}
use Rattle.std.specs.Prelude.{◌↔◌}
use Rattle.willow_entry.specs.Pruning.{pruned}
use Rattle.willow_entry.specs.Row.{RowValue, AreLive, HasCovering, live}
use Rattle.willow_entry.proofs.Members.{member_from_contains}
use Rattle.willow_entry.proofs.Live.{live_alike}
use Rattle.willow_entry.proofs.LiveParts.{kept, kept_from, filter-live}
use Rattle.mesh_rules.specs.Events.{NodeEvent, Offer, Meet, Mesh, Nodes, after_event, after_events, empty_nodes, node_rows, offered_rows}
use Rattle.mesh_rules.specs.Reaching.{Reaches}
use Rattle.mesh_rules.specs.Meetings.{MakesUpNoRow, LeavesLive, IsExact, IncludesDominating, EachMeeting}
use Rattle.mesh_rules.specs.Laws.{IsExactRun, HoldsReached, AllReach}
use Rattle.mesh_rules.proofs.Carrying.{Carries, Comes, comes_from_reaches, reaches_from_comes, was_offered}
use Rattle.mesh_rules.proofs.Covered.{covering_part}
use Rattle.mesh_rules.proofs.Steps.{OffersTo, exact_makes_up_none, exact_leaves_live, holds_only, keeps, takes, brings, stays_live}

module _ {X : Type 0} (m : Mesh X) where
  -- what follows from a fact of a meeting is so at each meeting where the fact is
  each_from : (P Q : List RowValue → List RowValue → X → Type 0) → ((a b : List RowValue) (x : X) → P a b x → Q a b x) → (s : Nodes) (es : List (NodeEvent X)) → EachMeeting P m s es → EachMeeting Q m s es
  each_from P Q f s [] each = tt
  each_from P Q f s (Offer node r ∷ es) each = (tt, each_from P Q f (after_event m s (Offer node r)) es each.1)
  each_from P Q f s (Meet left right x ∷ es) each = (f (s left) (s right) x each.0, each_from P Q f (after_event m s (Meet left right x)) es each.1)

  -- ---- each row reaches its node

  offered_comes : (e : NodeEvent X) (es : List (NodeEvent X)) (i j : ℕ) (r : RowValue) → OffersTo e i r → Carries m.has r es i j → Comes m.has r (e ∷ es) j
  offered_comes (Offer node q) es i j r o c = inl (o.1, subst (λ n. Carries m.has r es n j) (sym o.0) c)
  offered_comes (Meet left right x) es i j r o c = absurd o

  comes_later : (e : NodeEvent X) (es : List (NodeEvent X)) (j : ℕ) (r : RowValue) → Comes m.has r es j → Comes m.has r (e ∷ es) j
  comes_later (Offer node q) es j r c = inr c
  comes_later (Meet left right x) es j r c = c

  comes_from : (s : Nodes) (es : List (NodeEvent X)) → EachMeeting (MakesUpNoRow m) m s es → (j : ℕ) (r : RowValue) → Contains (after_events m s es j) r
      → ((i : ℕ) × Contains (s i) r × Carries m.has r es i j) ⊎ Comes m.has r es j
  comes_from s [] sound j r c = inl (j, c, refl)
  comes_from s (e ∷ es) sound j r c = elim (comes_from (after_event m s e) es sound.1 j r c) [
    | inr later ↦ inr (comes_later e es j r later)
    | inl at ↦ elim (holds_only m s e sound.0 at.0 r at.1) [
      | inl own ↦ inl (at.0, own, inl at.2)
      | inr new ↦ elim new [
        | inl o ↦ inr (offered_comes e es at.0 j r o at.2)
        | inr came ↦ inl (came.0, came.1, inr (at.0, came.2, at.2))
      ]
    ]
  ]

  pub reaches_only : (es : List (NodeEvent X)) → EachMeeting (MakesUpNoRow m) m empty_nodes es → (j : ℕ) (r : RowValue) → Contains (node_rows m es j) r → Reaches m.has es r j
  reaches_only es sound j r c = elim (comes_from empty_nodes es sound j r c) [
    | inl at ↦ absurd (member_from_contains [] r at.1)
    | inr new ↦ reaches_from_comes m.has es r j new
  ]

  -- ---- each row that reaches a node is covered there

  module _ (r : RowValue) where
    carried : (s : Nodes) (es : List (NodeEvent X)) → EachMeeting (IsExact m) m s es → EachMeeting (λ a b x. IncludesDominating m.has x) m s es → (i j : ℕ) → Carries m.has r es i j → HasCovering (s i) r → HasCovering (after_events m s es j) r
    carried s [] exact areas i j c h = subst (λ n. HasCovering (s n) r) c h
    carried s (e ∷ es) exact areas i j (inl c) h = carried (after_event m s e) es exact.1 areas.1 i j c (keeps m s e exact.0 i r h)
    carried s (e ∷ es) exact areas i j (inr c) h = carried (after_event m s e) es exact.1 areas.1 c.0 j c.2 (brings m s e exact.0 areas.0 i c.0 r c.1 h)

    covered : (s : Nodes) (es : List (NodeEvent X)) → EachMeeting (IsExact m) m s es → EachMeeting (λ a b x. IncludesDominating m.has x) m s es → (j : ℕ) → Comes m.has r es j → HasCovering (after_events m s es j) r
    covered s [] exact areas j c = absurd c
    covered s (Offer node q ∷ es) exact areas j (inl c) = carried (after_event m s (Offer node q)) es exact.1 areas.1 node j c.1 (takes m s (Offer node q) node r (refl, c.0))
    covered s (Offer node q ∷ es) exact areas j (inr c) = covered (after_event m s (Offer node q)) es exact.1 areas.1 j c
    covered s (Meet left right x ∷ es) exact areas j c = covered (after_event m s (Meet left right x)) es exact.1 areas.1 j c

  -- ---- what is held is live

  all_live : (s : Nodes) (es : List (NodeEvent X)) → EachMeeting (LeavesLive m) m s es → ((i : ℕ) → AreLive (s i)) → (j : ℕ) → AreLive (after_events m s es j)
  all_live s [] leaves live j = live j
  all_live s (e ∷ es) leaves live j = all_live (after_event m s e) es leaves.1 (stays_live m s e leaves.0 live) j

  none_live : AreLive []
  unfolding pruned
  none_live = refl

  pub stay_live : (es : List (NodeEvent X)) → EachMeeting (LeavesLive m) m empty_nodes es → (i : ℕ) → AreLive (node_rows m es i)
  stay_live es leaves = all_live empty_nodes es leaves (λ k. none_live)

  -- ---- exact runs

  module _ (es : List (NodeEvent X)) (run : IsExactRun m es) (i : ℕ) where
    pub holds_reached : HoldsReached m.has es i (node_rows m es i)
    holds_reached = record {
      live = stay_live es (each_from (IsExact m) (LeavesLive m) (exact_leaves_live m) empty_nodes es run.exact) i;
      only = reaches_only es (each_from (IsExact m) (MakesUpNoRow m) (exact_makes_up_none m) empty_nodes es run.exact) i;
      all = λ r reaches. covered r empty_nodes es run.exact run.areas i (comes_from_reaches m.has es r i reaches);
    }

    pub holds_live : (reached : List RowValue) → ((r : RowValue) → Contains reached r ↔ Reaches m.has es r i) → node_rows m es i ≡ live reached
    holds_live reached same =
        sym holds_reached.live
        ∙ live_alike (node_rows m es i) reached
        (λ r c. holds_reached.all r ((same r).0 c))
        (λ r c. (r, (same r).1 (holds_reached.only r c), inl refl))

    module _ (x : X) (whole : IncludesDominating m.has x) (reach : AllReach m.has es x i) where
      pub holds_area : filter (m.has x) (node_rows m es i) ≡ filter (m.has x) (live (offered_rows es))
      holds_area =
          let p = m.has x in
          let rows = node_rows m es i in
          ap (filter p) (sym holds_reached.live)
          ∙ filter-live p whole rows
          ∙ live_alike (filter p rows) (filter p (offered_rows es))
          (λ r c. let k = kept_from p (offered_rows es) r c in covering_part m.has x whole rows r k.1 (holds_reached.all r (reach r k.0 k.1)))
          (λ r c.
          let k = kept_from p rows r c in
          (r, kept p (offered_rows es) r (was_offered m.has es r i (holds_reached.only r k.0)) k.1, inl refl))
          ∙ sym (filter-live p whole (offered_rows es))
