-- What an event does to the rows of each node.
use Rattle.std.proofs.Common.{◌≡◌, ℕ, ◌==◌, ◌⊎◌, inl, inr, true, false, cond, List, [], ◌∷◌, filter, Contains, refl, sym, subst, ◌∙◌, arith}
use Rattle.std.proofs.lemmas.Bool.{false≢true, eqb-true, eq-eqb, cond_both}
use Rattle.willow_entry.specs.Row.{RowValue, AreLive, HasCovering, join}
use Rattle.willow_entry.proofs.Live.{live-live}
use Rattle.willow_entry.proofs.LiveParts.{kept_from, join_covers_right}
use Rattle.mesh_rules.specs.Events.{NodeEvent, Offer, Meet, Mesh, Nodes, after_event}
use Rattle.mesh_rules.specs.Reaching.{TakesTo}
use Rattle.mesh_rules.specs.Meetings.{MakesUpNoRow, LeavesLive, IsExact, IncludesDominating, IfMeeting}
use Rattle.mesh_rules.proofs.Covered.{the_one, join_keeps, join_adds, join_made_of, covering_part}

-- the event offers the row to the node
abbrev pub OffersTo : {X : Type 0} → NodeEvent X → ℕ → RowValue → Type 0
OffersTo (Offer node s) i r = (node ≡ i) × (s ≡ r)
OffersTo (Meet left right x) i r = ⊥

-- of the node that is offered a row, and of each other one
offer_cases : {X : Type 0} (m : Mesh X) (s : Nodes) (node : ℕ) (q : RowValue) (i : ℕ) (P : List RowValue → Type 0) → (i ≡ node → P (join (s i) (q ∷ []))) → (i == node ≡ false → P (s i)) → P (after_event m s (Offer node q) i)
unfolding after_event
offer_cases m s node q i P here there = cond_both (i == node) (join (s i) (q ∷ [])) (s i) P (λ e. here (eqb-true i node e)) there

-- of the caller, the node that it meets, and each other one
meet_cases : {X : Type 0} (m : Mesh X) (s : Nodes) (left right : ℕ) (x : X) (i : ℕ) (P : List RowValue → Type 0)
    → (i ≡ left → P (m.left (s left) (s right) x)) → (i == left ≡ false → i ≡ right → P (m.right (s left) (s right) x)) → (i == left ≡ false → i == right ≡ false → P (s i))
    → P (after_event m s (Meet left right x) i)
unfolding after_event
meet_cases m s left right x i P calls answers others =
    cond_both (i == left) (m.left (s left) (s right) x) (cond (i == right) (m.right (s left) (s right) x) (s i)) P
    (λ e. calls (eqb-true i left e))
    (λ n. cond_both (i == right) (m.right (s left) (s right) x) (s i) P (λ e. answers n (eqb-true i right e)) (others n))

-- ---- exact meetings

module _ {X : Type 0} (m : Mesh X) (a b : List RowValue) (x : X) (exact : IsExact m a b x) where
  part : (xs ys : List RowValue) (r : RowValue) → Contains (join xs (filter (m.has x) ys)) r → Contains xs r ⊎ Contains ys r × (m.has x r ≡ true)
  part xs ys r c = elim (join_made_of xs (filter (m.has x) ys) r c) [ inl own ↦ inl own | inr more ↦ inr (kept_from (m.has x) ys r more) ]

  pub exact_makes_up_none : MakesUpNoRow m a b x
  exact_makes_up_none = record {
    left = λ r c. part a b r (subst (λ rows. Contains rows r) exact.left c);
    right = λ r c. part b a r (subst (λ rows. Contains rows r) exact.right c);
  }

  pub exact_leaves_live : LeavesLive m a b x
  exact_leaves_live = record { left = subst AreLive (sym exact.left) (live-live _); right = subst AreLive (sym exact.right) (live-live _) }

  pub left_keeps : (r : RowValue) → HasCovering a r → HasCovering (m.left a b x) r
  left_keeps r h = subst (λ rows. HasCovering rows r) (sym exact.left) (join_keeps a (filter (m.has x) b) r h)

  pub right_keeps : (r : RowValue) → HasCovering b r → HasCovering (m.right a b x) r
  right_keeps r h = subst (λ rows. HasCovering rows r) (sym exact.right) (join_keeps b (filter (m.has x) a) r h)

  module _ (whole : IncludesDominating m.has x) (r : RowValue) (passes : m.has x r ≡ true) where
    pub left_gets : HasCovering b r → HasCovering (m.left a b x) r
    left_gets h = subst (λ rows. HasCovering rows r) (sym exact.left) (join_adds a (filter (m.has x) b) r (covering_part m.has x whole b r passes h))

    pub right_gets : HasCovering a r → HasCovering (m.right a b x) r
    right_gets h = subst (λ rows. HasCovering rows r) (sym exact.right) (join_adds b (filter (m.has x) a) r (covering_part m.has x whole a r passes h))

module _ {X : Type 0} (m : Mesh X) (s : Nodes) where
  -- a row that a node holds it held before, or it is offered, or it came from another node
  pub holds_only : (e : NodeEvent X) → IfMeeting (MakesUpNoRow m) s e → (i : ℕ) (r : RowValue) → Contains (after_event m s e i) r
      → Contains (s i) r ⊎ (OffersTo e i r ⊎ ((k : ℕ) × Contains (s k) r × TakesTo m.has r k i e))
  holds_only (Offer node q) sound i r =
      offer_cases m s node q i (λ rows. Contains rows r → Contains (s i) r ⊎ (((node ≡ i) × (q ≡ r)) ⊎ ((k : ℕ) × Contains (s k) r × ⊥)))
      (λ here c. elim (join_made_of (s i) (q ∷ []) r c) [ inl own ↦ inl own | inr new ↦ inr (inl (sym here, the_one q r new)) ])
      (λ there c. inl c)
  holds_only (Meet left right x) sound i r =
      meet_cases m s left right x i (λ rows. Contains rows r → Contains (s i) r ⊎ (⊥ ⊎ ((k : ℕ) × Contains (s k) r × TakesTo m.has r k i (Meet left right x))))
      (λ calls c. elim (sound.left r c) [
        | inl own ↦ inl (subst (λ k. Contains (s k) r) (sym calls) own)
        | inr more ↦ inr (inr (right, more.0, (inr (refl, calls), more.1)))
      ])
      (λ n answers c. elim (sound.right r c) [
        | inl own ↦ inl (subst (λ k. Contains (s k) r) (sym answers) own)
        | inr more ↦ inr (inr (left, more.0, (inl (refl, answers), more.1)))
      ])
      (λ n o c. inl c)

  -- what a node covers it covers behind the event
  pub keeps : (e : NodeEvent X) → IfMeeting (IsExact m) s e → (i : ℕ) (r : RowValue) → HasCovering (s i) r → HasCovering (after_event m s e i) r
  keeps (Offer node q) exact i r h = offer_cases m s node q i (λ rows. HasCovering rows r) (λ here. join_keeps (s i) (q ∷ []) r h) (λ there. h)
  keeps (Meet left right x) exact i r h =
      meet_cases m s left right x i (λ rows. HasCovering rows r)
      (λ calls. left_keeps m (s left) (s right) x exact r (subst (λ k. HasCovering (s k) r) calls h))
      (λ n answers. right_keeps m (s left) (s right) x exact r (subst (λ k. HasCovering (s k) r) answers h))
      (λ n o. h)

  -- a row that is offered to a node is covered there
  pub takes : (e : NodeEvent X) (i : ℕ) (r : RowValue) → OffersTo e i r → HasCovering (after_event m s e i) r
  takes (Offer node q) i r o =
      offer_cases m s node q i (λ rows. HasCovering rows r)
      (λ here. join_covers_right (s i) (q ∷ []) r (0, omega arith, o.1))
      (λ there. absurd (false≢true (sym there ∙ eq-eqb i node (sym o.0))))
  takes (Meet left right x) i r o = absurd o

  -- where two nodes meet over an area that includes a row which one of them covers, the other covers it then
  pub brings : (e : NodeEvent X) → IfMeeting (IsExact m) s e → IfMeeting (λ a b x. IncludesDominating m.has x) s e → (i k : ℕ) (r : RowValue) → TakesTo m.has r i k e → HasCovering (s i) r → HasCovering (after_event m s e k) r
  brings (Offer node q) exact whole i k r to = absurd to
  brings (Meet left right x) exact whole i k r to = elim to.0 [
    | inl at ↦ λ h. let own : HasCovering (s left) r = subst (λ n. HasCovering (s n) r) at.0 h in
        meet_cases m s left right x k (λ rows. HasCovering rows r)
        (λ calls. left_keeps m (s left) (s right) x exact r own)
        (λ n answers. right_gets m (s left) (s right) x exact whole r to.1 own)
        (λ n o. absurd (false≢true (sym o ∙ eq-eqb k right at.1)))
    | inr at ↦ λ h. let own : HasCovering (s right) r = subst (λ n. HasCovering (s n) r) at.0 h in
        meet_cases m s left right x k (λ rows. HasCovering rows r)
        (λ calls. left_gets m (s left) (s right) x exact whole r to.1 own)
        (λ n answers. absurd (false≢true (sym n ∙ eq-eqb k left at.1)))
        (λ n o. absurd (false≢true (sym n ∙ eq-eqb k left at.1)))
  ]

  -- live rows stay so
  pub stays_live : (e : NodeEvent X) → IfMeeting (LeavesLive m) s e → ((i : ℕ) → AreLive (s i)) → (i : ℕ) → AreLive (after_event m s e i)
  stays_live (Offer node q) leaves live i = offer_cases m s node q i AreLive (λ here. live-live _) (λ there. live i)
  stays_live (Meet left right x) leaves live i = meet_cases m s left right x i AreLive (λ calls. leaves.left) (λ n answers. leaves.right) (λ n o. live i)
