-- The meetings of a mesh whose nodes exchange rows: they make up no row, leave live rows, and are exact where fingerprints
-- tell rows apart.
use Rattle.std.proofs.Common.{ℕ, ◌==◌, inl, inr, List, [], ◌∷◌, Some, cond, Contains, refl, sym, ap, subst, ◌∙◌}
use Rattle.std.specs.List.{AllByRecursion}
use Rattle.std.proofs.lemmas.Bool.{cond_both}
use Rattle.willow_area.specs.Area.{IsArea}
use Rattle.willow_area.specs.AreaBox.{area_box}
use Rattle.willow_area.specs.declared.area.Area.{Area}
use Rattle.willow_entry.specs.Pruning.{pruned}
use Rattle.willow_entry.specs.Row.{RowValue, AreLive, join}
use Rattle.willow_entry.proofs.Live.{live-live}
use Rattle.willow_entry.proofs.Members.{member_from_contains}
use Rattle.exchange_rules.specs.Exchange.{Apart}
use Rattle.exchange_rules.specs.Items.{to_left, to_right}
use Rattle.peer_listing.specs.Generator.{generator_namespace}
use Rattle.sync_core.specs.SyncRules.{sync_rules}
use Rattle.sync_pair.specs.Agreement.{left_after, right_after}
use Rattle.sync_pair.specs.Meeting.{meeting}
use Rattle.sync_pair.proofs.Agreeing.{converges_left, converges_right}
use Rattle.mesh_rules.specs.Events.{NodeEvent, Offer, Meet, Nodes, after_event, empty_nodes}
use Rattle.mesh_rules.specs.Meetings.{MakesUpNoRow, LeavesLive, IsExact, IncludesDominating, EachMeeting}
use Rattle.mesh_rules.proofs.Covered.{join_made_of, the_one}
use Rattle.mesh_rules.proofs.Steps.{stays_live}
use Rattle.mesh_core.specs.Areas.{has_row, IsOpenEnded}
use Rattle.mesh_core.specs.Exchanging.{exchanging}
use Rattle.mesh_core.specs.Generated.{IsGenerated, HoldGenerated}
use Rattle.mesh_core.proofs.Open.{includes_dominating}
use Rattle.mesh_core.proofs.Rooms.{sent_left, sent_right, both_stores}
use Rattle.mesh_core.proofs.Triples.{box_has, parts_same}

-- a row that is offered is the generator's
abbrev pub OffersGenerated : NodeEvent Area → Type 0
OffersGenerated (Offer node r) = IsGenerated r
OffersGenerated (Meet left right area) = Unit {0}

-- and the area of a meeting is an open-ended one within the limits
abbrev pub IsGiven : NodeEvent Area → Type 0
IsGiven (Offer node r) = IsGenerated r
IsGiven (Meet left right area) = IsArea area × IsOpenEnded area

-- ---- what nodes hold stays such

none_live : AreLive []
unfolding pruned
none_live = refl

pub none_hold : HoldGenerated empty_nodes
none_hold = record { generated = λ i r c. absurd (member_from_contains [] r c); live = λ i. none_live }

module _ (version : ℕ) where
  leaves_live : (a b : List RowValue) (area : Area) → LeavesLive (exchanging version) a b area
  leaves_live a b area = record { left = live-live _; right = live-live _ }

  after_generated : (s : Nodes) (e : NodeEvent Area) → HoldGenerated s → OffersGenerated e → (i : ℕ) (r : RowValue) → Contains (after_event (exchanging version) s e i) r → IsGenerated r
  unfolding after_event
  after_generated s (Offer node q) hold given i r =
      cond_both (i == node) (join (s i) (q ∷ [])) (s i) (λ rows. Contains rows r → IsGenerated r)
      (λ here c. elim (join_made_of (s i) (q ∷ []) r c) [ inl own ↦ hold.generated i r own | inr new ↦ subst IsGenerated (the_one q r new) given ])
      (λ there c. hold.generated i r c)
  after_generated s (Meet left right area) hold given i r =
      let lefts = left_after version (s left) (s right) (Some (area_box area)) in
      let rights = right_after version (s left) (s right) (Some (area_box area)) in
      cond_both (i == left) lefts (cond (i == right) rights (s i)) (λ rows. Contains rows r → IsGenerated r)
      (λ here c. elim (join_made_of (s left) (to_left (meeting version (s left) (s right) (Some (area_box area)))) r c) [
        | inl own ↦ hold.generated left r own
        | inr sent ↦ hold.generated right r (sent_left version (s left) (s right) (area_box area) r sent).0
      ])
      (λ other. cond_both (i == right) rights (s i) (λ rows. Contains rows r → IsGenerated r)
      (λ here c. elim (join_made_of (s right) (to_right (meeting version (s left) (s right) (Some (area_box area)))) r c) [
        | inl own ↦ hold.generated right r own
        | inr sent ↦ hold.generated left r (sent_right version (s left) (s right) (area_box area) r sent).0
      ])
      (λ there c. hold.generated i r c))

  after_live : (s : Nodes) (e : NodeEvent Area) → HoldGenerated s → (i : ℕ) → AreLive (after_event (exchanging version) s e i)
  after_live s (Offer node q) hold = stays_live (exchanging version) s (Offer node q) tt hold.live
  after_live s (Meet left right area) hold = stays_live (exchanging version) s (Meet left right area) (leaves_live (s left) (s right) area) hold.live

  pub after_hold : (s : Nodes) (e : NodeEvent Area) → HoldGenerated s → OffersGenerated e → HoldGenerated (after_event (exchanging version) s e)
  after_hold s e hold given = record { generated = after_generated s e hold given; live = after_live s e hold }

  -- ---- each meeting

  module _ (s : Nodes) (left right : ℕ) (area : Area) (hold : HoldGenerated s) (fits : IsArea area) where
    makes_up_none : MakesUpNoRow (exchanging version) (s left) (s right) area
    makes_up_none =
        let a = s left in
        let b = s right in
        let x = area_box area in
        record {
          left = λ r c. elim (join_made_of a (to_left (meeting version a b (Some x))) r c) [
            | inl own ↦ inl own
            | inr sent ↦ let from = sent_left version a b x r sent in inr (from.0, sym (box_has area fits r (hold.generated right r from.0)) ∙ from.1)
          ];
          right = λ r c. elim (join_made_of b (to_right (meeting version a b (Some x))) r c) [
            | inl own ↦ inl own
            | inr sent ↦ let from = sent_right version a b x r sent in inr (from.0, sym (box_has area fits r (hold.generated left r from.0)) ∙ from.1)
          ];
        }

    exact : Apart (sync_rules version) (s left) (s right) (area_box area) → IsExact (exchanging version) (s left) (s right) area
    exact apart =
        let a = s left in
        let b = s right in
        let x = area_box area in
        let stores = both_stores version a b x (hold.generated left) (hold.generated right) (hold.live left) (hold.live right) in
        record {
          left = converges_left version generator_namespace a b x stores apart ∙ ap (join a) (parts_same area fits b (hold.generated right));
          right = converges_right version generator_namespace a b x stores apart ∙ ap (join b) (parts_same area fits a (hold.generated left));
        }

  -- ---- all meetings of a run

  pub live_all : (s : Nodes) (es : List (NodeEvent Area)) → EachMeeting (LeavesLive (exchanging version)) (exchanging version) s es
  live_all s [] = tt
  live_all s (Offer node r ∷ es) = (tt, live_all (after_event (exchanging version) s (Offer node r)) es)
  live_all s (Meet left right area ∷ es) = (leaves_live (s left) (s right) area, live_all (after_event (exchanging version) s (Meet left right area)) es)

  pub made_up_none_all : (s : Nodes) (es : List (NodeEvent Area)) → AllByRecursion IsGiven es → HoldGenerated s → EachMeeting (MakesUpNoRow (exchanging version)) (exchanging version) s es
  made_up_none_all s [] given hold = tt
  made_up_none_all s (Offer node r ∷ es) given hold = (tt, made_up_none_all (after_event (exchanging version) s (Offer node r)) es given.1 (after_hold s (Offer node r) hold given.0))
  made_up_none_all s (Meet left right area ∷ es) given hold = (
    makes_up_none s left right area hold given.0.0,
    made_up_none_all (after_event (exchanging version) s (Meet left right area)) es given.1 (after_hold s (Meet left right area) hold tt),
  )

  pub exact_all : (s : Nodes) (es : List (NodeEvent Area)) → AllByRecursion IsGiven es → HoldGenerated s
      → EachMeeting (λ a b area. Apart (sync_rules version) a b (area_box area)) (exchanging version) s es → EachMeeting (IsExact (exchanging version)) (exchanging version) s es
  exact_all s [] given hold apart = tt
  exact_all s (Offer node r ∷ es) given hold apart = (tt, exact_all (after_event (exchanging version) s (Offer node r)) es given.1 (after_hold s (Offer node r) hold given.0) apart.1)
  exact_all s (Meet left right area ∷ es) given hold apart = (
    exact s left right area hold given.0.0 apart.0,
    exact_all (after_event (exchanging version) s (Meet left right area)) es given.1 (after_hold s (Meet left right area) hold tt) apart.1,
  )

  pub open_all : (s : Nodes) (es : List (NodeEvent Area)) → AllByRecursion IsGiven es → EachMeeting (λ a b area. IncludesDominating has_row area) (exchanging version) s es
  open_all s [] given = tt
  open_all s (Offer node r ∷ es) given = (tt, open_all (after_event (exchanging version) s (Offer node r)) es given.1)
  open_all s (Meet left right area ∷ es) given = (includes_dominating area given.0.1, open_all (after_event (exchanging version) s (Meet left right area)) es given.1)
