-- What two stores come to hold when they meet, and that their rows in the area alone decide it.
use Rattle.std.proofs.Common.{◌≡◌, ◌⊎◌, ℕ, List, map, Contains, Option, Some, None, inl, inr, refl, sym, ap, ◌∙◌}
use Rattle.willow_area.specs.Boxes.{Ranges}
use Rattle.willow_entry.specs.Row.{RowValue, join}
use Rattle.willow_entry.proofs.LiveParts.{join_same, kept_from}
use Rattle.block_store.specs.InBox.{is_in, rows_in}
use Rattle.exchange_rules.specs.Items.{to_left, to_right}
use Rattle.exchange_rules.specs.Exchange.{Apart}
use Rattle.exchange_rules.specs.Premises.{CanCut}
use Rattle.exchange_rules.proofs.Converging.{left_only, right_only, left_gets, right_gets}
use Rattle.exchange_rules.proofs.TwoExchanges.{exchange_alike}
use Rattle.sync_hello.specs.declared.version.TheConstants.{HIGHEST_VERSION}
use Rattle.sync_core.specs.Flat.{TurnValue}
use Rattle.sync_core.specs.Place.{rows_of_area}
use Rattle.sync_core.specs.SyncRules.{sync_rules}
use Rattle.sync_core.proofs.Lawful.{deciding, disjoint}
use Rattle.sync_pair.specs.Meeting.{meeting, turn_bytes}
use Rattle.sync_pair.specs.Stores.{AreStores}
use Rattle.sync_pair.proofs.Stores.{store_cuts}
use Rattle.peer_run.specs.MeetHeadline.{Stores, turns_of, left_offer, right_offer, left_behind, right_behind, FingerprintsTell, HaveSameInArea, MeetAlike}
use Rattle.peer_run.specs.Transcript.{transcript}
use Rattle.peer_run.proofs.Offers.{offer_among, offer_stores}

-- ---- where fingerprints tell rows apart

-- a row in the box that is offered or was sent is held or was sent
held_already : (x : Ranges) (held shown sent : List RowValue) (r : RowValue) → ((r : RowValue) → Contains shown r → Contains held r) → Contains (rows_in x shown) r ⊎ Contains sent r → Contains held r ⊎ Contains sent r
held_already x held shown sent r among (inl c) = inl (among r (kept_from (is_in x) shown r c).0)
held_already x held shown sent r among (inr c) = inr c

module _ (n : List ℕ) (s : Stores) (are : AreStores n s.left s.right) where
  -- what both offer
  offers : AreStores n (left_offer s) (right_offer s)
  offers = offer_stores n s.limits s.area s.left s.right are

  left_cuts : CanCut (sync_rules HIGHEST_VERSION) (left_offer s)
  left_cuts = store_cuts n (left_offer s) offers.left HIGHEST_VERSION

  right_cuts : CanCut (sync_rules HIGHEST_VERSION) (right_offer s)
  right_cuts = store_cuts n (right_offer s) offers.right HIGHEST_VERSION

  pub left_converges : FingerprintsTell s → left_behind s ≡ join s.left (rows_of_area s.area (right_offer s))
  left_converges tell = over s.area (left_offer s) (right_offer s) left_cuts right_cuts (offer_among s.limits s.area s.left) tell where
    over : (area : Option Ranges) (a b : List RowValue) → CanCut (sync_rules HIGHEST_VERSION) a → CanCut (sync_rules HIGHEST_VERSION) b → ((r : RowValue) → Contains a r → Contains s.left r)
        → ((box : Ranges) → area ≡ Some box → Apart (sync_rules HIGHEST_VERSION) a b box) → join s.left (to_left (meeting HIGHEST_VERSION a b area)) ≡ join s.left (rows_of_area area b)
    over None a b cuts cuts_too among apart = refl
    over (Some box) a b cuts cuts_too among apart =
        let sent = to_left (meeting HIGHEST_VERSION a b (Some box)) in
        join_same s.left sent (rows_in box b)
        (λ r c. inr (left_only (sync_rules HIGHEST_VERSION) (deciding HIGHEST_VERSION) (disjoint HIGHEST_VERSION) a b box r c))
        (λ r c. held_already box s.left a sent r among (left_gets (sync_rules HIGHEST_VERSION) (deciding HIGHEST_VERSION) (disjoint HIGHEST_VERSION) a b box cuts cuts_too (apart box refl) r c))

  pub right_converges : FingerprintsTell s → right_behind s ≡ join s.right (rows_of_area s.area (left_offer s))
  right_converges tell = over s.area (left_offer s) (right_offer s) left_cuts right_cuts (offer_among s.limits s.area s.right) tell where
    over : (area : Option Ranges) (a b : List RowValue) → CanCut (sync_rules HIGHEST_VERSION) a → CanCut (sync_rules HIGHEST_VERSION) b → ((r : RowValue) → Contains b r → Contains s.right r)
        → ((box : Ranges) → area ≡ Some box → Apart (sync_rules HIGHEST_VERSION) a b box) → join s.right (to_right (meeting HIGHEST_VERSION a b area)) ≡ join s.right (rows_of_area area a)
    over None a b cuts cuts_too among apart = refl
    over (Some box) a b cuts cuts_too among apart =
        let sent = to_right (meeting HIGHEST_VERSION a b (Some box)) in
        join_same s.right sent (rows_in box a)
        (λ r c. inr (right_only (sync_rules HIGHEST_VERSION) (deciding HIGHEST_VERSION) (disjoint HIGHEST_VERSION) a b box r c))
        (λ r c. held_already box s.right b sent r among (right_gets (sync_rules HIGHEST_VERSION) (deciding HIGHEST_VERSION) (disjoint HIGHEST_VERSION) a b box cuts cuts_too (apart box refl) r c))

-- ---- the same rows in the area

-- over one area
turns_over : (area : Option Ranges) (a b c d : List RowValue) → rows_of_area area a ≡ rows_of_area area c → rows_of_area area b ≡ rows_of_area area d → meeting HIGHEST_VERSION a b area ≡ meeting HIGHEST_VERSION c d area
turns_over None a b c d left right = refl
turns_over (Some box) a b c d left right = exchange_alike (sync_rules HIGHEST_VERSION) (disjoint HIGHEST_VERSION) box a c b d left right

same_turns : (s t : Stores) → HaveSameInArea s t → turns_of s ≡ turns_of t
same_turns s t same =
    turns_over s.area (left_offer s) (right_offer s) (left_offer t) (right_offer t) (same.left ∙ ap (λ (x : Option Ranges). rows_of_area x (left_offer t)) (sym same.area))
    (same.right ∙ ap (λ (x : Option Ranges). rows_of_area x (right_offer t)) (sym same.area))
    ∙ ap (meeting HIGHEST_VERSION (left_offer t) (right_offer t)) same.area

pub meet_alike : (s t : Stores) → HaveSameInArea s t → MeetAlike s t
meet_alike s t same =
    let turns = same_turns s t same in
    record {
      said = ap (λ (ts : List TurnValue). transcript (map (turn_bytes HIGHEST_VERSION) ts)) turns;
      to_left = ap (λ (ts : List TurnValue). to_left ts) turns;
      to_right = ap (λ (ts : List TurnValue). to_right ts) turns;
    }
