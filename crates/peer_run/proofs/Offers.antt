-- What a side offers of its rows: some of them, as a store has them.
use Rattle.std.proofs.Common.{◌≡◌, ℕ, List, map, Option, Some, None, get_or, refl, ap, subst}
use Rattle.std.specs.Prelude.{Result, Ok, Err, IfOk}
use Rattle.std.specs.List.{AllByRecursion, Contains}
use Rattle.std.proofs.lemmas.List.Elements.{All-contains, All-contains_itself}
use Rattle.willow_area.specs.Boxes.{Ranges}
use Rattle.willow_entry.specs.Row.{RowValue, AreLive, place_cmp}
use Rattle.willow_entry.proofs.Members.{member_from_contains, contains_from_member}
use Rattle.willow_entry.proofs.Rising.{all_member, all_from_members}
use Rattle.area_interest.specs.Interest.{interest}
use Rattle.area_interest.specs.Limits.{HasNoLimit}
use Rattle.area_interest.specs.declared.interest.Interest.{Interest}
use Rattle.area_interest.proofs.Offering.{all_among, all_live}
use Rattle.sync_pair.specs.Stores.{AreStores, IsStoreOf}
use Rattle.peer_run.specs.Offered.{offer, offered_within}

-- ---- of a list

-- what holds of all rows and of the rows of interest holds of those that are offered
within_cases : (P : List RowValue → Type 0) (newest bytes : Option ℕ) (x : Ranges) (rows : List RowValue) → P rows → P (interest rows x newest bytes) → P (offered_within newest bytes x rows)
within_cases P None None x rows all some = all
within_cases P None (Some most) x rows all some = some
within_cases P (Some most) bytes x rows all some = some

offer_cases : (P : List RowValue → Type 0) (limits : Interest) (box : Option Ranges) (rows : List RowValue) → P rows → ((x : Ranges) → P (interest rows x limits.newest limits.bytes)) → P (offer limits box rows)
offer_cases P limits None rows all some = all
offer_cases P limits (Some x) rows all some = within_cases P limits.newest limits.bytes x rows all (some x)

module _ (limits : Interest) (box : Option Ranges) (rows : List RowValue) where
  abbrev AreAmong : List RowValue → Type 0
  AreAmong shown = (r : RowValue) → Contains shown r → Contains rows r

  pub offer_among : AreAmong (offer limits box rows)
  offer_among = offer_cases AreAmong limits box rows (λ r c. c) (λ x r c. all_among rows x limits.newest limits.bytes r c)

  pub offer_live : AreLive rows → AreLive (offer limits box rows)
  offer_live live = offer_cases AreLive limits box rows live (λ x. all_live rows x limits.newest limits.bytes live)

  pub offer_all : (P : RowValue → Type 0) → AllByRecursion P rows → AllByRecursion P (offer limits box rows)
  offer_all P all =
      let shown = offer limits box rows in
      all_from_members place_cmp P shown (λ r m. all_member place_cmp P rows all r (member_from_contains rows r (offer_among r (contains_from_member shown r m))))

-- of a store it is one of the same namespace
pub offer_store : (n : List ℕ) (limits : Interest) (box : Option Ranges) (rows : List RowValue) → IsStoreOf n rows → IsStoreOf n (offer limits box rows)
offer_store n limits box rows store =
    let shown = offer limits box rows in
    record {
      live = offer_live limits box rows store.live;
      own = λ k d within. All-contains (λ (r : RowValue). r.entry.namespace ≡ n) rows (get_or shown k d) store.own (offer_among limits box rows (get_or shown k d) (All-contains_itself shown k d within));
    }

pub offer_stores : (n : List ℕ) (limits : Interest) (box : Option Ranges) (a b : List RowValue) → AreStores n a b → AreStores n (offer limits box a) (offer limits box b)
offer_stores n limits box a b are = record { left = offer_store n limits box a are.left; right = offer_store n limits box b are.right }

-- ---- of a snapshot

some_is_none : {X : Type 0} (o : Option X) (x : X) → o ≡ Some x → o ≡ None → ⊥
some_is_none o x some none = absurd cc

-- the rows that are offered of a snapshot in a box
module _ {R E : Type 0} (value : R → RowValue) (limits : Interest) (x : Ranges) (rows : List R) (result : Result (List R) E) where
  abbrev Answers : List RowValue → Type 0
  Answers shown = IfOk result (λ offered. map value offered ≡ shown)

  as_they_are : (answer : Result (List R) E) → IfOk answer (λ offered. offered ≡ rows) → IfOk answer (λ offered. map value offered ≡ map value rows)
  as_they_are (Ok offered) same = ap (map value) same
  as_they_are (Err e) same = tt

  module _ (limited : (HasNoLimit limits → ⊥) → Answers (interest (map value rows) x limits.newest limits.bytes)) (unlimited : HasNoLimit limits → IfOk result (λ offered. offered ≡ rows)) where
    -- where one of them is a limit
    as_limited : (newest bytes : Option ℕ) → limits.newest ≡ newest → limits.bytes ≡ bytes → (HasNoLimit limits → ⊥) → Answers (interest (map value rows) x newest bytes)
    as_limited newest bytes by_number by_bytes some =
        subst (λ (most : Option ℕ). Answers (interest (map value rows) x newest most)) by_bytes (subst (λ (most : Option ℕ). Answers (interest (map value rows) x most limits.bytes)) by_number (limited some))

    within : (newest bytes : Option ℕ) → limits.newest ≡ newest → limits.bytes ≡ bytes → Answers (offered_within newest bytes x (map value rows))
    within None None by_number by_bytes = as_they_are result (unlimited (by_number, by_bytes))
    within None (Some most) by_number by_bytes = as_limited None (Some most) by_number by_bytes (λ none. some_is_none limits.bytes most by_bytes none.1)
    within (Some most) bytes by_number by_bytes = as_limited (Some most) bytes by_number by_bytes (λ none. some_is_none limits.newest most by_number none.0)

    pub offered_there : Answers (offer limits (Some x) (map value rows))
    offered_there = within limits.newest limits.bytes refl refl
