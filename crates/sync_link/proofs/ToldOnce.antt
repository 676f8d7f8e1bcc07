-- What a side tells of its rows: each once, of those that it offers.
use Rattle.std.proofs.Common.{◌≡◌, ◌⊎◌, inl, inr, ℕ, ◌≤◌, Bool, true, List, [], ◌∷◌, count_by, Contains, Option, None, Some, refl, sym, subst, arith}
use Rattle.std.specs.List.{IsDistinct}
use Rattle.std.proofs.lemmas.List.Sums.{sum_by-cons}
use Rattle.spelling.specs.Form.{AreBytes}
use Rattle.willow_area.specs.Boxes.{Ranges}
use Rattle.willow_entry.specs.Row.{RowValue, same_row}
use Rattle.willow_entry.proofs.Between.{rising_live}
use Rattle.willow_entry.proofs.RowLaws.{same_row_decides}
use Rattle.exchange_rules.proofs.Members.{contains_counted, counted_contains}
use Rattle.exchange_rules.proofs.Once.{distinct_rows}
use Rattle.session_rules.specs.Greeting.{IsGreeted}
use Rattle.session_rules.proofs.Members.{none_in}
use Rattle.session_rules.proofs.Sessions.{rows_few}
use Rattle.sync_core.specs.Place.{rows_of_area}
use Rattle.sync_core.specs.SyncRules.{sync_rules}
use Rattle.sync_core.proofs.Distinct.{rising_distinct}
use Rattle.sync_core.proofs.Lawful.{deciding}
use Rattle.sync_link.specs.Greetings.{greeting}
use Rattle.sync_link.specs.Places.{offers_of, places}
use Rattle.sync_link.specs.Sessions.{Party, own_part, told_rows, box_with, offered_to, rows_with}
use Rattle.sync_link.specs.Granting.{IsGranted}
use Rattle.sync_link.specs.Settling.{IsOpening}
use Rattle.sync_link.proofs.Grants.{is_granted, granted_hello}
use Rattle.sync_link.proofs.Offering.{opening_offered}
use Rattle.sync_link.proofs.Own.{tells_no_more}

none_of : (told : List RowValue) → count_by (λ r. true) told ≤ 0 → told ≡ []
none_of [] h = refl
none_of (r ∷ told) h = absurd (omega (arith, h, sum_by-cons (λ (s : RowValue). 1) r told))

none_twice : (told : List RowValue) → told ≡ [] → IsDistinct same_row told
unfolding IsDistinct
none_twice told none = subst (IsDistinct same_row) (sym none) tt

module _ (p : Party) (rows : List RowValue) (bytes : List ℕ) where
  -- of the rows that pass a test no more than are offered
  abbrev IsFew : List RowValue → Type 0
  IsFew offered = (passes : RowValue → Bool) → count_by passes (told_rows p rows bytes) ≤ count_by passes offered

  few : (told_rows p rows bytes ≡ []) ⊎ ((greeted : IsGreeted (greeting p.rules p.namespace) (own_part p) bytes) × IsFew (rows_with p greeted.hello rows))
  few = rows_few (greeting p.rules p.namespace) places (own_part p) (offers_of p.interest rows) tells_no_more bytes

  pub told_few : AreBytes bytes → (told_rows p rows bytes ≡ []) ⊎ ((granted : IsGranted p bytes) × IsFew (rows_with p granted.hello rows))
  told_few are = elim few [ inl none ↦ inl none | inr told ↦ inr (is_granted p bytes are told.0, subst (λ h. IsFew (rows_with p h rows)) (sym (granted_hello p bytes are told.0)) told.1) ]

  -- a row that is told is among those that are offered
  among : (offered : List RowValue) → IsFew offered → (row : RowValue) → Contains (told_rows p rows bytes) row → Contains offered row
  among offered within row c =
      counted_contains (same_row row) row (λ s e. sym ((same_row_decides row s).0 e)) offered
      (omega (arith, contains_counted (same_row row) (told_rows p rows bytes) row ((same_row_decides row row).1 refl) c, within (same_row row)))

  pub told_offered : AreBytes bytes → (row : RowValue) → Contains (told_rows p rows bytes) row → (granted : IsGranted p bytes) × Contains (rows_with p granted.hello rows) row
  told_offered are row c = elim (told_few are) [
    | inl none ↦ absurd (none_in row (subst (λ l. Contains l row) none c))
    | inr told ↦ (told.0, among (rows_with p told.0.hello rows) told.1 row c)
  ]

  -- the rules of each version know rows alike
  once_in : (box : Option Ranges) (offered : List RowValue) → IsDistinct same_row offered → IsFew (rows_of_area box offered) → IsDistinct same_row (told_rows p rows bytes)
  once_in None offered distinct within = none_twice (told_rows p rows bytes) (none_of (told_rows p rows bytes) (within (λ r. true)))
  once_in (Some x) offered distinct within = distinct_rows (sync_rules 1) (deciding 1) offered x (told_rows p rows bytes) within distinct

  pub told_once : IsOpening p.namespace rows → IsDistinct same_row (told_rows p rows bytes)
  told_once opening = elim few [
    | inl none ↦ none_twice (told_rows p rows bytes) none
    | inr told ↦ (
        let hello = told.0.hello in
        let offered = offered_to p hello rows in
        let live = (opening_offered p.namespace p.interest (box_with p hello) rows opening).live in
        once_in (box_with p hello) offered (rising_distinct offered (rising_live offered live)) told.1)
  ]

  -- where nobody is granted anything
  pub told_nobody : AreBytes bytes → (IsGranted p bytes → ⊥) → IsDistinct same_row (told_rows p rows bytes)
  told_nobody are nobody = elim (told_few are) [ inl none ↦ none_twice (told_rows p rows bytes) none | inr told ↦ absurd (nobody told.0) ]
