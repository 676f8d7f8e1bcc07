-- What two stores hold behind a meeting.
use Rattle.std.proofs.Common.{◌≡◌, ℕ, ◌+◌, ◌*◌, ◌≤◌, ◌⊎◌, inl, inr, max, List, ◌++◌, length, Option, Some, Contains, All, sym, ap, ◌∙◌, subst}
use Rattle.std.specs.List.{IsDistinct}
use Rattle.std.proofs.lemmas.List.Elements.{Contains-append_left, Contains-append_right, Contains-append_cases}
use Rattle.willow_area.specs.Boxes.{Ranges}
use Rattle.willow_entry.specs.Row.{RowValue, HasCovering, join, same_row}
use Rattle.willow_entry.proofs.Live.{join_comm, live_same_members}
use Rattle.block_store.specs.InBox.{is_in, rows_in}
use Rattle.exchange_rules.specs.Items.{counted, to_left, to_right}
use Rattle.exchange_rules.specs.Exchange.{Apart, exchange}
use Rattle.exchange_rules.proofs.Converging.{left_only, right_only, left_once, right_once, left_gets, right_gets}
use Rattle.exchange_rules.proofs.Costs.{counted_exchange}
use Rattle.sync_core.specs.SyncRules.{sync_rules}
use Rattle.sync_core.proofs.Lawful.{deciding, disjoint}
use Rattle.sync_pair.specs.Stores.{AreStores}
use Rattle.sync_pair.specs.Agreement.{IsSelfContained, left_after, right_after}
use Rattle.willow_entry.proofs.LiveParts.{kept, kept_from, all_from_contains, join_same, join_covers_left, join_covers_right}
use Rattle.sync_pair.proofs.Stores.{store_cuts, store_distinct}
use Rattle.sync_pair.proofs.SelfContained.{live_inside}

-- ---- what is sent

module _ (version : ℕ) (a b : List RowValue) (x : Ranges) where
  pub only_left : All (Contains (rows_in x b)) (to_left (exchange (sync_rules version) a b (Some x)))
  only_left = all_from_contains (Contains (rows_in x b)) (to_left (exchange (sync_rules version) a b (Some x))) (left_only (sync_rules version) (deciding version) (disjoint version) a b x)

  pub only_right : All (Contains (rows_in x a)) (to_right (exchange (sync_rules version) a b (Some x)))
  only_right = all_from_contains (Contains (rows_in x a)) (to_right (exchange (sync_rules version) a b (Some x))) (right_only (sync_rules version) (deciding version) (disjoint version) a b x)

module _ (version : ℕ) (namespace : List ℕ) (a b : List RowValue) (x : Ranges) (stores : AreStores namespace a b) where
  pub once_left : IsDistinct same_row (to_left (exchange (sync_rules version) a b (Some x)))
  once_left = left_once (sync_rules version) (deciding version) (disjoint version) a b x (store_distinct namespace b stores.right)

  pub once_right : IsDistinct same_row (to_right (exchange (sync_rules version) a b (Some x)))
  once_right = right_once (sync_rules version) (deciding version) (disjoint version) a b x (store_distinct namespace a stores.left)

  pub few_counted : counted (exchange (sync_rules version) a b (Some x)) ≤ max 3 (3 * (length (rows_in x a) + length (rows_in x b)))
  few_counted = counted_exchange (sync_rules version) a b x (disjoint version) (store_cuts namespace a stores.left version) (store_cuts namespace b stores.right version)

-- ---- what each side holds then

pub keeps_left : (version : ℕ) (a b : List RowValue) (x : Option Ranges) → All (HasCovering (left_after version a b x)) a
keeps_left version a b x = all_from_contains (HasCovering (left_after version a b x)) a (join_covers_left a (to_left (exchange (sync_rules version) a b x)))

pub keeps_right : (version : ℕ) (a b : List RowValue) (x : Option Ranges) → All (HasCovering (right_after version a b x)) b
keeps_right version a b x = all_from_contains (HasCovering (right_after version a b x)) b (join_covers_left b (to_right (exchange (sync_rules version) a b x)))

-- a row in the box that is held there or was sent is held or was sent
held_already : (x : Ranges) (rows sent : List RowValue) (r : RowValue) → Contains (rows_in x rows) r ⊎ Contains sent r → Contains rows r ⊎ Contains sent r
held_already x rows sent r (inl c) = inl (kept_from (is_in x) rows r c).0
held_already x rows sent r (inr c) = inr c

-- what a box has of a join does not rest on the rows elsewhere that are joined
part_of_join : (x : Ranges) (rows other : List RowValue) → IsSelfContained x → rows_in x (join rows (rows_in x other)) ≡ rows_in x (join rows other)
part_of_join x rows other whole =
    live_inside x (rows ++ rows_in x other) whole
    ∙ live_same_members (rows_in x (rows ++ rows_in x other)) (rows_in x (rows ++ other)) (λ r. (there r, back r))
    ∙ sym (live_inside x (rows ++ other) whole)
  where
    there : (r : RowValue) → Contains (rows_in x (rows ++ rows_in x other)) r → Contains (rows_in x (rows ++ other)) r
    there r c =
        let k = kept_from (is_in x) (rows ++ rows_in x other) r c in
        kept (is_in x) (rows ++ other) r (elim (Contains-append_cases rows (rows_in x other) r k.0) [
          | inl own ↦ Contains-append_left rows other r own
          | inr more ↦ Contains-append_right rows other r (kept_from (is_in x) other r more).0
        ]) k.1

    back : (r : RowValue) → Contains (rows_in x (rows ++ other)) r → Contains (rows_in x (rows ++ rows_in x other)) r
    back r c =
        let k = kept_from (is_in x) (rows ++ other) r c in
        kept (is_in x) (rows ++ rows_in x other) r (elim (Contains-append_cases rows other r k.0) [
          | inl own ↦ Contains-append_left rows (rows_in x other) r own
          | inr more ↦ Contains-append_right rows (rows_in x other) r (kept (is_in x) other r more k.1)
        ]) k.1

module _ (version : ℕ) (namespace : List ℕ) (a b : List RowValue) (x : Ranges) (stores : AreStores namespace a b) (apart : Apart (sync_rules version) a b x) where
  pub converges_left : left_after version a b (Some x) ≡ join a (rows_in x b)
  converges_left =
      let sent = to_left (exchange (sync_rules version) a b (Some x)) in
      join_same a sent (rows_in x b)
      (λ r c. inr (left_only (sync_rules version) (deciding version) (disjoint version) a b x r c))
      (λ r c. held_already x a sent r (left_gets (sync_rules version) (deciding version) (disjoint version) a b x (store_cuts namespace a stores.left version) (store_cuts namespace b stores.right version) apart r c))

  pub converges_right : right_after version a b (Some x) ≡ join b (rows_in x a)
  converges_right =
      let sent = to_right (exchange (sync_rules version) a b (Some x)) in
      join_same b sent (rows_in x a)
      (λ r c. inr (right_only (sync_rules version) (deciding version) (disjoint version) a b x r c))
      (λ r c. held_already x b sent r (right_gets (sync_rules version) (deciding version) (disjoint version) a b x (store_cuts namespace a stores.left version) (store_cuts namespace b stores.right version) apart r c))

  pub gets_left : All (HasCovering (left_after version a b (Some x))) (rows_in x b)
  gets_left = all_from_contains (HasCovering (left_after version a b (Some x))) (rows_in x b) (λ r c. subst (λ rows. HasCovering rows r) (sym converges_left) (join_covers_right a (rows_in x b) r c))

  pub gets_right : All (HasCovering (right_after version a b (Some x))) (rows_in x a)
  gets_right = all_from_contains (HasCovering (right_after version a b (Some x))) (rows_in x a) (λ r c. subst (λ rows. HasCovering rows r) (sym converges_right) (join_covers_right b (rows_in x a) r c))

  module _ (whole : IsSelfContained x) where
    pub agrees_left : rows_in x (left_after version a b (Some x)) ≡ rows_in x (join a b)
    agrees_left = ap (rows_in x) converges_left ∙ part_of_join x a b whole

    pub agrees_right : rows_in x (right_after version a b (Some x)) ≡ rows_in x (join a b)
    agrees_right = ap (rows_in x) converges_right ∙ part_of_join x b a whole ∙ ap (rows_in x) (join_comm b a)
