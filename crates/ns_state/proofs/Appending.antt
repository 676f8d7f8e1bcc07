-- What holds of a log, its store and its index of recency, and how one more row keeps it.
use Rattle.std.proofs.Common.{◌≡◌, ℕ, ◌≤◌, List, [], ◌∷◌, ◌++◌, false, map, filter, length, Contains, sym, ap, ap₂, ◌∙◌, subst, arith}
use Rattle.std.specs.List.{All, IsDistinct}
use Rattle.std.specs.Ordering.{eq_by_cmp}
use Rattle.std.proofs.lemmas.List.{length-map}
use Rattle.willow_entry.specs.declared.row.LogRow.{LogRow}
use Rattle.willow_entry.specs.Row.{RowValue, is_dominating, place_cmp, live, HasCovering}
use Rattle.willow_entry.proofs.Members.{Member, contains_from_member}
use Rattle.willow_entry.proofs.Between.{live-again}
use Rattle.willow_entry.proofs.Pruning.{pruned_member}
use Rattle.willow_entry.proofs.RowLaws.{rows_prune}
use Rattle.recency_index.specs.declared.ranked.Ranked.{Ranked}
use Rattle.recency_index.specs.Recency.{ranked_of, recency_cmp, newest, has_at, without}
use Rattle.ns_state.specs.Log.{IsLog, values}
use Rattle.recency_index.specs.Rows.{items_of}
use Rattle.ns_state.specs.Recent.{recent}
use Rattle.ns_state.proofs.NewRows.{covering_of_live}
use Rattle.willow_entry.proofs.Live.{live_early_left}
use Rattle.ns_state.proofs.Logs.{values_more, live_short, rising_short}
use Rattle.ns_state.proofs.Recent.{gone_held, gone_distinct, left_free, newest_more}

pub recent_short : {R : Type 0} (value : R → RowValue) (log : List (LogRow R)) → length (recent value log) ≤ length log
recent_short value log =
    let rows = live (values value log) in
    omega (arith, rising_short recency_cmp (items_of rows), length-map rows (λ (r : RowValue). ranked_of r.entry), live_short (values value log), length-map log (λ (l : LogRow _). value l.row))

-- the items that go where the row is stored
abbrev pub gone_of : {R : Type 0} → (R → RowValue) → List R → RowValue → List Ranked
gone_of value store r = items_of (filter (is_dominating r) (map value store))

module _ {R : Type 0} (value : R → RowValue) (namespace : List ℕ) (log : List (LogRow R)) (store : List R) (items : List Ranked) where
  -- what a state keeps
  abbrev pub Keeps : Type 0
  Keeps = IsLog value namespace log × (map value store ≡ live (values value log)) × (items ≡ recent value log)

  module _ (keeps : Keeps) where
    store_live : live (map value store) ≡ map value store
    store_live = live-again (map value store) (values value log) keeps.1

    in_namespace : (s : RowValue) → Member (map value store) s → s.entry.namespace ≡ namespace
    in_namespace s m =
        let held = pruned_member is_dominating place_cmp rows_prune (values value log) s (subst (λ l. Member l s) keeps.1 m) in
        let at = contains_from_member (values value log) s held.0 in
        subst (λ (r : RowValue). r.entry.namespace ≡ namespace) at.2 (keeps.0.one_namespace at.0 s at.1)

    items_are : items ≡ newest (items_of (map value store))
    items_are = keeps.2 ∙ ap (λ l. newest (items_of l)) (sym keeps.1)

    pub held_in : (r : RowValue) (gone : List Ranked) → gone ≡ gone_of value store r → All (λ g. Contains items g) gone
    held_in r gone is = subst (All (λ g. Contains items g)) (sym is) (gone_held namespace (map value store) store_live in_namespace r items items_are)

    pub each_once : (r : RowValue) (gone : List Ranked) → gone ≡ gone_of value store r → IsDistinct (eq_by_cmp recency_cmp) gone
    each_once r gone is = subst (IsDistinct (eq_by_cmp recency_cmp)) (sym is) (gone_distinct namespace (map value store) store_live in_namespace r)

    module _ (r : RowValue) (here : r.entry.namespace ≡ namespace) (uncovered : HasCovering (values value log) r → ⊥) (gone : List Ranked) (gone_is : gone ≡ gone_of value store r) (item : Ranked) (item_is : item ≡ ranked_of r.entry) where
      free_of_store : HasCovering (map value store) r → ⊥
      free_of_store h = uncovered (covering_of_live (values value log) r (subst (λ l. HasCovering l r) keeps.1 h))

      pub place_free : has_at item.subspace item.path (without gone items) ≡ false
      place_free =
          ap (λ i. has_at i.subspace i.path (without gone items)) item_is ∙ ap₂ (λ g l. has_at r.entry.subspace r.entry.path (without g l)) gone_is items_are
          ∙ left_free namespace (map value store) store_live in_namespace r here free_of_store

      -- the items by recency, with the new one
      pub recent_more : (log' : List (LogRow R)) (l : LogRow R) → value l.row ≡ r → log' ≡ log ++ l ∷ [] → newest (item ∷ without gone items) ≡ recent value log'
      recent_more log' l is longer =
          ap (λ i. newest (i ∷ without gone items)) item_is ∙ ap₂ (λ g k. newest (ranked_of r.entry ∷ without g k)) gone_is items_are
          ∙ newest_more namespace (map value store) store_live in_namespace r here free_of_store
          ∙ ap (λ k. newest (items_of k))
          (ap (λ k. live (k ++ r ∷ [])) keeps.1 ∙ live_early_left (values value log) (r ∷ []) ∙ ap (λ s. live (values value log ++ s ∷ [])) (sym is) ∙ ap live (sym (ap (values value) longer ∙ values_more value log l)))
