-- What holds of a log and its store, and how one more row keeps it.
use Rattle.std.proofs.Common.{◌≡◌, ◌↔◌, ℕ, ◌<◌, List, [], ◌∷◌, ◌++◌, Option, Some, None, is_some, IsTrue, IfSome, IfNone, map, length, refl, sym, ap, ◌∙◌, subst}
use Rattle.std.specs.declared.sync.Arc.{Arc}
use Rattle.std.proofs.lemmas.Bool.{false≢true}
use Rattle.std.proofs.lemmas.List.{map-append}
use Rattle.willow_entry.specs.declared.row.LogRow.{LogRow}
use Rattle.willow_entry.specs.Row.{RowValue, live, HasCovering, IsCoveringAt}
use Rattle.willow_entry.proofs.Between.{covering_from_at}
use Rattle.ns_state.specs.Log.{IsLog, values, plain_row}
use Rattle.ns_state.specs.declared.live_log.TheConstants.{LOG_LIMIT}
use Rattle.ns_state.proofs.NewRows.{live_covering, covering_of_live}
use Rattle.ns_state.proofs.Logs.{log_more, live_more}

-- what is found tells whether a row is covered
pub told_covered : (rows : List RowValue) (r : RowValue) (o : Option ℕ) → IfSome o (λ i. IsCoveringAt rows i r) → IfNone o (HasCovering rows r → ⊥) → IsTrue (is_some o) ↔ HasCovering rows r
told_covered rows r (Some i) found none = (λ t. covering_from_at rows i r found, λ h. refl)
told_covered rows r None found none = (λ t. absurd (false≢true t), λ h. absurd (none h))

module _ {R : Type 0} (value : R → RowValue) (log : List (LogRow R)) (store : List R) (is : map value store ≡ live (values value log)) (r : RowValue) where
  -- the store covers what the log does
  pub log_covers : HasCovering (map value store) r → HasCovering (values value log) r
  log_covers h = covering_of_live (values value log) r (subst (λ l. HasCovering l r) is h)

  pub store_covers : HasCovering (values value log) r → HasCovering (map value store) r
  store_covers h = subst (λ l. HasCovering l r) (sym is) (live_covering (values value log) r h)

-- one more row, as it is held
pub grown : {R A : Type 0} (value : R → RowValue) (namespace : List ℕ) (log log' : List (LogRow (Arc R A))) (store store' : List R) (held : LogRow (Arc R A)) (l : LogRow R)
    → IsLog value namespace (map plain_row log) × (map value store ≡ live (values value (map plain_row log))) → plain_row held ≡ l → log' ≡ log ++ held ∷ [] → length (map plain_row log) < LOG_LIMIT
    → (value l.row).entry.namespace ≡ namespace → (HasCovering (map value store) (value l.row) → ⊥) → map value store' ≡ live (map value store ++ value l.row ∷ [])
    → IsLog value namespace (map plain_row log') × (map value store' ≡ live (values value (map plain_row log')))
grown value namespace log log' store store' held l keeps seen longer room here uncovered stored =
    let old = map plain_row log in
    let is : map plain_row log' ≡ old ++ l ∷ [] = ap (map plain_row) longer ∙ map-append plain_row log (held ∷ []) ∙ ap (λ k. old ++ k ∷ []) seen in
    subst (λ k. IsLog value namespace k × (map value store' ≡ live (values value k))) (sym is) (
      log_more value namespace old l keeps.0 room here (λ h. uncovered (store_covers value old store keeps.1 (value l.row) h)),
      live_more value store store' old l keeps.1 stored,
    )
