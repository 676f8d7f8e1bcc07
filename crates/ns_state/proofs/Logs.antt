-- What one more row makes of a log and of its store.
use Rattle.std.proofs.Common.{◌≡◌, ℕ, ◌+◌, ◌<◌, ◌≤◌, List, [], ◌∷◌, ◌++◌, map, take, drop, length, filter, refl, sym, ap, ◌∙◌, subst, inl, arith, length-append, Ordering, Less, Equal, Greater}
use Rattle.std.specs.List.{All, take-map, drop-map}
use Rattle.std.specs.Ordering.{match_ordering}
use Rattle.std.specs.declared.sync.Arc.{Arc}
use Rattle.std.proofs.lemmas.List.{map-append, length-map}
use Rattle.std.proofs.lemmas.List.Elements.{All-push}
use Rattle.std.proofs.lemmas.List.Sums.{length-filter, count_by-le-length}
use Rattle.willow_entry.specs.declared.row.LogRow.{LogRow}
use Rattle.willow_entry.specs.Pruning.{new_after, placed, rising, pruned, is_undominated}
use Rattle.willow_entry.specs.Row.{RowValue, is_dominating, place_cmp, live, new, HasCovering}
use Rattle.willow_entry.proofs.Members.{contains_from_member, member_append_right}
use Rattle.willow_entry.proofs.Live.{live_early_left}
use Rattle.ns_state.specs.Log.{IsLog, values, plain_row}
use Rattle.ns_state.specs.declared.live_log.TheConstants.{LOG_LIMIT}
use Rattle.ns_state.proofs.NewRows.{new-with_uncovered}

pub values_more : {R : Type 0} (value : R → RowValue) (log : List (LogRow R)) (l : LogRow R) → values value (log ++ l ∷ []) ≡ values value log ++ value l.row ∷ []
values_more value log l = map-append (λ (k : LogRow _). value k.row) log (l ∷ [])

-- ---- the log

pub log_empty : {R : Type 0} (value : R → RowValue) (namespace : List ℕ) → IsLog value namespace []
unfolding new_after
log_empty value namespace = record { fresh = refl; few = omega arith; one_namespace = λ k d l. absurd (omega arith) }

pub log_more : {R : Type 0} (value : R → RowValue) (namespace : List ℕ) (log : List (LogRow R)) (l : LogRow R) → IsLog value namespace log → length log < LOG_LIMIT → (value l.row).entry.namespace ≡ namespace
    → (HasCovering (values value log) (value l.row) → ⊥) → IsLog value namespace (log ++ l ∷ [])
log_more value namespace log l is room here uncovered = record {
  fresh = subst (λ (k : List RowValue). new k ≡ k) (sym (values_more value log l)) (new-with_uncovered (values value log) (value l.row) uncovered ∙ ap (λ k. k ++ value l.row ∷ []) is.fresh);
  few = omega (arith, length-append log (l ∷ []));
  one_namespace = subst (All (λ (r : RowValue). r.entry.namespace ≡ namespace)) (sym (values_more value log l)) (All-push (λ (r : RowValue). r.entry.namespace ≡ namespace) (values value log) (value l.row) is.one_namespace here);
}

pub new_last : {R : Type 0} (value : R → RowValue) (log log' : List (LogRow R)) (l : LogRow R) → new (values value log) ≡ values value log → (HasCovering (values value log) (value l.row) → ⊥) → log' ≡ log ++ l ∷ []
    → values value log' ≡ new (values value log ++ value l.row ∷ [])
new_last value log log' l fresh uncovered is =
    ap (values value) is ∙ values_more value log l ∙ sym (new-with_uncovered (values value log) (value l.row) uncovered ∙ ap (λ k. k ++ value l.row ∷ []) fresh)

pub covers_last : {R : Type 0} (value : R → RowValue) (log log' : List (LogRow R)) (l : LogRow R) → log' ≡ log ++ l ∷ [] → HasCovering (values value log') (value l.row)
covers_last value log log' l is = subst (λ k. HasCovering k (value l.row)) (sym (ap (values value) is ∙ values_more value log l))
    (value l.row, contains_from_member (values value log ++ value l.row ∷ []) (value l.row) (member_append_right (values value log) (value l.row ∷ []) (value l.row) (inl refl)), inl refl)

-- a part of the log, as it is held
pub plain_part : {R A : Type 0} (from most : ℕ) (log : List (LogRow (Arc R A))) → map plain_row (take most (drop from log)) ≡ take most (drop from (map plain_row log))
plain_part from most log = sym (take-map plain_row most (drop from log)) ∙ ap (take most) (sym (drop-map plain_row from log))

-- ---- the store is no longer than the log

placed_short : {X : Type 0} (cmp : X → X → Ordering) (x : X) (ys : List X) → length (placed cmp x ys) ≤ length ys + 1
placed_short cmp x [] = omega arith
placed_short cmp x (y ∷ ys) =
    let more = placed_short cmp x ys in
    let P : Ordering → Type 0 = λ o. length (match_ordering o (x ∷ y ∷ ys) (y ∷ ys) (y ∷ placed cmp x ys)) ≤ length (y ∷ ys) + 1 in
    let each : (o : Ordering) → P o = elim [ Less ↦ omega arith | Equal ↦ omega arith | Greater ↦ omega arith ] in
    each (cmp x y)

pub rising_short : {X : Type 0} (cmp : X → X → Ordering) (xs : List X) → length (rising cmp xs) ≤ length xs
rising_short cmp [] = omega arith
rising_short cmp (x ∷ xs) = omega (arith, rising_short cmp xs, placed_short cmp x (rising cmp xs))

pub live_short : (rows : List RowValue) → length (live rows) ≤ length rows
unfolding pruned
live_short rows =
    let kept = is_undominated is_dominating rows in
    omega (arith, rising_short place_cmp (filter kept rows), length-filter kept rows, count_by-le-length kept rows)

pub store_short : {R : Type 0} (value : R → RowValue) (store : List R) (log : List (LogRow R)) → map value store ≡ live (values value log) → length log ≤ LOG_LIMIT → length store ≤ LOG_LIMIT
store_short value store log e few = omega (arith, live_short (values value log), ap length e, length-map store value, length-map log (λ (l : LogRow _). value l.row))

-- a store that is live of the log is so with one more row
pub live_more : {R : Type 0} (value : R → RowValue) (store store' : List R) (log : List (LogRow R)) (l : LogRow R) → map value store ≡ live (values value log) → map value store' ≡ live (map value store ++ value l.row ∷ [])
    → map value store' ≡ live (values value (log ++ l ∷ []))
live_more value store store' log l is stored =
    stored ∙ ap (λ k. live (k ++ value l.row ∷ [])) is ∙ live_early_left (values value log) (value l.row ∷ []) ∙ ap live (sym (values_more value log l))
