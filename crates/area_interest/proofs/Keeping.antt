-- Rows that a store takes one after the other, where a test passes them.
use Rattle.std.proofs.Common.{◌≡◌, ◌+◌, ◌-◌, ◌^◌, ◌<◌, ◌≤◌, Bool, true, false, cond, List, [], ◌∷◌, ◌++◌, length, map, filter, append-nil, append_assoc, refl, sym, ap, ◌∙◌, arith}
use Rattle.std.specs.declared.sync.Arc.{Arc}
use Rattle.std.proofs.lemmas.List.{map-append, length-append}
use Rattle.std.proofs.lemmas.List.Elements.{filter-append}
use Rattle.willow_entry.specs.Pruning.{pruned}
use Rattle.willow_entry.specs.Row.{RowValue, live}
use Rattle.willow_entry.proofs.Live.{live_early_left}
use Rattle.block_store.specs.Held.{values_of}

pub none_kept : [] ≡ live []
unfolding pruned
none_kept = refl

pub kept_inside : (p : RowValue → Bool) (seen : List RowValue) (r : RowValue) (old new : List RowValue) → old ≡ live (filter p seen) → p r ≡ true → new ≡ live (old ++ r ∷ []) → new ≡ live (filter p (seen ++ r ∷ []))
kept_inside p seen r old new is passes made =
    made ∙ ap (λ l. live (l ++ r ∷ [])) is ∙ live_early_left (filter p seen) (r ∷ [])
    ∙ ap live (sym (filter-append p seen (r ∷ []) ∙ ap (λ b. filter p seen ++ cond b (r ∷ []) []) passes))

pub kept_outside : (p : RowValue → Bool) (seen : List RowValue) (r : RowValue) (old : List RowValue) → old ≡ live (filter p seen) → p r ≡ false → old ≡ live (filter p (seen ++ r ∷ []))
kept_outside p seen r old is not_it =
    is ∙ ap live (sym (filter-append p seen (r ∷ []) ∙ ap (λ b. filter p seen ++ cond b (r ∷ []) []) not_it ∙ append-nil (filter p seen)))

-- ---- one after the other

-- the store has what is kept of the rows so far, and these are the first of all
pub record HasKept {R A : Type 0} (value : R → RowValue) (p : RowValue → Bool) (all rows left : List (Arc R A)) (store : List R) : Type 0 where
  pub kept : map value store ≡ live (filter p (values_of value rows))
  pub few : length store ≤ length rows
  pub whole : all ≡ rows ++ left

module _ {R A : Type 0} (value : R → RowValue) (p : RowValue → Bool) (all rows left : List (Arc R A)) (store : List R) (so_far : HasKept value p all rows left store) where
  module _ (row : Arc R A) (rest : List (Arc R A)) (next : left ≡ row ∷ rest) where
    pub room_left : length all < 2 ^ 31 → length store < 2 ^ 32 - 1
    room_left few = omega (arith, few, so_far.few, ap length so_far.whole, ap length next, length-append rows left)

    pub one_more_kept : (new : List R) → ((seen : List RowValue) → map value store ≡ live (filter p seen) → map value new ≡ live (filter p (seen ++ value row.value ∷ []))) → length new ≤ length store + 1 → HasKept value p all (rows ++ row ∷ []) rest new
    one_more_kept new taken more = record {
      kept = taken (values_of value rows) so_far.kept ∙ ap (λ (l : List RowValue). live (filter p l)) (sym (map-append (λ (a : Arc R A). value a.value) rows (row ∷ [])));
      few = omega (arith, more, so_far.few, length-append rows (row ∷ []));
      whole = so_far.whole ∙ ap (λ (l : List (Arc R A)). rows ++ l) next ∙ sym (append_assoc rows (row ∷ []) rest);
    }

  pub all_are_kept : left ≡ [] → map value store ≡ live (filter p (values_of value all))
  all_are_kept none = so_far.kept ∙ ap (λ (l : List (Arc R A)). live (filter p (values_of value l))) (sym (so_far.whole ∙ ap (λ (l : List (Arc R A)). rows ++ l) none ∙ append-nil rows))

pub none_kept_yet : {R A : Type 0} (value : R → RowValue) (p : RowValue → Bool) (all left : List (Arc R A)) (store : List R) → store ≡ [] → all ≡ left → HasKept value p all [] left store
none_kept_yet value p all left store empty is = record { kept = ap (map value) empty ∙ none_kept; few = omega (arith, ap length empty); whole = is }
