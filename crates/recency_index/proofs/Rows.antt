-- Rows by recency, and their items.
use Rattle.std.proofs.Common.{◌≡◌, inl, inr, List, [], ◌∷◌, Contains, refl, ap, ◌∙◌, Ordering, Less, Equal, Greater}
use Rattle.std.specs.Cmp.{IsTotalOrder}
use Rattle.std.specs.Ordering.{match_ordering}
use Rattle.std.proofs.lemmas.Cmp.{on_total}
use Rattle.willow_entry.specs.Pruning.{placed}
use Rattle.willow_entry.specs.Row.{RowValue}
use Rattle.willow_entry.proofs.Members.{Member, contains_from_member, member_from_contains}
use Rattle.willow_entry.proofs.Rising.{member_from_rising}
use Rattle.recency_index.specs.declared.ranked.Ranked.{Ranked}
use Rattle.recency_index.specs.Recency.{ranked_of, recency_cmp, newest}
use Rattle.recency_index.specs.Rows.{items_of, row_recency_cmp, newest_rows}
use Rattle.recency_index.proofs.Order.{recency_total}

pub row_total : IsTotalOrder row_recency_cmp
row_total = on_total (λ (r : RowValue). ranked_of r.entry) recency_total

pub member_item : (rows : List RowValue) (s : RowValue) → Member rows s → Member (items_of rows) (ranked_of s.entry)
member_item [] s m = m
member_item (t ∷ rows) s (inl e) = inl (ap (λ (r : RowValue). ranked_of r.entry) e)
member_item (t ∷ rows) s (inr m) = inr (member_item rows s m)

pub row_of_item : (rows : List RowValue) (item : Ranked) → Member (items_of rows) item → (s : RowValue) × Member rows s × (ranked_of s.entry ≡ item)
row_of_item [] item m = absurd m
row_of_item (t ∷ rows) item (inl e) = (t, inl refl, e)
row_of_item (t ∷ rows) item (inr m) = let found = row_of_item rows item m in (found.0, inr found.1, found.2)

placed_items : (r : RowValue) (rows : List RowValue) → items_of (placed row_recency_cmp r rows) ≡ placed recency_cmp (ranked_of r.entry) (items_of rows)
placed_items r [] = refl
placed_items r (s ∷ rows) =
    let P : Ordering → Type 0 = λ o. items_of (match_ordering o (r ∷ s ∷ rows) (s ∷ rows) (s ∷ placed row_recency_cmp r rows))
    ≡ match_ordering o (ranked_of r.entry ∷ ranked_of s.entry ∷ items_of rows) (ranked_of s.entry ∷ items_of rows) (ranked_of s.entry ∷ placed recency_cmp (ranked_of r.entry) (items_of rows)) in
    let each : (o : Ordering) → P o = elim [
      | Less ↦ refl
      | Equal ↦ refl
      | Greater ↦ ap (λ l. ranked_of s.entry ∷ l) (placed_items r rows)
    ] in
    each (row_recency_cmp r s)

pub newest_items : (rows : List RowValue) → items_of (newest_rows rows) ≡ newest (items_of rows)
newest_items [] = refl
newest_items (r ∷ rows) = placed_items r (newest_rows rows) ∙ ap (placed recency_cmp (ranked_of r.entry)) (newest_items rows)

pub newest_member : (rows : List RowValue) (r : RowValue) → Contains (newest_rows rows) r → Contains rows r
newest_member rows r c = contains_from_member rows r (member_from_rising row_recency_cmp rows r (member_from_contains (newest_rows rows) r c))
