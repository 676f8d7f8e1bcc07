-- Which rows are kept, by the last item that limits leave.
use Rattle.std.specs.Prelude.{◌≡◌, ℕ, Bool, not, List, [], ◌∷◌, ◌++◌, Option, MatchOption}
use Rattle.std.specs.Borrow.{Bor}
use Rattle.std.specs.Ordering.{is_gt}
use Rattle.willow_entry.specs.Row.{RowValue}
use Rattle.recency_index.specs.Recency.{ranked_of, recency_cmp}
use Rattle.recency_index.specs.declared.ranked.Ranked.{Ranked}

-- the number of bytes of an item's payload
abbrev pub item_size : Ranked → ℕ
item_size item = item.length

-- the last of some items, if there is one
abbrev pub LastOf : List Ranked → Option (Bor Ranked) → Type 0
LastOf items last = MatchOption last (items ≡ []) (λ item. (before : List Ranked) × (items ≡ before ++ item.now ∷ []))

-- whether the row is no less recent than this item
abbrev pub is_kept : Ranked → RowValue → Bool
is_kept last r = not (is_gt (recency_cmp (ranked_of r.entry) last))
