-- Rows by recency.
use Rattle.std.specs.Prelude.{List, map}
use Rattle.std.specs.declared.cmp.Ordering.{Ordering}
use Rattle.willow_entry.specs.Pruning.{rising}
use Rattle.willow_entry.specs.Row.{RowValue}
use Rattle.recency_index.specs.Recency.{ranked_of, recency_cmp}
use Rattle.recency_index.specs.declared.ranked.Ranked.{Ranked}

-- the items of the entries of rows
abbrev pub items_of : List RowValue → List Ranked
items_of rows = map (λ r. ranked_of r.entry) rows

-- how rows are ordered by recency
abbrev pub row_recency_cmp : RowValue → RowValue → Ordering
row_recency_cmp r s = recency_cmp (ranked_of r.entry) (ranked_of s.entry)

-- rows, the most recent first
abbrev pub newest_rows : List RowValue → List RowValue
newest_rows rows = rising row_recency_cmp rows
