-- Leaves of rows: of one among others, and what they add up to.
use Rattle.std.proofs.Common.{◌≡◌, ℕ, zero, suc, ◌+◌, ◌<◌, List, [], ◌∷◌, length, map, take, get_or, slice_get, Some, sym, ap, ◌∙◌, arith}
use Rattle.std.specs.declared.sync.Arc.{Arc}
use Rattle.std.proofs.lemmas.List.{get_or-map, take_more}
use Rattle.lane_sum.specs.Totals.{sum_of, total_by}
use Rattle.lane_sum.specs.declared.lanes.Lanes.{Lanes}
use Rattle.lane_sum.proofs.TotalLaws.{total_joined}
use Rattle.willow_entry.specs.Row.{RowValue}
use Rattle.block_store.specs.Fingerprint.{row_bytes}
use Rattle.block_store.specs.Held.{rows_of, values_of}
use Rattle.block_store.specs.Leaves.{row_leaf}

-- the leaf that stands at the place of a row
pub leaf_there : {R A : Type 0} (value : R → RowValue) (rows : List (Arc R A)) (at : ℕ) (row : R) (x : Lanes) → slice_get (rows_of rows) at ≡ Some row → x ≡ get_or (map row_leaf (values_of value rows)) at x → x ≡ row_leaf (value row)
leaf_there value [] at row x there e = absurd cc
leaf_there value (a ∷ rows) zero row x there e = let same : a.value ≡ row = cc in e ∙ ap (λ r. row_leaf (value r)) same
leaf_there value (a ∷ rows) (suc at) row x there e = leaf_there value rows at row x there e

-- the same of a row that is read by its place
pub leaf_read : {R A : Type 0} (value : R → RowValue) (rows : List (Arc R A)) (at : ℕ) (held : Arc R A) (x : Lanes) → at < length rows → held ≡ get_or rows at held → x ≡ get_or (map row_leaf (values_of value rows)) at x → x ≡ row_leaf (value held.value)
leaf_read value [] at held x h is e = absurd (omega arith)
leaf_read value (a ∷ rows) zero held x h is e = e ∙ ap (λ b. row_leaf (value b.value)) (sym is)
leaf_read value (a ∷ rows) (suc at) held x h is e = leaf_read value rows at held x (omega arith) is e

-- the total of the first rows, and one leaf more
pub leaf_more : (rows : List RowValue) (at : ℕ) (x : Lanes) → at < length rows → x ≡ get_or (map row_leaf rows) at x → sum_of (total_by row_bytes (take at rows)) x ≡ total_by row_bytes (take (at + 1) rows)
leaf_more [] at x h e = absurd (omega arith)
leaf_more (r ∷ rows) at x h e =
    ap (sum_of (total_by row_bytes (take at (r ∷ rows)))) (e ∙ get_or-map row_leaf (r ∷ rows) at r x h)
    ∙ total_joined row_bytes (take at (r ∷ rows)) (get_or (r ∷ rows) at r ∷ [])
    ∙ ap (total_by row_bytes) (sym (take_more (r ∷ rows) at r h))
