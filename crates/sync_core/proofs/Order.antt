-- The last of some rows.
use Rattle.std.proofs.Common.{◌≡◌, suc, ◌-◌, true, List, [], ◌∷◌, length, slice_get, Some, None, refl, sym, ap, ◌∙◌, arith}
use Rattle.std.specs.Ordering.{is_lt}
use Rattle.willow_entry.specs.Row.{RowValue, inner_place_cmp}
use Rattle.sync_core.specs.Steps.{is_above_last}

-- the last of a list is that of what stands behind its first item
last_behind : {X : Type 0} (x y : X) (xs : List X) → slice_get (x ∷ y ∷ xs) (length (x ∷ y ∷ xs) - 1) ≡ slice_get (y ∷ xs) (length (y ∷ xs) - 1)
last_behind x y xs =
    let one : length (x ∷ y ∷ xs) - 1 ≡ suc (length xs) = omega arith in
    let two : length (y ∷ xs) - 1 ≡ length xs = omega arith in
    ap (slice_get (x ∷ y ∷ xs)) one ∙ sym (ap (slice_get (y ∷ xs)) two)

pub above_none : (read : List RowValue) (row : RowValue) → slice_get read (length read - 1) ≡ None → is_above_last read row ≡ true
above_none [] row e = refl
above_none (r ∷ []) row e = absurd cc
above_none (r ∷ s ∷ read) row e = above_none (s ∷ read) row (sym (last_behind r s read) ∙ e)

pub above_last : (read : List RowValue) (row last : RowValue) → slice_get read (length read - 1) ≡ Some last → is_above_last read row ≡ is_lt (inner_place_cmp last row)
above_last [] row last e = absurd cc
above_last (r ∷ []) row last e =
    let same : r ≡ last = cc in
    ap (λ x. is_lt (inner_place_cmp x row)) same
above_last (r ∷ s ∷ read) row last e = above_last (s ∷ read) row last (sym (last_behind r s read) ∙ e)
