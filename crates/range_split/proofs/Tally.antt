-- The sizes of parts, counted row by row.
use Rattle.std.proofs.Common.{◌≡◌, ℕ, zero, suc, ◌+◌, ◌<◌, ◌≤◌, Bool, true, false, not, cond, List, [], ◌∷◌, ◌++◌, length, filter, get_or, set, slice_get, take, drop, replicate, Some, refl, sym, ap, ap₂, ◌∙◌, arith}
use Rattle.std.specs.Prelude.{max}
use Rattle.std.proofs.lemmas.List.{append-nil, drop_all, get_or_read, length-append, length-take}
use Rattle.std.proofs.lemmas.List.Elements.{filter-append}
use Rattle.std.proofs.lemmas.List.Sums.{length-filter, count_by-le-length}
use Rattle.willow_area.specs.declared.cut.CutAt.{CutAt}
use Rattle.willow_entry.specs.Row.{RowValue}
use Rattle.sync_msg.proofs.Writing.{take_one_more}
use Rattle.range_split.specs.PartOf.{part_of}
use Rattle.range_split.specs.Quarters.{greatest, part_sizes}
use Rattle.range_split.specs.Sides.{is_row_below}
use Rattle.range_split.proofs.Pointing.{drop_one}

-- ---- the part of a row

pub part_within : (ats : List CutAt) (row : RowValue) → part_of ats row ≤ length ats
part_within [] row = omega arith
part_within (at ∷ ats) row = by_test (is_row_below at row) (part_within ats row)
  where
    by_test : (b : Bool) → part_of ats row ≤ length ats → cond b 0 (suc (part_of ats row)) ≤ suc (length ats)
    by_test true h = omega arith
    by_test false h = omega arith

module _ (ats : List CutAt) (row : RowValue) (i : ℕ) (so_far : part_of ats row ≡ i + part_of (drop i ats) row) where
  pub part_here : (at : CutAt) → slice_get ats i ≡ Some at → is_row_below at row ≡ true → part_of ats row ≡ i
  part_here at there below =
      let first : part_of (drop i ats) row ≡ 0 = ap (λ l. part_of l row) (drop_one ats i at there) ∙ ap (λ b. cond b 0 (suc (part_of (drop (i + 1) ats) row))) below in
      omega arith

  pub part_later : (at : CutAt) → slice_get ats i ≡ Some at → is_row_below at row ≡ false → part_of ats row ≡ (i + 1) + part_of (drop (i + 1) ats) row
  part_later at there below =
      let later : part_of (drop i ats) row ≡ suc (part_of (drop (i + 1) ats) row) = ap (λ l. part_of l row) (drop_one ats i at there) ∙ ap (λ b. cond b 0 (suc (part_of (drop (i + 1) ats) row))) below in
      omega arith

  pub part_last : length ats ≤ i → part_of ats row ≡ i
  part_last past =
      let none : part_of (drop i ats) row ≡ 0 = ap (λ l. part_of l row) (drop_all i ats past) in
      omega arith

-- ---- the sizes

-- no row
pub sizes_of_none : (ats : List CutAt) → part_sizes ats [] ≡ replicate (length ats + 1) 0
unfolding part_sizes
sizes_of_none [] = refl
sizes_of_none (at ∷ ats) =
    let next : suc (length ats) + 1 ≡ suc (length ats + 1) = omega arith in
    ap (λ ns. 0 ∷ ns) (sizes_of_none ats) ∙ sym (ap (λ n. replicate n 0) next)

pub sizes_many : (ats : List CutAt) (rows : List RowValue) → length (part_sizes ats rows) ≡ length ats + 1
unfolding part_sizes
sizes_many [] rows = refl
sizes_many (at ∷ ats) rows = omega (arith, sizes_many ats (filter (λ row. not (is_row_below at row)) rows))

pub size_few : (ats : List CutAt) (rows : List RowValue) (k : ℕ) → get_or (part_sizes ats rows) k 0 ≤ length rows
unfolding part_sizes
size_few [] rows zero = omega arith
size_few [] rows (suc k) = omega arith
size_few (at ∷ ats) rows zero = omega (arith, length-filter (is_row_below at) rows, count_by-le-length (is_row_below at) rows)
size_few (at ∷ ats) rows (suc k) =
    let over : RowValue → Bool = λ row. not (is_row_below at row) in
    omega (arith, size_few ats (filter over rows) k, length-filter over rows, count_by-le-length over rows)

-- one row more
pub sizes_more : (ats : List CutAt) (rows : List RowValue) (row : RowValue)
    → part_sizes ats (rows ++ row ∷ []) ≡ set (part_sizes ats rows) (part_of ats row) (get_or (part_sizes ats rows) (part_of ats row) 0 + 1)
unfolding part_sizes
sizes_more [] rows row = ap (λ n. n ∷ []) (length-append rows (row ∷ []))
sizes_more (at ∷ ats) rows row = by_test (is_row_below at row) refl (sizes_more ats (filter (λ r. not (is_row_below at r)) rows) row)
  where
    over : RowValue → Bool
    over r = not (is_row_below at r)

    by_test : (b : Bool) → is_row_below at row ≡ b
        → part_sizes ats (filter over rows ++ row ∷ []) ≡ set (part_sizes ats (filter over rows)) (part_of ats row) (get_or (part_sizes ats (filter over rows)) (part_of ats row) 0 + 1)
        → part_sizes (at ∷ ats) (rows ++ row ∷ []) ≡ set (part_sizes (at ∷ ats) rows) (cond b 0 (suc (part_of ats row))) (get_or (part_sizes (at ∷ ats) rows) (cond b 0 (suc (part_of ats row))) 0 + 1)
    by_test true below rec =
        ap₂ (λ n ns. n ∷ ns)
        (ap length (filter-append (is_row_below at) rows (row ∷ [])) ∙ ap (λ b. length (filter (is_row_below at) rows ++ cond b (row ∷ []) [])) below ∙ length-append (filter (is_row_below at) rows) (row ∷ []))
        (ap (part_sizes ats) (filter-append over rows (row ∷ []) ∙ ap (λ b. filter over rows ++ cond (not b) (row ∷ []) []) below ∙ append-nil (filter over rows)))
    by_test false below rec =
        ap₂ (λ n ns. n ∷ ns)
        (ap length (filter-append (is_row_below at) rows (row ∷ []) ∙ ap (λ b. filter (is_row_below at) rows ++ cond b (row ∷ []) []) below ∙ append-nil (filter (is_row_below at) rows)))
        (ap (part_sizes ats) (filter-append over rows (row ∷ []) ∙ ap (λ b. filter over rows ++ cond (not b) (row ∷ []) []) below) ∙ rec)

-- ---- the sizes of the first rows

module _ (ats : List CutAt) (rows : List RowValue) (i : ℕ) (sizes : List ℕ) (so_far : sizes ≡ part_sizes ats (take i rows)) where
  pub sizes_long : (row : RowValue) → part_of ats row < length sizes
  sizes_long row = omega (arith, part_within ats row, sizes_many ats (take i rows), ap length so_far)

  -- the size of a row's part as it was read
  size_read : (row : RowValue) (size : ℕ) → size ≡ get_or sizes (part_of ats row) size → size ≡ get_or (part_sizes ats (take i rows)) (part_of ats row) 0
  size_read row size read = get_or_read sizes (part_of ats row) size (sizes_long row) read 0 ∙ ap (λ l. get_or l (part_of ats row) 0) so_far

  pub size_within : (row : RowValue) (size : ℕ) → size ≡ get_or sizes (part_of ats row) size → size ≤ i
  size_within row size read = omega (arith, size_read row size read, size_few ats (take i rows) (part_of ats row), length-take i rows)

  pub counted : (row : RowValue) → slice_get rows i ≡ Some row → (size : ℕ) → size ≡ get_or sizes (part_of ats row) size → set sizes (part_of ats row) (size + 1) ≡ part_sizes ats (take (i + 1) rows)
  counted row there size read =
      ap₂ (λ l n. set l (part_of ats row) (n + 1)) so_far (size_read row size read)
      ∙ sym (sizes_more ats (take i rows) row) ∙ sym (ap (part_sizes ats) (take_one_more rows i row there))

-- ---- the greatest

pub greatest_next : (ns : List ℕ) (i : ℕ) → i < length ns → greatest (take (i + 1) ns) ≡ max (greatest (take i ns)) (get_or ns i 0)
greatest_next [] i h = absurd (omega (arith, h))
greatest_next (n ∷ ns) zero h = omega arith
greatest_next (n ∷ ns) (suc i) h =
    let next : suc i + 1 ≡ suc (i + 1) = omega arith in
    ap (λ k. greatest (take k (n ∷ ns))) next ∙ omega (arith, greatest_next ns i (omega (arith, h)))
