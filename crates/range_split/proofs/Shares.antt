-- The parts of a box that is cut share its rows out.
use Rattle.std.proofs.Common.{◌≡◌, ◌↔◌, ◌+◌, Bool, true, false, not, ◌&&◌, cond, List, [], ◌∷◌, length, filter, refl, sym, ap, ap₂, ◌∙◌, IsTrue}
use Rattle.std.proofs.lemmas.Bool.{false≢true, false_from_ne_true, and_parts, and_from, not-true, not_from_false}
use Rattle.std.proofs.lemmas.List.Filters.{length-filter_both}
use Rattle.willow_area.specs.Boxes.{Ranges}
use Rattle.willow_area.specs.Cuts.{can_cut, lower_part, upper_part}
use Rattle.willow_area.specs.declared.cut.CutAt.{CutAt}
use Rattle.willow_area.proofs.Cutting.{lower_part_has, upper_part_has}
use Rattle.willow_entry.specs.Row.{RowValue}
use Rattle.block_store.specs.InBox.{is_in, rows_in}
use Rattle.range_split.specs.Sides.{is_row_below}

-- what passes both of two tests
filter-both : {X : Type 0} (p q both : X → Bool) → ((x : X) → both x ≡ (p x && q x)) → (xs : List X) → filter both xs ≡ filter q (filter p xs)
filter-both p q both same [] = refl
filter-both {X} p q both same (x ∷ xs) =
    let rest : filter both xs ≡ filter q (filter p xs) = filter-both p q both same xs in
    let P : Bool → Bool → Type 0 = λ a b. q x ≡ b → cond (a && b) (x ∷ filter both xs) (filter both xs) ≡ filter q (cond a (x ∷ filter p xs) (filter p xs)) in
    let kept : P true true = λ e. ap (λ l. x ∷ l) rest ∙ sym (ap (λ t. cond t (x ∷ filter q (filter p xs)) (filter q (filter p xs))) e) in
    let left : P true false = λ e. rest ∙ sym (ap (λ t. cond t (x ∷ filter q (filter p xs)) (filter q (filter p xs))) e) in
    let passing : (b : Bool) → P true b = elim [ true ↦ kept | false ↦ left ] in
    let each : (a b : Bool) → P a b = elim [ true ↦ passing | false ↦ λ b e. rest ] in
    ap (λ t. cond t (x ∷ filter both xs) (filter both xs)) (same x) ∙ each (p x) (q x) refl

same_as_both : (a b c : Bool) → (IsTrue a ↔ (IsTrue b × IsTrue c)) → a ≡ (b && c)
same_as_both true b c h = let p = h.0 refl in sym (and_from b c p.0 p.1)
same_as_both false b c h = sym (false_from_ne_true (b && c) (λ t. false≢true (h.1 (and_parts b c t))))

same_as_first : (a b c : Bool) → (IsTrue a ↔ (IsTrue b × (c ≡ false))) → a ≡ (b && not c)
same_as_first true b c h = let p = h.0 refl in sym (and_from b (not c) p.0 (not_from_false c p.1))
same_as_first false b c h = sym (false_from_ne_true (b && not c) (λ t. let p = and_parts b (not c) t in false≢true (h.1 (p.0, not-true c p.1))))

pub lower_rows : (area : Ranges) (rows : List RowValue) (at : CutAt) → IsTrue (can_cut area at) → rows_in (lower_part area at) rows ≡ filter (is_row_below at) (rows_in area rows)
lower_rows area rows at can =
    let has = lower_part_has area at can in
    let same = λ (row : RowValue). same_as_both (is_in (lower_part area at) row) (is_in area row) (is_row_below at row) (has row.entry.subspace row.entry.path row.entry.timestamp) in
    filter-both (is_in area) (is_row_below at) (is_in (lower_part area at)) same rows

pub upper_rows : (area : Ranges) (rows : List RowValue) (at : CutAt) → IsTrue (can_cut area at) → rows_in (upper_part area at) rows ≡ filter (λ row. not (is_row_below at row)) (rows_in area rows)
upper_rows area rows at can =
    let has = upper_part_has area at can in
    let same = λ (row : RowValue). same_as_first (is_in (upper_part area at) row) (is_in area row) (is_row_below at row) (has row.entry.subspace row.entry.path row.entry.timestamp) in
    filter-both (is_in area) (λ row. not (is_row_below at row)) (is_in (upper_part area at)) same rows

pub part_counts : (area : Ranges) (rows : List RowValue) (at : CutAt) → IsTrue (can_cut area at) → length (rows_in (lower_part area at) rows) + length (rows_in (upper_part area at) rows) ≡ length (rows_in area rows)
part_counts area rows at can =
    ap₂ (λ m n. m + n) (ap length (lower_rows area rows at can)) (ap length (upper_rows area rows at can))
    ∙ length-filter_both (is_row_below at) (λ row. not (is_row_below at row)) (λ row. refl) (rows_in area rows)
