use Rattle.std.proofs.Common.{◌≡◌, ℕ, zero, suc, ◌≤◌, List, [], ◌∷◌, length, drop, slice_get, Some, arith, false, refl, sym, ap, ◌∙◌, subst}
use Rattle.std.proofs.lemmas.List.{drop_all}
use Rattle.std.proofs.lemmas.Option.{MatchOption-at_none}
use Rattle.willow_entry.specs.Row.{RowValue, is_at_prefix, left_of}
use Rattle.block_store.specs.Blocks.{block_rows, block_values, index_of}
use Rattle.block_store.proofs.Covered.{rising_drop}
use Rattle.block_store.proofs.Extensions.{first_tells}
use Rattle.block_store.proofs.Extending.{reaching_split, behind_stays, not_before}
use Rattle.block_store.proofs.Pieces.{value_at, values_long, index_bound}
use Rattle.block_store.proofs.looking.place.run_end.Goals as goal

pub partition_point-requires : goal.partition_point-requires
partition_point-requires g c = reaching_split (g.R.Row.value c.args.row.now) (block_values g.R.Row.value c.args.pieces.now) c.requires.rising

pub returns-in-Some-clause-from : goal.returns-in-Some-clause-from
returns-in-Some-clause-from g c =
    let pieces = c.args.pieces.now in
    not_before (g.R.Row.value c.args.row.now) (block_values g.R.Row.value pieces) (index_of pieces c.args.at) (index_of pieces c.partition_point.result)
    (omega (arith, values_long g.R.Row.value pieces, index_bound pieces c.args.at c.requires.spot)) c.requires.place c.partition_point.ensures.point

pub returns-in-Some-clause-stays : goal.returns-in-Some-clause-stays
returns-in-Some-clause-stays g c =
    let pieces = c.args.pieces.now in
    behind_stays (g.R.Row.value c.args.row.now) (block_values g.R.Row.value pieces) (index_of pieces c.partition_point.result) c.partition_point.ensures.point

-- the first row behind is no extension
pub returns-in_default-clause-stays : goal.returns-in_default-clause-stays
returns-in_default-clause-stays g c =
    let r = g.R.Row.value c.args.row.now in
    let rows = block_values g.R.Row.value c.args.pieces.now in
    let at = index_of c.args.pieces.now c.args.at in
    let first = g.R.Row.value c.in-Some.first.now in
    let here : slice_get (drop at rows) 0 ≡ Some first = first_behind rows at first (value_at g.R.Row.value c.args.pieces.now at c.in-Some.first.now c.in-Some.ensures) in
    let none : is_at_prefix r first ≡ false = sym c.extends.ensures ∙ c.if-extends.false in
    first_tells r (drop at rows) (rising_drop at rows c.requires.rising) c.requires.place.beyond (λ s e. ap (is_at_prefix r) (same_item s first (sym e ∙ here)) ∙ none)
  where
    same_item : (s t : RowValue) → Some s ≡ Some t → s ≡ t
    same_item s t e = cc

    first_behind : (rows : List RowValue) (at : ℕ) (x : RowValue) → slice_get rows at ≡ Some x → slice_get (drop at rows) 0 ≡ Some x
    first_behind rows zero x e = e
    first_behind [] (suc at) x e = e
    first_behind (y ∷ rows) (suc at) x e = first_behind rows at x e

-- there is no row behind
pub returns-in_default-2-clause-stays : goal.returns-in_default-2-clause-stays
returns-in_default-2-clause-stays g c =
    let r = g.R.Row.value c.args.row.now in
    let rows = block_values g.R.Row.value c.args.pieces.now in
    let at = index_of c.args.pieces.now c.args.at in
    let past : length (block_rows c.args.pieces.now) ≤ at = MatchOption-at_none _ _ c.in_default.is c.row_at.ensures in
    let none : drop at rows ≡ [] = drop_all at rows (omega (arith, values_long g.R.Row.value c.args.pieces.now, past)) in
    subst (λ l. left_of r l ≡ l) (sym none) refl
