use Rattle.std.proofs.Common.{◌≡◌, ◌<◌, ◌++◌, ◌∷◌, [], false, List, length, take, get_or, sym, ap, ◌∙◌, subst, Global, arith}
use Rattle.std.specs.declared.sync.Arc.{Arc}
use Rattle.std.proofs.lemmas.List.{length-map, get_or-map, take_more}
use Rattle.willow_entry.specs.declared.entry.Entry.{Entry}
use Rattle.willow_entry.specs.Row.{RowValue}
use Rattle.block_store.specs.Held.{values_of}
use Rattle.recency_index.specs.declared.ranked.Ranked.{Ranked}
use Rattle.recency_index.specs.Recency.{ranked_of, newest, has_at}
use Rattle.recency_index.specs.Rows.{items_of}
use Rattle.area_interest.proofs.Lists.{few_first, few_taken}
use Rattle.area_interest.proofs.Indexing.{few_items, one_item, free_there}
use Rattle.area_interest.proofs.index.index_of.Goals as goal

pub insert-requires-clause-few : goal.insert-requires-clause-few
insert-requires-clause-few g c =
    let rows = values_of g.R.Row.value c.args.rows.now in
    omega (arith, ap length c.loop-row.invariant, few_items (take c.loop-row.row-index rows), few_first c.loop-row.row-index rows, c.loop-row-test.true, c.requires.few)

pub insert-requires-clause-free : goal.insert-requires-clause-free
insert-requires-clause-free g c =
    let value : Arc g.row.R.Denot Global → RowValue = λ a. g.R.Row.value a.value in
    let rows = values_of g.R.Row.value c.args.rows.now in
    let at = c.loop-row.row-index in
    let row = value c.row-item.result in
    let entry : c.entry.result.now ≡ row.entry = c.entry.ensures.entry ∙ ap (λ r. (g.R.Row.value r).entry) c.deref.ensures in
    let within : at < length rows = omega (arith, length-map c.args.rows.now value, c.loop-row-test.true) in
    let here : get_or rows at row ≡ row = get_or-map value c.args.rows.now at c.row-item.result row c.loop-row-test.true ∙ ap value (sym c.row-item.is) in
    subst (λ (e : Entry). has_at e.subspace e.path c.loop-row.index.items ≡ false) (sym entry)
    (free_there c.requires.one.0 rows c.requires.rising c.requires.one.1 at row within here c.loop-row.index.items c.loop-row.invariant)

pub loop-row-preserved : goal.loop-row-preserved
loop-row-preserved g c =
    let value : Arc g.row.R.Denot Global → RowValue = λ a. g.R.Row.value a.value in
    let rows = values_of g.R.Row.value c.args.rows.now in
    let at = c.loop-row.row-index in
    let row = value c.row-item.result in
    let entry : c.entry.result.now ≡ row.entry = c.entry.ensures.entry ∙ ap (λ r. (g.R.Row.value r).entry) c.deref.ensures in
    let within : at < length rows = omega (arith, length-map c.args.rows.now value, c.loop-row-test.true) in
    let here : get_or rows at row ≡ row = get_or-map value c.args.rows.now at c.row-item.result row c.loop-row-test.true ∙ ap value (sym c.row-item.is) in
    c.in_ok-insert.ensures.items ∙ ap (λ (e : Entry). newest (ranked_of e ∷ c.loop-row.index.items)) entry
    ∙ ap (λ (l : List Ranked). newest (ranked_of row.entry ∷ l)) c.loop-row.invariant ∙ one_item (take at rows) row
    ∙ ap (λ (l : List RowValue). newest (items_of l)) (sym (take_more rows at row within ∙ ap (λ (r : RowValue). take at rows ++ r ∷ []) here))

pub returns-clause-few : goal.returns-clause-few
returns-clause-few g c =
    let value : Arc g.row.R.Denot Global → RowValue = λ a. g.R.Row.value a.value in
    let rows = values_of g.R.Row.value c.args.rows.now in
    omega (arith, ap length c.loop-row.invariant, few_items (take c.loop-row.row-index rows), few_taken c.loop-row.row-index rows, length-map c.args.rows.now value)
