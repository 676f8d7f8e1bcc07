use Rattle.std.proofs.Common.{◌≡◌, ◌+◌, ◌<◌, [], ◌∷◌, ◌++◌, length, map, take, get_or, sym, ap, ap₂, ◌∙◌, Global, arith}
use Rattle.std.specs.declared.sync.Arc.{Arc}
use Rattle.std.proofs.lemmas.List.{length-map, get_or-map}
use Rattle.std.proofs.lemmas.List.Elements.{filter_more}
use Rattle.lane_sum.specs.Totals.{sum_of, total_by}
use Rattle.lane_sum.proofs.TotalLaws.{total_joined}
use Rattle.willow_entry.specs.Row.{RowValue}
use Rattle.block_store.specs.Fingerprint.{row_bytes}
use Rattle.block_store.specs.InBox.{is_in, rows_in}
use Rattle.block_store.specs.Leaves.{row_leaf}
use Rattle.block_store.proofs.Leaves.{leaf_read}
use Rattle.block_store.proofs.reading.fingerprint.total_in_rows.Goals as goal

pub loop-at-preserved : goal.loop-at-preserved
loop-at-preserved g c =
    let value : Arc g.row.R.Denot Global → RowValue = λ a. g.R.Row.value a.value in
    let test = is_in c.args.area.now in
    let rows = map value c.args.rows.now in
    let at = c.loop-at.at in
    let held = c.index-rows-at.result in
    let inside : at < length rows = omega (arith, length-map c.args.rows.now value) in
    let here : get_or rows at (value held) ≡ value held = get_or-map value c.args.rows.now at held (value held) (omega arith) ∙ ap value (sym c.index-rows-at.is) in
    let before = rows_in c.args.area.now (take at rows) in
    let more : rows_in c.args.area.now (take (at + 1) rows) ≡ before ++ rows_in c.args.area.now (value held ∷ []) =
    filter_more test rows at (value held) inside ∙ ap (λ r. before ++ rows_in c.args.area.now (r ∷ [])) here in
    let part = c.leaf_if_in-part.ensures.total ∙ ap (λ x. total_by row_bytes (rows_in c.args.area.now (g.R.Row.value x ∷ []))) c.deref.ensures in
    record {
      added = c.add-total.ensures.sum ∙ ap₂ sum_of c.loop-at.invariant.added part ∙ total_joined row_bytes before (rows_in c.args.area.now (value held ∷ [])) ∙ ap (total_by row_bytes) (sym more);
      few = omega (arith, c.loop-at.invariant.few, c.leaf_if_in-part.ensures.steps);
    }

pub leaf_if_in-part-requires : goal.leaf_if_in-part-requires
leaf_if_in-part-requires g c =
    let value = g.R.Row.value in
    let at = c.loop-at.at in
    let leaf = c.index-leaves-at.result in
    leaf_read value c.args.rows.now at c.index-rows-at.result leaf c.loop-at-test.true c.index-rows-at.is (c.index-leaves-at.is ∙ ap (λ l. get_or l at leaf) c.requires)
    ∙ ap (λ r. row_leaf (value r)) (sym c.deref.ensures)
