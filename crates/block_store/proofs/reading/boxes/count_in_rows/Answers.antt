use Rattle.std.proofs.Common.{◌≡◌, ◌+◌, ◌<◌, length, map, cond, get_or, sym, ap, ap₂, ◌∙◌, Global, arith}
use Rattle.std.specs.declared.sync.Arc.{Arc}
use Rattle.std.proofs.lemmas.List.{length-map, get_or-map}
use Rattle.std.proofs.lemmas.List.Filters.{length-filter_more}
use Rattle.willow_entry.specs.Row.{RowValue}
use Rattle.block_store.specs.InBox.{is_in}
use Rattle.block_store.proofs.reading.boxes.count_in_rows.Goals as goal

pub loop-at-preserved : goal.loop-at-preserved
loop-at-preserved g c =
    let value : Arc g.row.R.Denot Global → RowValue = λ a. g.R.Row.value a.value in
    let test = is_in c.args.area.now in
    let rows = map value c.args.rows.now in
    let at = c.loop-at.at in
    let held = c.index-rows-at.result in
    let inside : at < length rows = omega (arith, length-map c.args.rows.now value) in
    let here : get_or rows at (value held) ≡ value held = get_or-map value c.args.rows.now at held (value held) (omega arith) ∙ ap value (sym c.index-rows-at.is) in
    let passes : c.is_in.result ≡ test (get_or rows at (value held)) =
    c.is_in.ensures ∙ ap (λ x. test (g.R.Row.value x)) c.deref.ensures ∙ ap test (sym here) in
    let one = c.one_if-count.ensures.value ∙ ap (λ b. cond b 1 0) passes in
    record {
      counted = ap₂ (λ m n. m + n) c.loop-at.invariant.counted one ∙ sym (length-filter_more test rows at (value held) inside);
      fits = omega (arith, c.one_if-count.ensures.small);
    }
