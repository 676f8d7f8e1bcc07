use Rattle.std.proofs.Common.{◌≡◌, ◌+◌, ◌<◌, if◌then◌else◌, count_by, length, take_all, get_or, sym, ap, ap₂, ◌∙◌, Global, arith}
use Rattle.std.specs.declared.sync.Arc.{Arc}
use Rattle.std.proofs.lemmas.List.{length-map, get_or-map}
use Rattle.willow_entry.specs.Row.{RowValue, is_dominating}
use Rattle.block_store.specs.Held.{values_of}
use Rattle.block_store.proofs.Thinning.{counted_more}
use Rattle.block_store.proofs.changing.thin.pruned_rows.Goals as goal

pub loop-at-preserved : goal.loop-at-preserved
loop-at-preserved g c =
    let value : Arc g.row.R.Denot Global → RowValue = λ a. g.R.Row.value a.value in
    let r = g.R.Row.value c.args.row.now in
    let rows = values_of g.R.Row.value c.args.rows.now in
    let held = c.index-rows-at.result in
    let at = c.loop-at.at in
    let inside : at < length rows = omega (arith, length-map c.args.rows.now value) in
    let here : get_or rows at (value held) ≡ value held = get_or-map value c.args.rows.now at held (value held) (omega arith) ∙ ap value (sym c.index-rows-at.is) in
    let goes : c.prunes.result ≡ is_dominating r (value held) = c.prunes.ensures ∙ ap (λ x. is_dominating r (g.R.Row.value x)) c.deref.ensures in
    record {
      counted = ap₂ (λ m n. m + n) c.loop-at.invariant.counted (c.one_if-count.ensures.value ∙ ap (λ b. if b then 1 else 0) goes) ∙ sym (counted_more (is_dominating r) rows at (value held) inside here);
      few = omega (arith, c.one_if-count.ensures.small, c.loop-at.invariant.few);
    }

pub returns-clause-count : goal.returns-clause-count
returns-clause-count g c =
    c.loop-at.invariant.counted ∙ ap (count_by (is_dominating (g.R.Row.value c.args.row.now))) (take_all c.loop-at.at (values_of g.R.Row.value c.args.rows.now) (omega (arith, length-map c.args.rows.now (λ a. g.R.Row.value a.value))))
