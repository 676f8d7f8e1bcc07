use Rattle.std.proofs.Common.{◌<◌, length, get_or, ap, ap₂, ◌∙◌, arith}
use Rattle.std.proofs.lemmas.List.{length-map}
use Rattle.lane_sum.specs.Totals.{sum_of}
use Rattle.block_store.specs.Leaves.{row_leaf}
use Rattle.block_store.proofs.Leaves.{leaf_more}
use Rattle.block_store.proofs.reading.summary.sum_of.Goals as goal

pub loop-at-preserved : goal.loop-at-preserved
loop-at-preserved c rows e =
    let at = c.loop-at.at in
    let leaf = c.index-leaves-at.result in
    let inside : at < length rows = omega (arith, c.loop-at-test.true, ap length e, length-map rows row_leaf) in
    c.add-total.ensures.sum ∙ ap₂ sum_of (c.loop-at.invariant rows e) c.total.ensures
    ∙ leaf_more rows at leaf inside (c.index-leaves-at.is ∙ ap (λ l. get_or l at leaf) e)
