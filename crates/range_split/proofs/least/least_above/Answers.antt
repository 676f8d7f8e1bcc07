use Rattle.std.proofs.Common.{◌≡◌, ◌+◌, arith, map, take, sym, ap, ap₂, ◌∙◌}
use Rattle.block_store.specs.InBox.{rows_in}
use Rattle.range_split.specs.Choice.{subspaces_of}
use Rattle.range_split.specs.Least.{lesser, least_above}
use Rattle.range_split.proofs.LeastKeys.{least_in-more}
use Rattle.range_split.proofs.least.least_above.Goals as goal

pub loop-at-preserved : goal.loop-at-preserved
loop-at-preserved g c = record {
  least_so_far = c.lesser-least.ensures ∙ ap₂ lesser c.loop-at.invariant.least_so_far c.subspace_above.ensures
      ∙ sym (least_in-more c.args.low.now c.args.area.now (map g.R.Row.value c.args.snapshot.now) c.loop-at.at (g.R.Row.value c.row_at.result.now) c.row_at.ensures);
}

pub returns-2 : goal.returns-2
returns-2 g c =
    let last : c.loop-at.at ≡ c.args.last = omega (arith, c.loop-at-test.true, c.loop-at.auto.at, c.loop-at.auto.at-end) in
    c.lesser-least.ensures ∙ ap₂ lesser c.loop-at.invariant.least_so_far c.subspace_above.ensures
    ∙ sym (least_in-more c.args.low.now c.args.area.now (map g.R.Row.value c.args.snapshot.now) c.loop-at.at (g.R.Row.value c.row_at.result.now) c.row_at.ensures)
    ∙ ap (λ rows. least_above c.args.low.now (subspaces_of rows)) (ap (λ n. rows_in c.args.area.now (take (n + 1) (map g.R.Row.value c.args.snapshot.now))) last ∙ c.requires.upto)
