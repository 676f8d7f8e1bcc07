use Rattle.std.proofs.Common.{sym, ap, arith}
use Rattle.block_store.specs.Held.{values_of}
use Rattle.block_store.proofs.Thinning.{later_stay}
use Rattle.block_store.proofs.changing.thin.pruned_of.Goals as goal

pub returns-then-block-entry : goal.returns-then-block-entry
returns-then-block-entry g c =
    let block = c.args.block.now in
    let r = g.R.Row.value c.args.row.now in
    sym (later_stay r block.earliest block.latest (values_of g.R.Row.value block.rows.items) (omega (arith, ap (λ e. e.timestamp) c.entry.ensures.entry)) block.timed)
