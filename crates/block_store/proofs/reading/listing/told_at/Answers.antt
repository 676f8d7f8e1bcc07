use Rattle.std.proofs.Common.{get_or, sym, ap, ◌∙◌}
use Rattle.block_store.specs.Leaves.{row_leaf}
use Rattle.block_store.proofs.Leaves.{leaf_there}
use Rattle.block_store.proofs.reading.listing.told_at.Goals as goal

pub returns-clause-leaf : goal.returns-clause-leaf
returns-clause-leaf g c =
    let value = g.R.Row.value in
    let leaf = c.index-leaves-at.result in
    leaf_there value c.args.rows.now c.args.at c.in_ok-held.held.now.value leaf c.in_ok-held.ensures (c.index-leaves-at.is ∙ ap (λ l. get_or l c.args.at leaf) c.requires)
    ∙ ap (λ r. row_leaf (value r)) (sym c.deref.ensures)
