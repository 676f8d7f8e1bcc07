use Rattle.std.proofs.Common.{sym, ◌∙◌}
use Rattle.block_store.proofs.Covered.{covering_not}
use Rattle.block_store.proofs.looking.place.is_covering.Goals as goal

pub returns-else-extends : goal.returns-else-extends
returns-else-extends g c = c.if-extends.false ∙ sym (covering_not (g.R.Row.value c.args.held.now) (g.R.Row.value c.args.row.now) (sym c.extends.ensures ∙ c.if-extends.false))
