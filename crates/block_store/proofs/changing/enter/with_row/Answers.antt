use Rattle.std.proofs.Common.{insert, map, ap, ◌∙◌, Global}
use Rattle.std.specs.declared.sync.Arc.{Arc}
use Rattle.willow_entry.specs.Row.{RowValue}
use Rattle.willow_entry.proofs.Between.{map-insert}
use Rattle.block_store.proofs.changing.enter.with_row.Goals as goal

pub returns-clause-rows : goal.returns-clause-rows
returns-clause-rows g c =
    let value : Arc g.row.R.Denot Global → RowValue = λ a. g.R.Row.value a.value in
    ap (λ rows. map value rows.items) c.block_of.ensures ∙ ap (map value) c.in_ok-insert.ensures.items
    ∙ map-insert value c.in_ok-copy.copy.items c.args.at c.args.held ∙ ap (λ l. insert l c.args.at (value c.args.held)) c.in_ok-copy.ensures.same
