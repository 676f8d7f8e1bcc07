use Rattle.std.proofs.Common.{◌≡◌, ◌++◌, ap, ◌∙◌}
use Rattle.std.proofs.lemmas.Result.{on_ok_weaker}
use Rattle.block_store.specs.Blocks.{block_values}
use Rattle.block_store.specs.Entered.{entered}
use Rattle.block_store.specs.Held.{values_of}
use Rattle.block_store.specs.declared.block.Block.{Block}
use Rattle.block_store.proofs.changing.renew.add_entered.Goals as goal

pub returns-clause-values : goal.returns-clause-values
returns-clause-values g c =
    let value = g.R.Row.value in
    let same : c.deref-2.result.now ≡ c.args.piece.now.block.value.rows.items = c.deref-2.ensures.value ∙ ap (λ (b : Block g.row.R.Denot g.R.Row). b.rows.items) c.deref.ensures in
    let all = c.in_ok-rows.ensures.rows ∙ ap (λ l. entered (value c.args.held.now.value) c.args.at (values_of value l)) same in
    on_ok_weaker c.add_split.result (λ e. e ∙ ap (λ l. block_values value c.args.fresh.now.items ++ l) all) c.add_split.ensures.values
