use Rattle.std.proofs.Common.{◌≡◌, ◌++◌, count_by, sym, ap, ◌∙◌}
use Rattle.std.proofs.lemmas.Result.{on_ok_weaker}
use Rattle.willow_entry.specs.Row.{is_dominating}
use Rattle.block_store.specs.Blocks.{block_values}
use Rattle.block_store.specs.Held.{values_of}
use Rattle.block_store.specs.declared.block.Block.{Block}
use Rattle.block_store.proofs.Thinning.{none_pruned}
use Rattle.block_store.proofs.changing.thin.thin.Goals as goal

pub returns-then-pruned_of-eq0-clause-values : goal.returns-then-pruned_of-eq0-clause-values
returns-then-pruned_of-eq0-clause-values g c =
    let r = g.R.Row.value c.args.row.now in
    let rows = values_of g.R.Row.value c.args.piece.now.block.value.rows.items in
    let none : count_by (is_dominating r) rows ≡ 0 = ap (λ (b : Block g.row.R.Denot g.R.Row). count_by (is_dominating r) (values_of g.R.Row.value b.rows.items)) (sym c.deref.ensures) ∙ sym c.pruned_of.ensures ∙ c.if-pruned_of-eq0.true in
    on_ok_weaker c.append_shared.result (λ e. e ∙ ap (λ l. block_values g.R.Row.value c.args.fresh.now.items ++ l) (sym (none_pruned r rows none))) c.append_shared.ensures.values
