use Rattle.std.proofs.Common.{◌++◌, sym, ap, ◌∙◌, subst}
use Rattle.std.proofs.lemmas.Result.{on_ok_weaker}
use Rattle.block_store.specs.Blocks.{block_values}
use Rattle.block_store.specs.Held.{values_of}
use Rattle.block_store.specs.Packing.{IsGrown}
use Rattle.block_store.proofs.changing.append.append.Goals as goal

pub returns-in-Some-clause-values : goal.returns-in-Some-clause-values
returns-in-Some-clause-values g c =
    let value = g.R.Row.value in
    on_ok_weaker c.append_both.result (λ e. e ∙ ap (λ l. block_values value l ++ values_of value c.args.piece.block.value.rows.items) (sym c.in-Some.ensures.items)) c.append_both.ensures.values

pub returns-in-Some-clause-grown : goal.returns-in-Some-clause-grown
returns-in-Some-clause-grown g c =
    on_ok_weaker c.append_both.result (λ h. subst (λ l. IsGrown l c.append_both.new.fresh.items) (sym c.in-Some.ensures.items) h) c.append_both.ensures.grown
