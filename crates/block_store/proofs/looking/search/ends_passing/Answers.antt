use Rattle.std.proofs.Common.{◌≡◌, ◌-◌, ◌<◌, length, get_or, sym, ap, ◌∙◌, Global, arith}
use Rattle.std.specs.declared.sync.Arc.{Arc}
use Rattle.std.proofs.lemmas.List.{length-map, get_or-map}
use Rattle.willow_entry.specs.Row.{RowValue}
use Rattle.block_store.specs.Held.{values_of}
use Rattle.block_store.proofs.Finding.{last_decides}
use Rattle.block_store.proofs.looking.search.ends_passing.Goals as goal

pub returns : goal.returns
returns g c =
    let value : Arc g.row.R.Denot Global → RowValue = λ a. g.R.Row.value a.value in
    let block = c.args.block.now in
    let rows = block.rows.items in
    let last = c.index-last.result.now in
    let long : length (values_of g.R.Row.value rows) ≡ length rows = length-map rows value in
    let some : 0 < length rows = omega (arith, block.sized.0, block.rows.ok.0) in
    let at : length (values_of g.R.Row.value rows) - 1 ≡ c.len.result - 1 = omega (arith, block.rows.ok.0) in
    let is : get_or (values_of g.R.Row.value rows) (c.len.result - 1) (value last) ≡ value last =
    get_or-map value rows (c.len.result - 1) last (value last) (omega (arith, block.rows.ok.0)) ∙ ap value (sym c.index-last.ensures) in
    let test = g.T.Test.test c.args.test.now in
    c.passes.ensures ∙ ap (λ x. test (g.R.Row.value x)) c.deref.ensures ∙ ap test (sym is)
    ∙ ap (λ n. test (get_or (values_of g.R.Row.value rows) n (value last))) (sym at)
    ∙ sym (last_decides test (values_of g.R.Row.value rows) (value last) (omega arith))
