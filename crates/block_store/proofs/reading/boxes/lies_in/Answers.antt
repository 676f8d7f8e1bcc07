use Rattle.std.proofs.Common.{◌≡◌, ◌-◌, ◌<◌, length, map, get_or, sym, ap, ◌∙◌, Global, arith}
use Rattle.std.specs.declared.sync.Arc.{Arc}
use Rattle.std.proofs.lemmas.List.{length-map, get_or-map}
use Rattle.willow_entry.specs.Row.{RowValue}
use Rattle.block_store.proofs.BlockRuns.{lies_within}
use Rattle.block_store.proofs.reading.boxes.lies_in.Goals as goal

pub returns-then-has_times_of : goal.returns-then-has_times_of
returns-then-has_times_of g c ends =
    let value : Arc g.row.R.Denot Global → RowValue = λ a. g.R.Row.value a.value in
    let items = c.args.block.now.rows.items in
    let rows = map value items in
    let a = c.index.result.now in
    let z = c.index-2.result.now in
    let long : c.len.result ≡ length rows = omega (arith, c.len.ensures, length-map items value, c.args.block.now.rows.ok.0) in
    let some : 0 < length items = omega (arith, c.args.block.now.sized.0, c.args.block.now.rows.ok.0) in
    let first : (d : RowValue) → get_or rows 0 d ≡ g.R.Row.value c.deref-first.result.now = λ d. get_or-map value items 0 a d some ∙ ap value (sym c.index.ensures) ∙ ap g.R.Row.value (sym c.deref-first.ensures) in
    let last : (d : RowValue) → get_or rows (length rows - 1) d ≡ g.R.Row.value c.deref-last.result.now =
    λ d. ap (λ n. get_or rows (n - 1) d) (sym long) ∙ get_or-map value items (c.len.result - 1) z d (omega (arith, long, length-map items value)) ∙ ap value (sym c.index-2.ensures) ∙ ap g.R.Row.value (sym c.deref-last.ensures) in
    lies_within rows c.args.area.now (g.R.Row.value c.deref-first.result.now) (g.R.Row.value c.deref-last.result.now) c.args.block.now.earliest c.args.block.now.latest
    c.requires (omega (arith, length-map items value)) first last c.args.block.now.timed (c.has_times_of.ensures.first c.if-has_times_of.true) (c.has_times_of.ensures.last c.if-has_times_of.true)
    (c.are_ends.ensures.namespace ends) (c.are_ends.ensures.first ends) (c.are_ends.ensures.last ends) (c.are_ends.ensures.paths ends)
