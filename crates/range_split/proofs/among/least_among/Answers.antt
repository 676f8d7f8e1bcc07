use Rattle.std.proofs.Common.{map, sym, ap, ap₂, ◌∙◌, arith}
use Rattle.std.proofs.lemmas.List.{take_all}
use Rattle.block_store.specs.InBox.{is_in, rows_in}
use Rattle.range_split.specs.Choice.{subspaces_of}
use Rattle.range_split.specs.Least.{lesser, least_above}
use Rattle.range_split.proofs.Finding.{found_many, least_more}
use Rattle.range_split.proofs.among.least_among.Goals as goal

pub loop-n-preserved : goal.loop-n-preserved
loop-n-preserved g c =
    let held = rows_in c.args.area.now (map g.R.Row.value c.args.snapshot.now) in
    record {
      least_so_far = c.lesser-least.ensures ∙ ap₂ lesser c.loop-n.invariant.least_so_far c.subspace_over.ensures
          ∙ sym (least_more held c.loop-n.n (g.R.Row.value c.row_among.result.now) c.row_among.ensures c.args.low.now);
    }

pub returns : goal.returns
returns g c =
    let rows = map g.R.Row.value c.args.snapshot.now in
    let held = rows_in c.args.area.now rows in
    c.loop-n.invariant.least_so_far ∙ ap (λ l. least_above c.args.low.now (subspaces_of l)) (take_all c.loop-n.n held (omega (arith, c.loop-n-test.false, found_many (is_in c.args.area.now) rows c.args.found.now c.requires)))
