use Rattle.std.proofs.Common.{◌*◌, ◌/◌, map, slice_get, sym, ap, ◌∙◌}
use Rattle.block_store.specs.InBox.{is_in, rows_in}
use Rattle.range_split.proofs.Finding.{found_many}
use Rattle.range_split.proofs.even.quarter.Goals as goal

pub returns : goal.returns
returns g c =
    let rows = map g.R.Row.value c.args.snapshot.now in
    let held = rows_in c.args.area.now rows in
    ap (λ n. slice_get held ((c.args.quarters * n) / 4)) (sym (found_many (is_in c.args.area.now) rows c.args.found.now c.requires.found)) ∙ c.row_among.ensures
