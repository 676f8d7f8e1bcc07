use Rattle.std.proofs.Common.{map, sym, ◌∙◌, arith}
use Rattle.std.proofs.lemmas.List.{length-map}
use Rattle.block_store.specs.InBox.{is_in}
use Rattle.range_split.proofs.Finding.{found_item, found_within}
use Rattle.range_split.proofs.among.row_among.Goals as goal

pub row_at-requires : goal.row_at-requires
row_at-requires g c =
    let rows = map g.R.Row.value c.args.snapshot.now in
    omega (arith, found_within (is_in c.args.area.now) rows c.args.found.now c.requires.found c.args.n c.requires.within, length-map c.args.snapshot.now g.R.Row.value)

pub returns : goal.returns
returns g c =
    let rows = map g.R.Row.value c.args.snapshot.now in
    sym (found_item (is_in c.args.area.now) rows c.args.found.now c.requires.found c.args.n c.requires.within) ∙ c.row_at.ensures
