use Rattle.std.proofs.Common.{map, Some, sym, ap, ◌∙◌, arith}
use Rattle.std.specs.Prelude.{option_map}
use Rattle.block_store.specs.InBox.{is_in, rows_in}
use Rattle.range_split.specs.Points.{cuts_at}
use Rattle.range_split.proofs.Finding.{found_many}
use Rattle.range_split.proofs.Quartering.{even_few, even_many}
use Rattle.range_split.proofs.even.choose_parts_among.Goals as goal

pub returns-then-found : goal.returns-then-found
returns-then-found g c =
    let rows = map g.R.Row.value c.args.snapshot.now in
    let many = found_many (is_in c.args.area.now) rows c.args.found.now c.requires.found in
    record { chosen = sym (ap (option_map cuts_at) (even_few (rows_in c.args.area.now rows) (omega arith))) }

pub returns : goal.returns
returns g c =
    let rows = map g.R.Row.value c.args.snapshot.now in
    let many = found_many (is_in c.args.area.now) rows c.args.found.now c.requires.found in
    record { chosen = ap (λ p. Some p) c.in_ok-points.ensures ∙ sym (ap (option_map cuts_at) (even_many (rows_in c.args.area.now rows) (omega arith))) }
