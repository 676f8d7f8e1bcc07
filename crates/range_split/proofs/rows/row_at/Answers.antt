use Rattle.std.proofs.Common.{ap, ◌∙◌}
use Rattle.std.proofs.lemmas.Option.{slice_get-map}
use Rattle.std.specs.Option.{option_map}
use Rattle.range_split.proofs.rows.row_at.Goals as goal

pub returns : goal.returns
returns g c = slice_get-map g.R.Row.value c.args.snapshot.now c.args.at ∙ ap (option_map g.R.Row.value) c.in-Some.ensures.row
