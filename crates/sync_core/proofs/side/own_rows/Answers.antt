use Rattle.std.proofs.Common.{map, arith}
use Rattle.std.proofs.lemmas.List.{length-map}
use Rattle.sync_core.proofs.Telling.{rows_in-le}
use Rattle.sync_core.proofs.side.own_rows.Goals as goal

pub returns-in-Some-clause-within : goal.returns-in-Some-clause-within
returns-in-Some-clause-within g c = omega (arith, c.count_in.ensures, rows_in-le c.in-Some.area (map g.R.Row.value c.args.snapshot.now), length-map c.args.snapshot.now g.R.Row.value)
