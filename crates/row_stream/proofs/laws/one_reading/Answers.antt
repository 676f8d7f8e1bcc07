use Rattle.row_stream.proofs.OneReading.{one_reading}
use Rattle.row_stream.proofs.laws.one_reading.Goals as goal

pub returns : goal.returns
returns g c = one_reading g.F.RowForm.IsRow g.met.F.RowForm.entries_fit
