use Rattle.log_keeper.proofs.Keeping.{body_short}
use Rattle.log_keeper.proofs.laws.slices_are_short.Goals as goal

pub returns : goal.returns
returns g c = body_short g.F.RowForm.IsRow
