use Rattle.log_keeper.proofs.Stops.{from_then_on}
use Rattle.log_keeper.proofs.laws.from_then_on.Goals as goal

pub returns : goal.returns
returns g c = from_then_on g.F.RowForm.IsRow g.D.Disk.facts g.D.Disk.may_leave g.D.Disk.moment g.D.Disk.left_since
