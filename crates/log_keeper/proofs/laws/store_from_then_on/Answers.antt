use Rattle.log_keeper.proofs.StoreStops.{store_from_then_on}
use Rattle.log_keeper.proofs.laws.store_from_then_on.Goals as goal

pub returns : goal.returns
returns g c = store_from_then_on g.F.RowForm.IsRow g.D.Disk.facts g.D.Disk.may_leave g.D.Disk.moment g.D.Disk.left_since
