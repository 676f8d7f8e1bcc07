use Rattle.std.proofs.Common.{length}
use Rattle.log_keeper.proofs.RecordsRead.{Passed}
use Rattle.log_keeper.proofs.records.append_records.Given as goal

abbrev pub invariant-records : goal.invariant-records
invariant-records g l = Passed g.F.RowForm.IsRow g.F.R.Row.value l.from l.bytes l.rows.items l.at l.left

abbrev pub decreases-records : goal.decreases-records
decreases-records g l = length l.left
