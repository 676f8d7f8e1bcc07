use Rattle.range_split.proofs.Parting.{part_rows, all_leave_rows}
use Rattle.range_split.proofs.laws.sides.Goals as goal

pub returns : goal.returns
returns c = record { points = part_rows; parts = all_leave_rows }
