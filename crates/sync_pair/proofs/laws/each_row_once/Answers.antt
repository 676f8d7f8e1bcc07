use Rattle.sync_pair.proofs.Agreeing.{only_left, only_right, once_left, once_right}
use Rattle.sync_pair.proofs.laws.each_row_once.Goals as goal

pub returns-clause-left_only : goal.returns-clause-left_only
returns-clause-left_only c = only_left

pub returns-clause-right_only : goal.returns-clause-right_only
returns-clause-right_only c = only_right

pub returns-clause-left_once : goal.returns-clause-left_once
returns-clause-left_once c = once_left

pub returns-clause-right_once : goal.returns-clause-right_once
returns-clause-right_once c = once_right
