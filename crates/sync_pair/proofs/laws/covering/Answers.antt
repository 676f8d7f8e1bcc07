use Rattle.sync_pair.proofs.Agreeing.{keeps_left, keeps_right, gets_left, gets_right}
use Rattle.sync_pair.proofs.laws.covering.Goals as goal

pub returns-clause-left_keeps : goal.returns-clause-left_keeps
returns-clause-left_keeps c = keeps_left

pub returns-clause-right_keeps : goal.returns-clause-right_keeps
returns-clause-right_keeps c = keeps_right

pub returns-clause-left_gets : goal.returns-clause-left_gets
returns-clause-left_gets c = gets_left

pub returns-clause-right_gets : goal.returns-clause-right_gets
returns-clause-right_gets c = gets_right
