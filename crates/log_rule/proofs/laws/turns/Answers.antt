use Rattle.std.proofs.Common.{arith}
use Rattle.log_rule.proofs.laws.turns.Goals as goal

pub returns : goal.returns
returns g c = λ content cell table rule. (rule.turns, let line = rule.queue.line in omega arith)
