use Rattle.std.proofs.Common.{length}
use Rattle.answer_cases.proofs.item_answer.+take_all.Given as goal

abbrev pub decreases-take_all : goal.decreases-take_all
decreases-take_all l = length l.bytes.now
