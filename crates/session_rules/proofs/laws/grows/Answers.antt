use Rattle.session_rules.proofs.Growing.{out_grows, got_grows, same_over}
use Rattle.session_rules.proofs.laws.grows.Goals as goal

pub returns-clause-out : goal.returns-clause-out
returns-clause-out g c = out_grows

pub returns-clause-got : goal.returns-clause-got
returns-clause-got g c = got_grows

pub returns-clause-out_over : goal.returns-clause-out_over
returns-clause-out_over g c = λ a bytes more over. (same_over a bytes more over).0

pub returns-clause-got_over : goal.returns-clause-got_over
returns-clause-got_over g c = λ a bytes more over. (same_over a bytes more over).1

pub returns-clause-ending_over : goal.returns-clause-ending_over
returns-clause-ending_over g c = λ a bytes more over. (same_over a bytes more over).2
