use Rattle.exchange_rules.proofs.NumberRules.{numbers_decide, numbers_disjoint, numbers_can_cut, numbers_can_send, numbers_apart}
use Rattle.exchange_rules.proofs.laws.numbers.Goals as goal

pub returns-clause-decide : goal.returns-clause-decide
returns-clause-decide c = numbers_decide

pub returns-clause-disjoint : goal.returns-clause-disjoint
returns-clause-disjoint c = numbers_disjoint

pub returns-clause-can_cut : goal.returns-clause-can_cut
returns-clause-can_cut c = λ few l some rises. numbers_can_cut few l rises some

pub returns-clause-can_send : goal.returns-clause-can_send
returns-clause-can_send c = numbers_can_send

pub returns-clause-apart : goal.returns-clause-apart
returns-clause-apart c = numbers_apart
