use Rattle.session_rules.proofs.Meeting.{fronts, first_over, second_over, they_meet}
use Rattle.session_rules.proofs.laws.meet.Goals as goal

pub returns-clause-fronts : goal.returns-clause-fronts
returns-clause-fronts g c = fronts

pub returns-clause-first_over : goal.returns-clause-first_over
returns-clause-first_over g c = first_over

pub returns-clause-second_over : goal.returns-clause-second_over
returns-clause-second_over g c = second_over

pub returns-clause-they_meet : goal.returns-clause-they_meet
returns-clause-they_meet g c = they_meet
