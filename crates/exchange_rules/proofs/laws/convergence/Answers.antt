use Rattle.exchange_rules.proofs.Converging.{left_only, right_only, left_once, right_once, left_gets, right_gets}
use Rattle.exchange_rules.proofs.laws.convergence.Goals as goal

pub returns-clause-left_only : goal.returns-clause-left_only
returns-clause-left_only g c = λ rules a b x r decides disjoint. left_only rules decides disjoint a b x r

pub returns-clause-right_only : goal.returns-clause-right_only
returns-clause-right_only g c = λ rules a b x r decides disjoint. right_only rules decides disjoint a b x r

pub returns-clause-left_gets : goal.returns-clause-left_gets
returns-clause-left_gets g c = λ rules a b x r decides disjoint can_a can_b apart. left_gets rules decides disjoint a b x can_a can_b apart r

pub returns-clause-right_gets : goal.returns-clause-right_gets
returns-clause-right_gets g c = λ rules a b x r decides disjoint can_a can_b apart. right_gets rules decides disjoint a b x can_a can_b apart r

pub returns-clause-left_once : goal.returns-clause-left_once
returns-clause-left_once g c = λ rules a b x decides disjoint. left_once rules decides disjoint a b x

pub returns-clause-right_once : goal.returns-clause-right_once
returns-clause-right_once g c = λ rules a b x decides disjoint. right_once rules decides disjoint a b x
