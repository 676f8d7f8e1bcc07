use Rattle.exchange_rules.proofs.Worlds.{caller_alike, answerer_alike, alike_without_a_box}
use Rattle.exchange_rules.proofs.laws.two_worlds.Goals as goal

pub returns-clause-caller : goal.returns-clause-caller
returns-clause-caller g c = λ rules l m x read disjoint same. caller_alike rules disjoint x l m same read

pub returns-clause-answerer : goal.returns-clause-answerer
returns-clause-answerer g c = λ rules l m x read disjoint same. answerer_alike rules disjoint x l m same read

pub returns-clause-without_a_box : goal.returns-clause-without_a_box
returns-clause-without_a_box g c = alike_without_a_box
