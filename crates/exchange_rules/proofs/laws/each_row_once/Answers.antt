use Rattle.exchange_rules.proofs.AnyPeer.{caller_held, caller_once, caller_within, answerer_held, answerer_once, answerer_within, count_by-front, none_without_a_box}
use Rattle.exchange_rules.proofs.laws.each_row_once.Goals as goal

pub returns-clause-caller_held : goal.returns-clause-caller_held
returns-clause-caller_held g c = λ rules l x read r decides disjoint. caller_held rules decides disjoint l x read r

pub returns-clause-answerer_held : goal.returns-clause-answerer_held
returns-clause-answerer_held g c = λ rules l x read r decides disjoint. answerer_held rules decides disjoint l x read r

pub returns-clause-caller_once : goal.returns-clause-caller_once
returns-clause-caller_once g c = λ rules l x read decides disjoint. caller_once rules decides disjoint l x read

pub returns-clause-answerer_once : goal.returns-clause-answerer_once
returns-clause-answerer_once g c = λ rules l x read decides disjoint. answerer_once rules decides disjoint l x read

pub returns-clause-caller_counted : goal.returns-clause-caller_counted
returns-clause-caller_counted g c = λ rules l x read disjoint passes. caller_within rules disjoint passes l x read

pub returns-clause-answerer_counted : goal.returns-clause-answerer_counted
returns-clause-answerer_counted g c = λ rules l x read disjoint passes. answerer_within rules disjoint passes l x read

pub returns-clause-without_a_box : goal.returns-clause-without_a_box
returns-clause-without_a_box g c = none_without_a_box

pub returns-clause-fronts : goal.returns-clause-fronts
returns-clause-fronts g c = λ written most passes. count_by-front passes most written
