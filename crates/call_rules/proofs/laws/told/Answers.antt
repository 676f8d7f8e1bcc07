use Rattle.call_rules.proofs.Told.{told_met, three_told, four_told, seven_told, told_known, small_unmet, zero_unmet}
use Rattle.call_rules.proofs.laws.told.Goals as goal

pub returns-clause-met : goal.returns-clause-met
returns-clause-met g = told_met

pub returns-clause-seven : goal.returns-clause-seven
returns-clause-seven g = seven_told

pub returns-clause-three : goal.returns-clause-three
returns-clause-three g = three_told

pub returns-clause-four : goal.returns-clause-four
returns-clause-four g = four_told

pub returns-clause-known : goal.returns-clause-known
returns-clause-known g = told_known

pub returns-clause-six : goal.returns-clause-six
returns-clause-six g = λ met small. (small_unmet met small).six

pub returns-clause-eight : goal.returns-clause-eight
returns-clause-eight g = λ met small. (small_unmet met small).eight

pub returns-clause-one : goal.returns-clause-one
returns-clause-one g = zero_unmet
