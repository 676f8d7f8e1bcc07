use Rattle.mesh_rules.proofs.Smalls.{comes_in_order, reaches_in_order, comes_not, reaches_not, comes_not_elsewhere, holds_its_own, holds_both, all_reach_first, all_reach_last, told_alike}
use Rattle.mesh_rules.proofs.laws.small_meshes.Goals as goal

pub returns-clause-in_order : goal.returns-clause-in_order
returns-clause-in_order c = comes_in_order

pub returns-clause-reaches : goal.returns-clause-reaches
returns-clause-reaches c = reaches_in_order

pub returns-clause-out_of_order : goal.returns-clause-out_of_order
returns-clause-out_of_order c = comes_not

pub returns-clause-does_not_reach : goal.returns-clause-does_not_reach
returns-clause-does_not_reach c = reaches_not

pub returns-clause-elsewhere : goal.returns-clause-elsewhere
returns-clause-elsewhere c = comes_not_elsewhere

pub returns-clause-first_alone : goal.returns-clause-first_alone
returns-clause-first_alone c = holds_its_own

pub returns-clause-last_both : goal.returns-clause-last_both
returns-clause-last_both c = holds_both

pub returns-clause-all_to_first : goal.returns-clause-all_to_first
returns-clause-all_to_first c = λ r s. all_reach_first r s

pub returns-clause-all_to_last : goal.returns-clause-all_to_last
returns-clause-all_to_last c = λ r s. all_reach_last r s

pub returns-clause-again : goal.returns-clause-again
returns-clause-again c = told_alike
