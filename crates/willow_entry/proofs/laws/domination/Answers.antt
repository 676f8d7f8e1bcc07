use Rattle.willow_entry.proofs.RowLaws.{dominates_decides, dominates_not_itself, dominates_chain}
use Rattle.willow_entry.proofs.laws.domination.Goals as goal

pub returns-clause-means : goal.returns-clause-means
returns-clause-means c = dominates_decides

pub returns-clause-irreflexive : goal.returns-clause-irreflexive
returns-clause-irreflexive c = dominates_not_itself

pub returns-clause-transitive : goal.returns-clause-transitive
returns-clause-transitive c = dominates_chain
