use Rattle.sub_hub.proofs.Pumps.{pumped_twice, pumped_nothing, pumped_nobody}
use Rattle.sub_hub.proofs.laws.pumps_in_turn.Goals as goal

pub returns-clause-twice : goal.returns-clause-twice
returns-clause-twice c = pumped_twice

pub returns-clause-nothing : goal.returns-clause-nothing
returns-clause-nothing c = pumped_nothing

pub returns-clause-nobody : goal.returns-clause-nobody
returns-clause-nobody c = pumped_nobody
