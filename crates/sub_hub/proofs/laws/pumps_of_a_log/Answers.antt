use Rattle.sub_hub.proofs.Pumps.{stays_and_hears, leaves_and_heard, left_hears_nothing}
use Rattle.sub_hub.proofs.laws.pumps_of_a_log.Goals as goal

pub returns-clause-stays : goal.returns-clause-stays
returns-clause-stays c = stays_and_hears

pub returns-clause-leaves : goal.returns-clause-leaves
returns-clause-leaves c = leaves_and_heard

pub returns-clause-gone : goal.returns-clause-gone
returns-clause-gone c = left_hears_nothing
