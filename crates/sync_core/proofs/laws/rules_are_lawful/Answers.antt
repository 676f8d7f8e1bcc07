use Rattle.sync_core.proofs.Lawful.{can_cut_rows, can_send, disjoint}
use Rattle.sync_core.proofs.laws.rules_are_lawful.Goals as goal

pub returns-clause-cuts : goal.returns-clause-cuts
returns-clause-cuts c = can_cut_rows

pub returns-clause-disjoint : goal.returns-clause-disjoint
returns-clause-disjoint c = disjoint

pub returns-clause-sends : goal.returns-clause-sends
returns-clause-sends c = can_send
