use Rattle.ns_cell.proofs.Offers.{stored_is, kept_is, full_is, unanswered}
use Rattle.ns_cell.proofs.laws.answers.Goals as goal

pub returns-clause-stored : goal.returns-clause-stored
returns-clause-stored g c = λ before after row at offer. stored_is g.R.Row.value before after row at offer

pub returns-clause-kept : goal.returns-clause-kept
returns-clause-kept g c = λ before after row at offer. kept_is g.R.Row.value before after row at offer

pub returns-clause-full : goal.returns-clause-full
returns-clause-full g c = λ before after row full offer. full_is g.R.Row.value before after row full offer

pub returns-clause-no_memory : goal.returns-clause-no_memory
returns-clause-no_memory g c = λ before after row offer. unanswered g.R.Row.value before after row offer
