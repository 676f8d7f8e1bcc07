use Rattle.ns_cell.proofs.Offers.{place_between, place_rises}
use Rattle.ns_cell.proofs.laws.places.Goals as goal

pub returns-clause-between : goal.returns-clause-between
returns-clause-between g c = λ before after call made. place_between g.R.Row.value before after call made

pub returns-clause-rise : goal.returns-clause-rise
returns-clause-rise g c = λ first then next last call later_call made between makes. place_rises g.R.Row.value first then next last call later_call made between makes
