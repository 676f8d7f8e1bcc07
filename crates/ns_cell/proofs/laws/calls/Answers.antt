use Rattle.ns_cell.proofs.Offers.{call_later, own_grows}
use Rattle.ns_cell.proofs.laws.calls.Goals as goal

pub returns-clause-stays : goal.returns-clause-stays
returns-clause-stays g c = λ before after call made. let later = call_later g.R.Row.value before after call made in (later.cell, later.number)

pub returns-clause-own : goal.returns-clause-own
returns-clause-own g c = λ before after call made. own_grows g.R.Row.value before after call made
