use Rattle.std.proofs.Common.{refl}
use Rattle.ns_cell.proofs.Histories.{join_of_all, leads_on}
use Rattle.ns_cell.proofs.laws.all_told.Goals as goal

pub returns-clause-join : goal.returns-clause-join
returns-clause-join g c = λ cell opening log deeds passes did closed. join_of_all g.R.Row.value deeds cell opening log passes did closed

pub returns-clause-begins : goal.returns-clause-begins
returns-clause-begins g c = λ pass. refl

pub returns-clause-goes_on : goal.returns-clause-goes_on
returns-clause-goes_on g c = λ first last after deeds call led made. leads_on g.R.Row.value first last after deeds call led made
