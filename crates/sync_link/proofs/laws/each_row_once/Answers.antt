use Rattle.sync_link.proofs.ToldOnce.{told_few, told_offered, told_once}
use Rattle.sync_link.proofs.laws.each_row_once.Goals as goal

pub returns-clause-few : goal.returns-clause-few
returns-clause-few c = told_few

pub returns-clause-offered : goal.returns-clause-offered
returns-clause-offered c = λ p rows bytes row are told. told_offered p rows bytes are row told

pub returns-clause-once : goal.returns-clause-once
returns-clause-once c = told_once
