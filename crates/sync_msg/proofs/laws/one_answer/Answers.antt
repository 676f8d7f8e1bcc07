use Rattle.sync_msg.proofs.OneAnswer.{one_item, never_both}
use Rattle.sync_msg.proofs.laws.one_answer.Goals as goal

pub returns-clause-one : goal.returns-clause-one
returns-clause-one g c = one_item g.F.RowForm.IsRow g.met.F.RowForm.entries_fit

pub returns-clause-never_both : goal.returns-clause-never_both
returns-clause-never_both g c = never_both g.F.RowForm.IsRow
