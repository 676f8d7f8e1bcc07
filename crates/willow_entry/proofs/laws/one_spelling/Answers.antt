use Rattle.willow_entry.proofs.EntryReads.{entry_form, one_body}
use Rattle.willow_entry.proofs.laws.one_spelling.Goals as goal

pub returns-clause-entry : goal.returns-clause-entry
returns-clause-entry c = entry_form

pub returns-clause-body : goal.returns-clause-body
returns-clause-body c = one_body
