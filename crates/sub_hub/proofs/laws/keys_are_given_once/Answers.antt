use Rattle.sub_hub.proofs.Keys.{added_stands, keys_differ, gone_for_good}
use Rattle.sub_hub.proofs.laws.keys_are_given_once.Goals as goal

pub returns-clause-found : goal.returns-clause-found
returns-clause-found c = added_stands

pub returns-clause-differ : goal.returns-clause-differ
returns-clause-differ c = keys_differ

pub returns-clause-for_good : goal.returns-clause-for_good
returns-clause-for_good c = gone_for_good
