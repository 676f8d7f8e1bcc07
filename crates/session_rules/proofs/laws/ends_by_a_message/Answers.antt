use Rattle.session_rules.proofs.Ends.{more_is, done_is, bad_is, refusal_is}
use Rattle.session_rules.proofs.laws.ends_by_a_message.Goals as goal

pub returns-clause-more : goal.returns-clause-more
returns-clause-more g c = more_is

pub returns-clause-done : goal.returns-clause-done
returns-clause-done g c = done_is

pub returns-clause-bad : goal.returns-clause-bad
returns-clause-bad g c = bad_is

pub returns-clause-refused : goal.returns-clause-refused
returns-clause-refused g c = refusal_is
