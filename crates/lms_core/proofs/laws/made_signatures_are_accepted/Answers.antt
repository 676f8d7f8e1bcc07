use Rattle.lms_core.proofs.Completeness.{made_is_accepted}
use Rattle.lms_core.proofs.laws.made_signatures_are_accepted.Goals as goal

pub returns : goal.returns
returns c = made_is_accepted
