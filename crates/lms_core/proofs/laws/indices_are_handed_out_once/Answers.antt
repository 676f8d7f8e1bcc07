use Rattle.lms_core.proofs.Once.{indices_rise}
use Rattle.lms_core.proofs.laws.indices_are_handed_out_once.Goals as goal

pub returns : goal.returns
returns c = indices_rise
