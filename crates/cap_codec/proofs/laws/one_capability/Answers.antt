use Rattle.spelling.proofs.Joining.{one_spelling}
use Rattle.cap_codec.proofs.CapReads.{capability-reads}
use Rattle.cap_codec.proofs.laws.one_capability.Goals as goal

pub returns : goal.returns
returns c = one_spelling capability-reads
