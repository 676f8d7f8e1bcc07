use Rattle.cap_codec.proofs.CapReads.{capability-reads}
use Rattle.cap_codec.proofs.Framed.{framed_form}
use Rattle.cap_codec.proofs.laws.one_capability_frame.Goals as goal

pub returns : goal.returns
returns c = framed_form capability-reads
