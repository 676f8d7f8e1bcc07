use Rattle.spelling.proofs.Joining.{one_spelling}
use Rattle.cap_codec.proofs.NumberedReads.{numbered-reads}
use Rattle.cap_codec.proofs.Framed.{framed_form}
use Rattle.cap_codec.proofs.laws.one_numbered.Goals as goal

pub returns-clause-spelling : goal.returns-clause-spelling
returns-clause-spelling c = one_spelling numbered-reads

pub returns-clause-frame : goal.returns-clause-frame
returns-clause-frame c = framed_form numbered-reads
