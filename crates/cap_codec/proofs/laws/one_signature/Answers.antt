use Rattle.spelling.proofs.Joining.{one_spelling}
use Rattle.cap_codec.proofs.FormReads.{signature-reads}
use Rattle.cap_codec.proofs.laws.one_signature.Goals as goal

pub returns : goal.returns
returns c = one_spelling signature-reads
