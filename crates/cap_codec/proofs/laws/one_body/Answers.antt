use Rattle.spelling.proofs.Joining.{one_spelling}
use Rattle.cap_codec.proofs.RowReads.{raw-reads}
use Rattle.cap_codec.proofs.laws.one_body.Goals as goal

pub returns : goal.returns
returns c = one_spelling raw-reads
