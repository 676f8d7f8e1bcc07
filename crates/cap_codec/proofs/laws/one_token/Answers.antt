use Rattle.spelling.proofs.Joining.{one_spelling}
use Rattle.cap_codec.proofs.CapReads.{token-reads}
use Rattle.cap_codec.proofs.laws.one_token.Goals as goal

pub returns : goal.returns
returns c = one_spelling token-reads
