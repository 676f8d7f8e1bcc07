use Rattle.cap_codec.proofs.Frames.{one_stream}
use Rattle.cap_codec.proofs.laws.one_stream.Goals as goal

pub returns : goal.returns
returns c = one_stream
