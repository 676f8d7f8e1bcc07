use Rattle.cap_codec.proofs.Frames.{one_stop}
use Rattle.cap_codec.proofs.laws.one_stop.Goals as goal

pub returns : goal.returns
returns c = one_stop
