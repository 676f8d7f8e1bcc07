use Rattle.cap_codec.proofs.Frames.{never_both}
use Rattle.cap_codec.proofs.laws.never_both.Goals as goal

pub returns : goal.returns
returns c = never_both
