use Rattle.cap_codec.proofs.Frames.{frame_form}
use Rattle.cap_codec.proofs.laws.one_frame.Goals as goal

pub returns : goal.returns
returns c = frame_form
