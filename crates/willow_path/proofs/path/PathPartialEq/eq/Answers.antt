use Rattle.std.proofs.Common.{◌∙◌}
use Rattle.willow_path.proofs.PathBytes.{equal_bytes}
use Rattle.willow_path.proofs.path.PathPartialEq.eq.Goals as goal

pub returns : goal.returns
returns c = rw (c.bytes.ensures.spelled, c.bytes-2.ensures.spelled) at c.eq.ensures ∙ equal_bytes c.args.self.now c.args.other.now
