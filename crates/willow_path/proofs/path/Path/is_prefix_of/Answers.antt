use Rattle.std.proofs.Common.{◌∙◌}
use Rattle.willow_path.proofs.PathBytes.{prefix_bytes}
use Rattle.willow_path.proofs.path.Path.is_prefix_of.Goals as goal

pub returns : goal.returns
returns c = rw (c.bytes.ensures.spelled, c.bytes-2.ensures.spelled) at c.starts_with.ensures.value ∙ prefix_bytes c.args.self.now c.args.other.now
