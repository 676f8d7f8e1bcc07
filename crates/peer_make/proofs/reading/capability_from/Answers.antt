use Rattle.std.proofs.Common.{refl}
use Rattle.peer_make.proofs.Parsed.{goes_on}
use Rattle.peer_make.proofs.reading.capability_from.Goals as goal

pub returns-else-taken-bytes : goal.returns-else-taken-bytes
returns-else-taken-bytes c =
    (refl, refl, goes_on c.args.bytes.now c.in-Ok.taken c.in-Ok.capability c.if-taken-bytes.false c.in-Ok.ensures.decodes.1 c.in-Ok.ensures.decodes.0 c.in-Ok.ensures.decodes.2)
