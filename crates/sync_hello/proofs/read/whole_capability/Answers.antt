use Rattle.sync_hello.proofs.WholeText.{goes_on}
use Rattle.sync_hello.proofs.read.whole_capability.Goals as goal

pub returns-else-taken-text : goal.returns-else-taken-text
returns-else-taken-text c =
    goes_on c.args.text.now c.in-Ok.capability c.in-Ok.taken c.in-Ok.ensures.decodes.0 c.in-Ok.ensures.decodes.1 c.in-Ok.ensures.decodes.2 c.if-taken-text.false
