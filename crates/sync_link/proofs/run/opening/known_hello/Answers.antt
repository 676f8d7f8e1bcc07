use Rattle.sync_link.proofs.HelloLengths.{has_spelling}
use Rattle.sync_link.proofs.run.opening.known_hello.Goals as goal

pub returns : goal.returns
returns c rules namespace none = has_spelling rules namespace c.args.hello.now c.known.ensures none
