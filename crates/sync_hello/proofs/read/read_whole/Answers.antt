use Rattle.sync_hello.proofs.HelloReads.{draft_asks}
use Rattle.sync_hello.proofs.read.read_whole.Goals as goal

pub returns-in_err-whole_capability-clause-asked : goal.returns-in_err-whole_capability-clause-asked
returns-in_err-whole_capability-clause-asked c = λ wants. draft_asks c.args.input.now _ _ c.in_ok-draft.ensures.gives
