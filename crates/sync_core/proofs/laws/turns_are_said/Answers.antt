use Rattle.sync_core.proofs.Running.{says_turn}
use Rattle.sync_core.proofs.laws.turns_are_said.Goals as goal

pub returns : goal.returns
returns c = says_turn
