use Rattle.sync_pair.proofs.Alone.{say_alone}
use Rattle.sync_pair.proofs.laws.alone.Goals as goal

pub returns : goal.returns
returns c = say_alone
