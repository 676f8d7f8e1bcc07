use Rattle.peer_words.proofs.OneCommand.{at_most_one}
use Rattle.peer_words.proofs.laws.one_command.Goals as goal

pub returns : goal.returns
returns c = at_most_one
