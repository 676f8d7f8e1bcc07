use Rattle.session_rules.proofs.Spelled.{read_messages}
use Rattle.session_rules.proofs.laws.reads_messages.Goals as goal

pub returns : goal.returns
returns g c = read_messages
