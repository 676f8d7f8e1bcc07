use Rattle.session_rules.proofs.TurnByTurn.{they_take_turns}
use Rattle.session_rules.proofs.laws.whole_turns.Goals as goal

pub returns : goal.returns
returns g c = λ rules rows others box most can can' may may' few. they_take_turns rules box rows others most can can' may may' few
