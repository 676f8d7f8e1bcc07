use Rattle.session_rules.proofs.Settled.{exchanged_all, they_meet}
use Rattle.session_rules.proofs.laws.settles.Goals as goal

pub returns-clause-settled : goal.returns-clause-settled
returns-clause-settled g c = λ p v rules rows others box left right disjoint can can' greet take_turns can_read meet.
    exchanged_all p v rules rows others box disjoint can can' greet take_turns can_read left right meet

pub returns-clause-they_meet : goal.returns-clause-they_meet
returns-clause-they_meet g c = λ p v rules rows others box disjoint can can' greet take_turns can_read.
    they_meet p v rules rows others box disjoint can can' greet take_turns can_read
