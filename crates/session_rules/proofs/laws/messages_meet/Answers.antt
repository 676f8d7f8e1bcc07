use Rattle.session_rules.proofs.Spelled.{rounds_spelled, is_dialogue, dialogue_meets}
use Rattle.session_rules.proofs.laws.messages_meet.Goals as goal

pub returns-clause-rounds : goal.returns-clause-rounds
returns-clause-rounds g c = rounds_spelled

pub returns-clause-over : goal.returns-clause-over
returns-clause-over g c = λ a b n by_a by_b can over meet. is_dialogue a b n can over by_a by_b meet

pub returns-clause-they_meet : goal.returns-clause-they_meet
returns-clause-they_meet g c = dialogue_meets
