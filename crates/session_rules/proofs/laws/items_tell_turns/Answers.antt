use Rattle.session_rules.proofs.Exchanging.{all_said, caller_hears, answerer_hears}
use Rattle.session_rules.proofs.laws.items_tell_turns.Goals as goal

pub returns-clause-said : goal.returns-clause-said
returns-clause-said g c = λ v rules caller answerer rows others box n disjoint can can' take_turns rounds.
    all_said v rules caller answerer rows others box disjoint can can' take_turns n rounds

pub returns-clause-caller : goal.returns-clause-caller
returns-clause-caller g c = caller_hears

pub returns-clause-answerer : goal.returns-clause-answerer
returns-clause-answerer g c = answerer_hears
