use Rattle.session_rules.proofs.Growing.{nothing_more}
use Rattle.session_rules.proofs.laws.nothing_early.Goals as goal

pub returns-clause-out : goal.returns-clause-out
returns-clause-out g c = λ a bytes part s at held stands are_part. (nothing_more a bytes part s at held stands are_part).0

pub returns-clause-got : goal.returns-clause-got
returns-clause-got g c = λ a bytes part s at held stands are_part. (nothing_more a bytes part s at held stands are_part).1

pub returns-clause-ending : goal.returns-clause-ending
returns-clause-ending g c = λ a bytes part s at held stands are_part. (nothing_more a bytes part s at held stands are_part).2
