use Rattle.std.proofs.Common.{refl}
use Rattle.session_rules.specs.Reading.{run}
use Rattle.session_rules.specs.Rounds.{rounds}
use Rattle.session_rules.specs.Talk.{speaks}
use Rattle.session_rules.proofs.Tellers.{they_greet, they_talk, they_tell_own}
use Rattle.session_rules.proofs.laws.a_small_session_is_lawful.Goals as goal

pub returns-clause-greets : goal.returns-clause-greets
returns-clause-greets c = they_greet

pub returns-clause-reads : goal.returns-clause-reads
returns-clause-reads c = they_talk

pub returns-clause-over : goal.returns-clause-over
unfolding run rounds speaks
returns-clause-over c = refl

pub returns-clause-own : goal.returns-clause-own
returns-clause-own c = they_tell_own
