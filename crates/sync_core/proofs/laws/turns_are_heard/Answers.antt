use Rattle.sync_core.proofs.TurnsCounted.{hears_turn, refused_turn, hears_first, refused_first, hears_first_bye, hears_last_bye}
use Rattle.sync_core.proofs.laws.turns_are_heard.Goals as goal

pub returns-clause-answers : goal.returns-clause-answers
returns-clause-answers c = λ place t asks opens is told opened room. hears_turn place t told asks is opens opened room

pub returns-clause-refused : goal.returns-clause-refused
returns-clause-refused c = λ place t asks is told none. refused_turn place t told asks is none

pub returns-clause-first : goal.returns-clause-first
returns-clause-first c = λ place t area opens is of told opened room. hears_first place t told area is of opens opened room

pub returns-clause-first_refused : goal.returns-clause-first_refused
returns-clause-first_refused c = λ place t area is of told none. refused_first place t told area is of none

pub returns-clause-without_area : goal.returns-clause-without_area
returns-clause-without_area c = λ place is none room. hears_first_bye place room is none

pub returns-clause-last : goal.returns-clause-last
returns-clause-last c = λ place is room. hears_last_bye place room is
