use Rattle.exchange_rules.proofs.Meeting.{sides_write, sides_go_on}
use Rattle.exchange_rules.proofs.laws.both_write_the_exchange.Goals as goal

pub returns-clause-caller : goal.returns-clause-caller
returns-clause-caller g c = λ rules a b x left right disjoint cut_a cut_b send_a send_b is_left is_right.
    (sides_write rules disjoint a b cut_a cut_b send_a send_b x left right is_left is_right).0

pub returns-clause-answerer : goal.returns-clause-answerer
returns-clause-answerer g c = λ rules a b x left right disjoint cut_a cut_b send_a send_b is_left is_right.
    (sides_write rules disjoint a b cut_a cut_b send_a send_b x left right is_left is_right).1

pub returns-clause-caller_goes_on : goal.returns-clause-caller_goes_on
returns-clause-caller_goes_on g c = λ rules a b x disjoint cut_a cut_b send_a send_b.
    (sides_go_on rules disjoint a b cut_a cut_b send_a send_b x).0

pub returns-clause-answerer_goes_on : goal.returns-clause-answerer_goes_on
returns-clause-answerer_goes_on g c = λ rules a b x disjoint cut_a cut_b send_a send_b.
    (sides_go_on rules disjoint a b cut_a cut_b send_a send_b x).1
