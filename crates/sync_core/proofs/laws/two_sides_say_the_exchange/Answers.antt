use Rattle.sync_core.proofs.TwoSides.{say_exchange}
use Rattle.sync_core.proofs.laws.two_sides_say_the_exchange.Goals as goal

pub returns : goal.returns
returns c = λ version a b x up down few_a few_b. say_exchange version a b up down few_a few_b x
