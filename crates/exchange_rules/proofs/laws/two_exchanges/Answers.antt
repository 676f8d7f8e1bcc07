use Rattle.exchange_rules.proofs.TwoExchanges.{exchange_alike, Apart-alike}
use Rattle.exchange_rules.proofs.laws.two_exchanges.Goals as goal

pub returns-clause-same : goal.returns-clause-same
returns-clause-same g c = λ rules a b c d x disjoint of_a of_b. exchange_alike rules disjoint x a c b d of_a of_b

pub returns-clause-apart : goal.returns-clause-apart
returns-clause-apart g c = λ rules a b c d x disjoint of_a of_b. Apart-alike rules disjoint x a c b d of_a of_b
