use Rattle.exchange_rules.proofs.TwoExchanges.{exchange_alike, Apart-alike}
use Rattle.sync_core.specs.SyncRules.{sync_rules}
use Rattle.sync_core.proofs.Lawful.{disjoint}
use Rattle.sync_pair.proofs.laws.two_worlds.Goals as goal

pub returns-clause-same : goal.returns-clause-same
returns-clause-same c = λ version a b c d x of_a of_b. exchange_alike (sync_rules version) (disjoint version) x a c b d of_a of_b

pub returns-clause-apart : goal.returns-clause-apart
returns-clause-apart c = λ version a b c d x of_a of_b. Apart-alike (sync_rules version) (disjoint version) x a c b d of_a of_b
