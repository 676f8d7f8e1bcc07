use Rattle.willow_entry.proofs.Live.{join_comm, join_assoc, join_twice}
use Rattle.willow_entry.proofs.laws.joins.Goals as goal

pub returns-clause-commutative : goal.returns-clause-commutative
returns-clause-commutative c = join_comm

pub returns-clause-associative : goal.returns-clause-associative
returns-clause-associative c = join_assoc

pub returns-clause-idempotent : goal.returns-clause-idempotent
returns-clause-idempotent c = join_twice
