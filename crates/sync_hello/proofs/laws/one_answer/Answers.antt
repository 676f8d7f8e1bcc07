use Rattle.sync_hello.proofs.InFront.{never_both, one_hello}
use Rattle.sync_hello.proofs.laws.one_answer.Goals as goal

pub returns-clause-one : goal.returns-clause-one
returns-clause-one c = one_hello

pub returns-clause-never_both : goal.returns-clause-never_both
returns-clause-never_both c = never_both
