use Rattle.sync_link.proofs.AlikeRuns.{runs_alike}
use Rattle.sync_link.proofs.run_laws.runs_alike.Goals as goal

pub returns : goal.returns
returns c = λ p q one other bring signed heard same. runs_alike p q one other bring signed heard same
