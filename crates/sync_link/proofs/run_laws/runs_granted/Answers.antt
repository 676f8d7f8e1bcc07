use Rattle.sync_link.proofs.GrantedRuns.{runs_granted}
use Rattle.sync_link.proofs.run_laws.runs_granted.Goals as goal

pub returns : goal.returns
returns c = λ p ran. runs_granted p ran
