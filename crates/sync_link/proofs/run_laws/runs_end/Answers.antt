use Rattle.sync_link.proofs.EndedRuns.{runs_end}
use Rattle.sync_link.proofs.run_laws.runs_end.Goals as goal

pub returns : goal.returns
returns c = λ p ran q others other signs faultless. runs_end p ran q others other signs faultless
