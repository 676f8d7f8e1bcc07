use Rattle.sync_link.proofs.CoveringRuns.{runs_keep, runs_join}
use Rattle.sync_link.proofs.run_laws.runs_join.Goals as goal

pub returns-clause-keeps : goal.returns-clause-keeps
returns-clause-keeps c = λ p ran. runs_keep p ran

pub returns-clause-above : goal.returns-clause-above
returns-clause-above c = λ p ran report q others ok other leave apart. runs_join p ran report q others ok other leave apart
