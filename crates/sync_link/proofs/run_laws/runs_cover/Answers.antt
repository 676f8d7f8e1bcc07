use Rattle.sync_link.proofs.CountedRuns.{runs_counted}
use Rattle.sync_link.proofs.CoveringRuns.{runs_cover}
use Rattle.sync_link.proofs.run_laws.runs_cover.Goals as goal

pub returns-clause-counted : goal.returns-clause-counted
returns-clause-counted c = λ p ran report q others ok other. runs_counted p ran report q others ok other

pub returns-clause-covers : goal.returns-clause-covers
returns-clause-covers c = λ p ran report q others ok other leave apart. runs_cover p ran report q others ok other leave apart
