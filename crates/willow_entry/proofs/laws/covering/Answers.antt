use Rattle.willow_entry.proofs.RowLaws.{same_row_decides, covering_means}
use Rattle.willow_entry.proofs.Live.{live_covers}
use Rattle.willow_entry.proofs.laws.covering.Goals as goal

pub returns-clause-same : goal.returns-clause-same
returns-clause-same c = same_row_decides

pub returns-clause-means : goal.returns-clause-means
returns-clause-means c = covering_means

pub returns-clause-live : goal.returns-clause-live
returns-clause-live c = live_covers
