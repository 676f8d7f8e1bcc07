use Rattle.std.proofs.Common.{Global, ap}
use Rattle.std.specs.declared.sync.Arc.{Arc}
use Rattle.block_store.proofs.Copies.{map-copies}
use Rattle.block_store.proofs.changing.enter.share.Goals as goal

pub returns-clause-same : goal.returns-clause-same
returns-clause-same g c = map-copies {X = Arc g.row.R.Denot Global} _ (λ a. g.R.Row.value a.value) (λ v w r. ap g.R.Row.value r) _ _ c.in_ok-clone.ensures.cases.0
