use Rattle.willow_area.proofs.Including.{includes_area-means}
use Rattle.willow_area.proofs.laws.inclusion.Goals as goal

pub returns : goal.returns
returns c = record { means = includes_area-means }
