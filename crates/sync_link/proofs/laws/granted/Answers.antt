use Rattle.sync_link.proofs.Grants.{item_granted, row_told}
use Rattle.sync_link.proofs.laws.granted.Goals as goal

pub returns-clause-items : goal.returns-clause-items
returns-clause-items c = λ p rows bytes item are said. item_granted p rows bytes are item said

pub returns-clause-rows : goal.returns-clause-rows
returns-clause-rows c = λ p rows bytes row are own_fits fit said. row_told p rows bytes are own_fits fit row said
