use Rattle.sync_link.proofs.AuthorisedStores.{authorised_opens}
use Rattle.sync_link.proofs.run_laws.stores_open.Goals as goal

pub returns : goal.returns
returns c = λ rules namespace rows live few all. authorised_opens rules namespace rows live few all
