use Rattle.peer_listing.proofs.Ranges.{between_fit}
use Rattle.peer_listing.proofs.writers.Generator.rows.Goals as goal

pub returns-clause-fit : goal.returns-clause-fit
returns-clause-fit c = between_fit c.args.from c.args.to c.in_ok-rows.rows.items c.in_ok-rows.ensures
