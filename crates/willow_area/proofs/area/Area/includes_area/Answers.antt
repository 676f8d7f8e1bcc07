use Rattle.willow_area.proofs.Including.{includes_area-by}
use Rattle.willow_area.proofs.area.Area.includes_area.Goals as goal

pub returns-clause-triples : goal.returns-clause-triples
returns-clause-triples c = includes_area-by c.includes_fields.result c.args.self.now c.args.other.now c.known.ensures c.known-2.ensures c.includes_fields.ensures
