use Rattle.willow_area.proofs.Meeting.{answers_both, answers_none}
use Rattle.willow_area.proofs.area.Area.intersect.Goals as goal

pub returns-clause-triples : goal.returns-clause-triples
returns-clause-triples c = answers_both c.args.self.now c.args.other.now c.meet.result c.meet.ensures

pub returns-clause-none : goal.returns-clause-none
returns-clause-none c = answers_none c.args.self.now c.args.other.now c.meet.result c.known.ensures c.known-2.ensures c.meet.ensures
