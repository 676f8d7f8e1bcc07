use Rattle.willow_area.proofs.Cutting.{answers_below, answers_rest}
use Rattle.willow_area.proofs.box3.Box3.cut.Goals as goal

pub returns-clause-below : goal.returns-clause-below
returns-clause-below c = answers_below (λ parts. parts.0) c.args.self.now c.args.at.now c.parts.result c.parts.ensures.answer c.parts.ensures.lower

pub returns-clause-rest : goal.returns-clause-rest
returns-clause-rest c = answers_rest (λ parts. parts.1) c.args.self.now c.args.at.now c.parts.result c.parts.ensures.answer c.parts.ensures.upper
