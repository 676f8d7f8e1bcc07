use Rattle.mesh_lines.proofs.Words.{is_text}
use Rattle.mesh_lines.proofs.word.number_of.Goals as goal

pub returns-in-Err : goal.returns-in-Err
returns-in-Err c n is = c.in-Err.ensures.cases.0 (is_text c.args.word.now n is)
