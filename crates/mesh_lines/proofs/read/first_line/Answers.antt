use Rattle.mesh_lines.proofs.Lines.{no_first_verb}
use Rattle.mesh_lines.proofs.Verbs.{differs}
use Rattle.mesh_lines.proofs.read.first_line.Goals as goal

pub returns-then-ne : goal.returns-then-ne
returns-then-ne c =
    no_first_verb c.args.line.now c.in_ok-verb.verb.now c.in_ok-verb.number.now (c.in_ok-verb.ensures)
    (differs c.in_ok-verb.verb.now c.as_slice.result.now _ c.ne.result c.ne.ensures c.as_slice.ensures c.if-ne.true)
