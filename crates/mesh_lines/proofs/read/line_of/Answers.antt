use Rattle.mesh_lines.proofs.Lines.{no_verb}
use Rattle.mesh_lines.proofs.Verbs.{unlike}
use Rattle.mesh_lines.proofs.read.line_of.Goals as goal

pub returns : goal.returns
returns c =
    no_verb c.args.nodes c.args.line.now c.in_ok-verb.verb.now c.in_ok-verb.words.now (c.in_ok-verb.ensures)
    (unlike c.in_ok-verb.verb.now c.as_slice.result.now _ c.eq.result c.eq.ensures c.as_slice.ensures c.if-eq.false)
    (unlike c.in_ok-verb.verb.now c.as_slice-2.result.now _ c.eq-2.result c.eq-2.ensures c.as_slice-2.ensures c.if-eq-2.false)
    (unlike c.in_ok-verb.verb.now c.as_slice-3.result.now _ c.eq-3.result c.eq-3.ensures c.as_slice-3.ensures c.if-eq-3.false)
