use Rattle.std.proofs.Common.{arith}
use Rattle.mesh_lines.proofs.Texts.{all_within}
use Rattle.mesh_answers.proofs.Answering.{named_at}
use Rattle.mesh_answers.proofs.answer.text_of.Goals as goal

pub answer-requires : goal.answer-requires
answer-requires g c =
    named_at c.args.text.now.nodes (g.M.MeshStores.count c.loop-line.nodes) c.args.text.now.lines.items c.deref-line-items.result.now c.loop-line.line-index c.line-item.result
    (all_within c.requires.0 c.args.text.now.nodes c.args.text.now.lines.items c.requires.1) (omega arith) c.deref-line-items.ensures.value c.line-item.is c.loop-line.invariant.count
