use Rattle.std.proofs.Common.{◌≡◌, drop}
use Rattle.mesh_answers.proofs.Answering.{HasCome}
use Rattle.mesh_answers.proofs.answer.text_of.Given as goal

abbrev pub invariant-loop-line : goal.invariant-loop-line
invariant-loop-line g l = record {
  count : g.M.MeshStores.count l.nodes ≡ l.text.nodes;
  come : HasCome g.M.MeshStores.rules l.text.nodes l.text.lines.items (g.M.MeshStores.rows l.nodes) (drop l.line-index l.text.lines.items) l.out.items;
}
