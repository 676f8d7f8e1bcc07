use Rattle.std.proofs.Common.{◌≡◌, ◌++◌}
use Rattle.mesh_answers.specs.Answers.{node_lines}
use Rattle.mesh_answers.proofs.answer.put_counts.Given as goal

abbrev pub invariant-loop-node : goal.invariant-loop-node
invariant-loop-node g l = l.out.items ≡ l.fn.out.items ++ node_lines (g.M.MeshStores.rows l.nodes) l.node
