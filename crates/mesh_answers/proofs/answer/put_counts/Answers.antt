use Rattle.std.proofs.Common.{ℕ, List, ◌++◌, ap, ◌∙◌}
use Rattle.mesh_answers.specs.Answers.{node_line}
use Rattle.mesh_answers.proofs.Answering.{one_node_more}
use Rattle.mesh_answers.proofs.answer.put_counts.Goals as goal

pub loop-node-preserved : goal.loop-node-preserved
loop-node-preserved g c =
    one_node_more (g.M.MeshStores.rows c.args.nodes.now) c.loop-node.node c.args.out.now.items c.loop-node.out.items c.put_bytes.new.out.items c.loop-node.invariant
    (c.in_ok-put_bytes.ensures.written
    ∙ ap (λ (bytes : List ℕ). c.loop-node.out.items ++ bytes) (c.deref.ensures.value ∙ c.in_ok-line.ensures ∙ ap (node_line c.loop-node.node) c.row_count.ensures))
