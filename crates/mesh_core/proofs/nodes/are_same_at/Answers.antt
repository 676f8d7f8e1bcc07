use Rattle.std.proofs.Common.{ap₂, ◌∙◌}
use Rattle.std.specs.Cmp.Lexicographic.{pointwise}
use Rattle.willow_entry.specs.Row.{same_row}
use Rattle.mesh_core.specs.Held.{nodes_of}
use Rattle.mesh_core.proofs.Alike.{same_lists}
use Rattle.mesh_core.proofs.nodes.are_same_at.Goals as goal

pub returns : goal.returns
returns c =
    let s = nodes_of c.args.stores.now in
    same_lists (s c.args.left) (s c.args.right) c.are_same.result (c.are_same.ensures ∙ ap₂ (pointwise same_row) c.rows_of.ensures c.rows_of-2.ensures)
