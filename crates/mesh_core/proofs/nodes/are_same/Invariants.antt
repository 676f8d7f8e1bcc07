use Rattle.std.proofs.Common.{◌≡◌, length, map}
use Rattle.std.specs.Cmp.Lexicographic.{pointwise}
use Rattle.willow_entry.specs.Row.{same_row}
use Rattle.cap_codec.specs.Rows.{row_of}
use Rattle.mesh_core.proofs.nodes.are_same.Given as goal

abbrev pub invariant-rows : goal.invariant-rows
invariant-rows l = pointwise same_row (map row_of l.left) (map row_of l.right) ≡ pointwise same_row (map row_of l.fn.left) (map row_of l.fn.right)

abbrev pub decreases-rows : goal.decreases-rows
decreases-rows l = length l.left
