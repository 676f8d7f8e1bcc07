use Rattle.std.proofs.Common.{◌≡◌, ◌++◌, map, take}
use Rattle.std.specs.List.{flat_map}
use Rattle.willow_entry.specs.Frame.{row_frame}
use Rattle.peer_image.specs.ImageOne.{magic_one}
use Rattle.peer_image.proofs.write_one.write_rows_one.Given as goal

abbrev pub invariant-loop-row : goal.invariant-loop-row
invariant-loop-row g l = l.out.items ≡ (magic_one ++ l.namespace) ++ flat_map row_frame (map g.R.Row.value (take l.row-index l.rows))
