use Rattle.std.proofs.Common.{◌≡◌, ◌++◌, length, map}
use Rattle.std.specs.List.{AllByRecursion, flat_map}
use Rattle.willow_entry.specs.Frame.{row_frame, HasFrame}
use Rattle.peer_image.proofs.write_one.put_frames.Given as goal

abbrev pub invariant-loop-row : goal.invariant-loop-row
invariant-loop-row g l = record {
  frames : AllByRecursion HasFrame (map g.R.Row.value l.left);
  written : l.out.items ++ flat_map row_frame (map g.R.Row.value l.left) ≡ l.fn.out.items ++ flat_map row_frame (map g.R.Row.value l.fn.rows);
}

abbrev pub decreases-loop-row : goal.decreases-loop-row
decreases-loop-row g l = length l.left
