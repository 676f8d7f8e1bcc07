use Rattle.std.proofs.Common.{◌≡◌, ◌++◌, length, map}
use Rattle.std.specs.List.{AllByRecursion, flat_map}
use Rattle.willow_entry.specs.Frame.{HasFrame}
use Rattle.peer_image.specs.Image.{placed_frame}
use Rattle.peer_image.proofs.write.put_rows_two.Given as goal

abbrev pub invariant-rows : goal.invariant-rows
invariant-rows g l = record {
  frames : AllByRecursion HasFrame (map g.R.Row.value l.left);
  written : l.out.items ++ flat_map (placed_frame (map (λ c. c.now) l.told)) (map g.R.Row.value l.left) ≡ l.fn.out.items ++ flat_map (placed_frame (map (λ c. c.now) l.told)) (map g.R.Row.value l.fn.rows);
}

abbrev pub decreases-rows : goal.decreases-rows
decreases-rows g l = length l.left
