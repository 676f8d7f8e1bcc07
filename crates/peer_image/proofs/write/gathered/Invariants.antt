use Rattle.std.proofs.Common.{◌≡◌, ◌++◌, ◌≤◌, length, map}
use Rattle.std.specs.List.{AllByRecursion}
use Rattle.willow_entry.specs.Entry.{bytes_cmp}
use Rattle.willow_entry.specs.Frame.{HasFrame}
use Rattle.willow_entry.specs.Pruning.{rising}
use Rattle.peer_image.specs.Image.{capabilities, capability_bytes}
use Rattle.willow_entry.specs.declared.frame.TheConstants.{MAX_FRAME}
use Rattle.peer_image.proofs.write.gathered.Given as goal

abbrev pub invariant-rows : goal.invariant-rows
invariant-rows g l = record {
  frames : AllByRecursion HasFrame (map g.R.Row.value l.left);
  all : rising bytes_cmp (map (λ c. c.now) l.told.items ++ map capability_bytes (map g.R.Row.value l.left)) ≡ capabilities (map g.R.Row.value l.fn.rows);
  short : AllByRecursion (λ c. length c ≤ MAX_FRAME) (map (λ c. c.now) l.told.items);
}

abbrev pub decreases-rows : goal.decreases-rows
decreases-rows g l = length l.left
