use Rattle.std.proofs.Common.{◌≡◌, length, take}
use Rattle.willow_path.specs.Path.{path_cmp}
use Rattle.willow_path.specs.PathBytes.{AreOfParts, parts_of}
use Rattle.willow_path.proofs.path.Path.cmp_front.Given as goal

abbrev pub invariant-loop-part : goal.invariant-loop-part
invariant-loop-part l = record {
  left_whole : AreOfParts l.left;
  right_whole : AreOfParts l.right;
  so_far : path_cmp (parts_of l.left) (take l.most (parts_of l.right)) ≡ path_cmp l.fn.self (take l.fn.count l.fn.longer);
}

abbrev pub decreases-loop-part : goal.decreases-loop-part
decreases-loop-part l = length l.left
