use Rattle.std.proofs.Common.{◌≡◌, ◌+◌, length}
use Rattle.willow_path.specs.Path.{IsPath}
use Rattle.willow_path.specs.PathBytes.{AreOfParts, parts_of}
use Rattle.willow_path.proofs.path.Path.count.Given as goal

abbrev pub invariant-loop-behind : goal.invariant-loop-behind
invariant-loop-behind l = record {
  whole : AreOfParts l.rest;
  counted : l.count + length (parts_of l.rest) ≡ length l.self;
  path : IsPath l.self;
}

abbrev pub decreases-loop-behind : goal.decreases-loop-behind
decreases-loop-behind l = length l.rest
