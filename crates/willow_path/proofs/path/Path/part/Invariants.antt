use Rattle.std.proofs.Common.{◌≡◌, [], length, get_or}
use Rattle.willow_path.specs.PathBytes.{AreOfParts, parts_of}
use Rattle.willow_path.proofs.path.Path.part.Given as goal

abbrev pub invariant-loop-part : goal.invariant-loop-part
invariant-loop-part l = record {
  whole : AreOfParts l.rest;
  here : get_or (parts_of l.rest) l.before [] ≡ get_or l.self l.i [];
}

abbrev pub decreases-loop-part : goal.decreases-loop-part
decreases-loop-part l = length l.rest
