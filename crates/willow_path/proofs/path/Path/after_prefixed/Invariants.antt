use Rattle.std.proofs.Common.{◌≡◌, ◌≤◌, length, take}
use Rattle.willow_path.specs.Path.{IsPath, total}
use Rattle.willow_path.specs.Successor.{after}
use Rattle.willow_path.proofs.path.Path.after_prefixed.Given as goal

abbrev pub invariant-loop-count : goal.invariant-loop-count
invariant-loop-count l = record {
  placed : l.count ≤ length l.self;
  counted : l.before ≡ total (take l.count l.self);
  so_far : after l.self ≡ after (take l.count l.self);
  path : IsPath l.self;
}

abbrev pub decreases-loop-count : goal.decreases-loop-count
decreases-loop-count l = l.count
