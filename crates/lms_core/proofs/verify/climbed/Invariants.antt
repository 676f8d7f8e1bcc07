use Rattle.std.proofs.Common.{◌≡◌, ◌-◌, ◌*◌, drop}
use Rattle.lms_core.specs.Tree.{climb}
use Rattle.lms_core.proofs.verify.climbed.Given as goal

abbrev pub invariant-levels : goal.invariant-levels
invariant-levels l = climb l.identifier l.at l.reached (l.levels - l.level) (drop (32 * l.level) l.path) ≡ climb l.identifier l.node l.value l.levels l.path
