use Rattle.std.proofs.Common.{◌≡◌, ◌++◌, ◌+◌, ◌-◌, ◌*◌, ◌^◌, ◌<◌, ◌≤◌}
use Rattle.lms_core.specs.Accepts.{levels, leaves}
use Rattle.lms_core.specs.Signer.{node_value, path_of}
use Rattle.lms_core.proofs.known_tree.KnownTree.append_path.Given as goal

abbrev pub invariant-levels : goal.invariant-levels
invariant-levels l = record {
  from : 2 ^ (levels l.self.height - l.level) ≤ l.node;
  upto : l.node < 2 * 2 ^ (levels l.self.height - l.level);
  value : l.reached ≡ node_value l.self.height l.self.identifier l.self.seed l.level l.node;
  path : l.path.items ++ path_of l.self.height l.self.identifier l.self.seed l.level l.node (levels l.self.height - l.level)
      ≡ l.initial.path.items ++ path_of l.self.height l.self.identifier l.self.seed 0 (leaves l.self.height + l.index) (levels l.self.height);
}
