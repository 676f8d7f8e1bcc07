use Rattle.std.proofs.Common.{◌≡◌, ◌∙◌, arith}
use Rattle.lms_core.specs.Accepts.{levels}
use Rattle.lms_core.proofs.Nodes.{sibling_from, sibling_to, half_from, half_to, pow_level_top}
use Rattle.lms_core.proofs.Secrets.{node_value_parent, path_of_taken, path_of_done, root_reached}
use Rattle.lms_core.proofs.known_tree.KnownTree.append_path.Goals as goal

pub value-other-requires-clause-node_from : goal.value-other-requires-clause-node_from
value-other-requires-clause-node_from c =
    let top = rw c.tree-tree.ensures at c.levels-level-end.ensures.value in
    rw c.sibling_of.ensures (sibling_from (levels c.args.self.now.height) c.levels.level c.levels.node (omega arith) c.levels.invariant.from c.levels.invariant.upto)

pub value-other-requires-clause-node_to : goal.value-other-requires-clause-node_to
value-other-requires-clause-node_to c =
    let top = rw c.tree-tree.ensures at c.levels-level-end.ensures.value in
    rw c.sibling_of.ensures (sibling_to (levels c.args.self.now.height) c.levels.level c.levels.node (omega arith) c.levels.invariant.from c.levels.invariant.upto)

pub levels-preserved : goal.levels-preserved
levels-preserved c =
    let s = c.args.self.now in
    let h = levels s.height in
    let top = rw c.tree-tree.ensures at c.levels-level-end.ensures.value in
    let o = rw c.sibling_of.ensures at c.value-other.ensures in
    record {
      from = half_from h c.levels.level c.levels.node (omega arith) c.levels.invariant.from;
      upto = half_to h c.levels.level c.levels.node (omega arith) c.levels.invariant.upto;
      value = (rw c.tree-tree.ensures at c.parent-reached.ensures) ∙ rw (c.levels.invariant.value, o) (node_value_parent s.height s.identifier s.seed c.levels.level c.levels.node);
      path = path_of_taken s.height s.identifier s.seed c.levels.level c.levels.node h c.levels.path.items _ _ c.value-other.result (omega arith) c.in_ok-extend_from_slice.ensures.items o c.levels.invariant.path;
    }

pub returns-clause-root : goal.returns-clause-root
returns-clause-root c =
    let s = c.args.self.now in
    let top = rw c.tree-tree.ensures at c.levels-level-end.ensures.value in
    let done : c.levels.level ≡ levels s.height = omega arith in
    let one = pow_level_top (levels s.height) c.levels.level done in
    root_reached s.height s.identifier s.seed c.levels.level c.levels.node c.levels.reached done (omega (arith, one, c.levels.invariant.from, c.levels.invariant.upto)) c.levels.invariant.value

pub returns-clause-siblings : goal.returns-clause-siblings
returns-clause-siblings c =
    let s = c.args.self.now in
    let top = rw c.tree-tree.ensures at c.levels-level-end.ensures.value in
    path_of_done s.height s.identifier s.seed c.levels.level c.levels.node (levels s.height) c.levels.path.items _ (omega arith) c.levels.invariant.path
