use Rattle.std.proofs.Common.{arith}
use Rattle.lms_core.specs.Accepts.{levels}
use Rattle.lms_core.proofs.Known.{leaf_node}
use Rattle.lms_core.proofs.Nodes.{pow_level_below}
use Rattle.lms_core.proofs.Secrets.{node_value_inner}
use Rattle.lms_core.proofs.known_tree.KnownTree.+value.Goals as goal

pub returns-then-level-eq0 : goal.returns-then-level-eq0
returns-then-level-eq0 t c =
    let s = c.args.self.now in
    let count = rw c.self.view_is at c.leaves.ensures.value in
    leaf_node s.height s.identifier s.seed c.args.level c.args.node c.leaves.result _ (omega arith) count c.requires.node_from c.leaf_value.ensures

pub value-left-requires : goal.value-left-requires
value-left-requires t c =
    let p = pow_level_below (levels c.args.self.now.height) c.args.level (omega arith) c.requires.level_in in
    (omega arith, (omega arith, (omega arith, omega arith)))

pub value-right-requires : goal.value-right-requires
value-right-requires t c =
    let p = pow_level_below (levels c.args.self.now.height) c.args.level (omega arith) c.requires.level_in in
    (omega arith, (omega arith, (omega arith, omega arith)))

pub returns : goal.returns
returns t c =
    let s = c.args.self.now in
    let both = rw c.self.view_is at c.inner.ensures in
    node_value_inner s.height s.identifier s.seed c.args.level c.args.node c.value-left.result c.value-right.result _ (omega arith) c.value-left.ensures c.value-right.ensures both
