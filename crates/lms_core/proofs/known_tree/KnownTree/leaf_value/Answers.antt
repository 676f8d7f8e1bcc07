use Rattle.std.proofs.Common.{◌∙◌, List, ℕ, length, get_or, ap, arith}
use Rattle.lms_core.proofs.Known.{length_leaf_values, leaf_value_at}
use Rattle.lms_core.proofs.known_tree.KnownTree.leaf_value.Goals as goal

pub index-requires : goal.index-requires
index-requires c =
    let t = c.args.self.now in
    let known = rw (c.in-Some.is, c.self.view_is) at c.self.invariant in
    let all = ap (λ (l : List (List ℕ)). length l) known ∙ length_leaf_values t.height t.identifier t.seed in
    rw c.deref.ensures (omega (arith, all, c.requires))

pub returns-in-Some : goal.returns-in-Some
returns-in-Some c =
    let t = c.args.self.now in
    let known = rw (c.in-Some.is, c.self.view_is) at c.self.invariant in
    let x = c.index.result.now in
    let items = ap (λ (l : List (List ℕ)). get_or l c.args.index x) known in
    c.index.ensures ∙ rw c.deref.ensures items ∙ leaf_value_at t.height t.identifier t.seed c.args.index x c.requires
