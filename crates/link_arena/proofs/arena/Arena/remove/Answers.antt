use Rattle.std.proofs.Common.{None, arith, ap, sym, ◌∙◌, subst, vec_capacity}
use Rattle.std.specs.Vec.{with_items}
use Rattle.std.proofs.lemmas.List.{with_items_is}
use Rattle.link_arena.specs.Arena.{AreTwoOrders, IsVacant}
use Rattle.link_arena.specs.Slots.{value_at}
use Rattle.link_arena.proofs.Sounds.{value_told, orders}
use Rattle.link_arena.proofs.Removals.{can_remove_from, holds_one, removed_from, same_value}
use Rattle.link_arena.proofs.arena.Arena.remove.Goals as goal

pub returns-in_err-value_of-clause-vacant : goal.returns-in_err-value_of-clause-vacant
returns-in_err-value_of-clause-vacant g c =
    rw c.from_residual.ensures (subst (λ a. IsVacant a c.args.slot) c.self.view_is
    (value_told _ _ _ _ _ _ _ _ _ c.self.invariant.3 (vec_capacity c.self.inside.slots) c.args.slot None (c.in_err-value_of.ensures ∙ ap (λ slots. value_at slots c.args.slot) c.deref.ensures.value)))

pub returns-in_err-value_of-clause-orders : goal.returns-in_err-value_of-clause-orders
returns-in_err-value_of-clause-orders g c = subst (AreTwoOrders g.T.Twice.cmp_by) c.self.view_is (orders _ _ _ _ _ _ _ _ _ c.self.invariant.3 g.met.T.Twice.total _)

pub remove_both-self-inside-requires-clause-there : goal.remove_both-self-inside-requires-clause-there
remove_both-self-inside-requires-clause-there g c =
    let was = ap (λ slots. value_at slots c.args.slot) (sym c.deref.ensures.value) ∙ sym c.in_ok-value_of.ensures in
    (_, (_, can_remove_from g.T.Twice.cmp_by _ _ _ _ _ c.self.inside.held c.args.slot c.self.invariant _ was c.as_mut_slice.ensures.value))

pub empty-value-requires : goal.empty-value-requires
empty-value-requires g c = λ none.
    let was = ap (λ slots. value_at slots c.args.slot) (sym c.deref.ensures.value) ∙ sym c.in_ok-value_of.ensures in
    let same = same_value _ _ _ _ c.args.slot c.as_mut_slice.ensures.value c.remove_both-self-inside.ensures.contents
    (c.as_mut_slice-2.ensures.value ∙ with_items_is c.self.inside.slots c.remove_both-self-inside.new.slots (omega arith)) in
    cc

pub overflow_sub-self : goal.overflow_sub-self
overflow_sub-self g c =
    let was = ap (λ slots. value_at slots c.args.slot) (sym c.deref.ensures.value) ∙ sym c.in_ok-value_of.ensures in
    holds_one g.T.Twice.cmp_by _ _ _ _ _ c.self.inside.held c.args.slot c.self.invariant _ was c.as_mut_slice.ensures.value

pub invariant_of-self : goal.invariant_of-self
invariant_of-self g c =
    let lends = c.as_mut_slice-2.ensures.value ∙ with_items_is c.self.inside.slots c.remove_both-self-inside.new.slots (omega arith) in
    let was = sym (same_value _ _ _ _ c.args.slot c.as_mut_slice.ensures.value c.remove_both-self-inside.ensures.contents lends) ∙ c.empty-value.ensures.value in
    (removed_from g.T.Twice.cmp_by _ _ _ _ _ c.self.inside.held c.args.slot c.self.invariant _ was c.as_mut_slice.ensures.value g.met.T.Twice.total _ _ c.self.view_is _ _ _ _ _ _
    c.remove_both-self-inside.ensures.removed c.remove_both-self-inside.ensures.contents (omega arith) lends c.empty-value.ensures.emptied
    (with_items_is (with_items c.self.inside.slots c.remove_both-self-inside.new.slots) c.empty-value.new.slots (omega arith))).sound

pub returns : goal.returns
returns g c =
    let lends = c.as_mut_slice-2.ensures.value ∙ with_items_is c.self.inside.slots c.remove_both-self-inside.new.slots (omega arith) in
    let was = sym (same_value _ _ _ _ c.args.slot c.as_mut_slice.ensures.value c.remove_both-self-inside.ensures.contents lends) ∙ c.empty-value.ensures.value in
    let made = removed_from g.T.Twice.cmp_by _ _ _ _ _ c.self.inside.held c.args.slot c.self.invariant _ was c.as_mut_slice.ensures.value g.met.T.Twice.total _ _ c.self.view_is _ _ _ _ _ _
    c.remove_both-self-inside.ensures.removed c.remove_both-self-inside.ensures.contents (omega arith) lends c.empty-value.ensures.emptied
    (with_items_is (with_items c.self.inside.slots c.remove_both-self-inside.new.slots) c.empty-value.new.slots (omega arith)) in
    let one = holds_one g.T.Twice.cmp_by _ _ _ _ _ c.self.inside.held c.args.slot c.self.invariant _ was c.as_mut_slice.ensures.value in
    record {
      vacant = made.holds;
      by_key = made.by_key;
      by_rank = made.by_rank;
      orders = made.orders _;
      spare = let spare = ap (λ a. a.spare) c.self.view_is in omega arith;
      kept = tt;
    }
