use Rattle.std.proofs.Common.{◌∷◌, arith, sym, ap, ◌∙◌, subst}
use Rattle.ns_state.specs.Log.{IsLog}
use Rattle.log_rule.proofs.Seats.{joins}
use Rattle.ns_cell.specs.Passes.{IsPassOf}
use Rattle.ns_cell.specs.Seats.{content, cell_at}
use Rattle.ns_cell.specs.Joined.{IsJoined}
use Rattle.ns_cell.proofs.Joined.{all_mid, one_more_gone, joined_more}
use Rattle.ns_cell.proofs.joining.join_all.Goals as goal

pub join_seat-requires : goal.join_seat-requires
join_seat-requires g c =
    let inv = c.loop-pass.invariant in let words = c.requires.words in
    let cell = cell_at c.args.top.now.table_id c.args.top.now.key.passes c.args.top.now.key.state.value.namespace in
    let own = all_mid (IsPassOf cell) c.args.passes.items c.loop-pass.passes.items c.pop-in-loop-pass.new.self.items inv.2.0 c.in-Some-pop.pass c.requires.passes inv.2.1 c.in-Some-pop.ensures.items in (
      inv.0,
      c.seat_of.ensures.table ∙ ap (λ k. k.table) own,
      c.seat_of.ensures.carries,
      omega arith,
      joins content (IsLog g.R.Row.value) _ _ _ _ _ (let e = inv.2.3.parts in let h = inv.2.2 in omega arith) inv.2.3.role c.seat_of.ensures.joined.role,
    )

pub loop-pass-preserved : goal.loop-pass-preserved
loop-pass-preserved g c =
    let inv = c.loop-pass.invariant in let now = c.join_seat.ensures.2 in
    let cell = cell_at c.args.top.now.table_id c.args.top.now.key.passes c.args.top.now.key.state.value.namespace in
    let own = all_mid (IsPassOf cell) c.args.passes.items c.loop-pass.passes.items c.pop-in-loop-pass.new.self.items inv.2.0 c.in-Some-pop.pass c.requires.passes inv.2.1 c.in-Some-pop.ensures.items in (
      c.join_seat.ensures.0 ∙ inv.0,
      ap (λ m. m.1) now ∙ inv.1,
      (
        c.in-Some-pop.pass ∷ inv.2.0,
        one_more_gone c.args.passes.items c.loop-pass.passes.items c.pop-in-loop-pass.new.self.items inv.2.0 c.in-Some-pop.pass inv.2.1 c.in-Some-pop.ensures.items,
        omega arith,
        subst (IsJoined g.R.Row.value cell (c.in-Some-pop.pass ∷ inv.2.0)) (sym (ap (λ m. m.0) now)) (joined_more g.R.Row.value cell inv.2.0 c.in-Some-pop.pass _ _ inv.2.3 own c.seat_of.ensures.joined),
      ),
    )
