use Rattle.std.proofs.Common.{slice_get, sym, ap, ◌∙◌, arith}
use Rattle.link_arena.specs.Arena.{slots_in}
use Rattle.recency_index.proofs.Taken.{stands_at, none_behind}
use Rattle.recency_index.proofs.index.nth_slot.Goals as goal

pub returns-in_err-at : goal.returns-in_err-at
returns-in_err-at c =
    c.from_residual.ensures
    ∙ sym (none_behind (slots_in c.args.items.now.by_rank) c.loop-passed._passed c.args.n (omega (arith, c.loop-passed-test.true)) (sym c.loop-passed.invariant ∙ c.in_err-at.was))

pub next_by-at-requires : goal.next_by-at-requires
next_by-at-requires c =
    let at = stands_at c.args.items.now c.requires c.loop-passed._passed c.in_ok-at.field-0 (sym c.loop-passed.invariant ∙ c.in_ok-at.was) in
    (at.item, at.holds)

pub returns : goal.returns
returns c = c.loop-passed.invariant ∙ ap (slice_get (slots_in c.args.items.now.by_rank)) (omega (arith, c.loop-passed-test.false, c.loop-passed.auto._passed-end))
