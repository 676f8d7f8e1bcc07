use Rattle.std.proofs.Common.{arith}
use Rattle.std.proofs.lemmas.Result.{err_from_is_err_and}
use Rattle.mc_cap.proofs.Handing.{left_here, fails_first, passes_first, none_left, granted_on, receiver_on, text_on}
use Rattle.mc_cap.proofs.capability.Capability.check_delegations.Goals as goal

pub returns-in_err-check_handing : goal.returns-in_err-check_handing
returns-in_err-check_handing g c =
    let inv = c.loop-next.invariant in
    let p = err_from_is_err_and c.from_residual.result c.from_residual.ensures.1 in
    let left = left_here c.args.self.now c.as_slice-next-items.result.now c.loop-next.next-index c.next-item.result inv.items c.loop-next-test.true c.next-item.is g.S.Verify.rules c.loop-next.count c.loop-next.grant.now c.loop-next.receiver.now c.loop-next.message.items _ inv.counted inv.grant inv.receiver inv.message inv.left in
    rw (p.1, p.2) (fails_first (Unit {0}) c.in_err-check_handing.field-0.0 _ _ _ left c.in_err-check_handing.ensures.answer)

pub loop-next-preserved : goal.loop-next-preserved
loop-next-preserved g c =
    let inv = c.loop-next.invariant in
    let left = left_here c.args.self.now c.as_slice-next-items.result.now c.loop-next.next-index c.next-item.result inv.items c.loop-next-test.true c.next-item.is g.S.Verify.rules c.loop-next.count c.loop-next.grant.now c.loop-next.receiver.now c.loop-next.message.items _ inv.counted inv.grant inv.receiver inv.message inv.left in
    record {
      items = inv.items;
      counted = omega (arith, inv.counted);
      message = text_on c.args.self.now c.as_slice-next-items.result.now c.loop-next.next-index c.next-item.result inv.items c.loop-next-test.true c.next-item.is c.args.count_at c.loop-next.count _ _ c.requires.place inv.counted inv.message c.in_ok-check_handing.ensures.grown;
      grant = granted_on c.args.self.now c.as_slice-next-items.result.now c.loop-next.next-index c.next-item.result inv.items c.loop-next-test.true c.next-item.is;
      receiver = receiver_on c.args.self.now c.as_slice-next-items.result.now c.loop-next.next-index c.next-item.result inv.items c.loop-next-test.true c.next-item.is;
      left = passes_first _ _ _ left c.in_ok-check_handing.ensures.answer;
    }

pub returns : goal.returns
returns g c =
    let inv = c.loop-next.invariant in
    none_left g.S.Verify.rules c.args.self.now c.as_slice-next-items.result.now c.loop-next.next-index _ inv.items c.loop-next-test.false inv.left
