use Rattle.std.proofs.Common.{arith, rules}
use Rattle.mc_cap.proofs.Handing.{receiver_on, text_on}
use Rattle.mc_cap.proofs.Signing.{all_signed, handed, kept_on, signed_on}
use Rattle.mc_cap.proofs.capability.Capability.put_handovers.Goals as goal

pub loop-next-preserved : goal.loop-next-preserved
loop-next-preserved c =
    let inv = c.loop-next.invariant in
    let grown = handed c.next-item.result c.loop-next.message.items c.spell_handing.new.text.items c.spell_signature.new.text.items (search rules) (search rules) in
    record {
      items = inv.items;
      counted = omega (arith, inv.counted);
      place = inv.place;
      message = text_on c.args.self.now c.as_slice-next-items.result.now c.loop-next.next-index c.next-item.result inv.items c.loop-next-test.true c.next-item.is _ c.loop-next.count _ _ inv.place inv.counted inv.message grown;
      receiver = receiver_on c.args.self.now c.as_slice-next-items.result.now c.loop-next.next-index c.next-item.result inv.items c.loop-next-test.true c.next-item.is;
      left = signed_on c.args.self.now c.as_slice-next-items.result.now c.loop-next.next-index c.next-item.result inv.items c.loop-next-test.true c.next-item.is _ _ _ c.loop-next.receiver.now c.loop-next.message.items _ c.in_ok-push.ensures.items (search rules) inv.receiver inv.message inv.left;
      kept = kept_on c.args.signed.now.items c.loop-next.signed.items _ _ c.args.signed.now.len (omega (arith, c.args.signed.now.ok)) inv.kept c.in_ok-push.ensures.items;
    }

pub returns-clause-told : goal.returns-clause-told
returns-clause-told c =
    let inv = c.loop-next.invariant in
    all_signed c.args.self.now c.as_slice-next-items.result.now c.loop-next.next-index _ _ inv.items c.loop-next-test.false inv.left
