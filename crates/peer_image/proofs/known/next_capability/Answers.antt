use Rattle.peer_image.proofs.TwoReading.{none_higher, spelled_there}
use Rattle.peer_image.proofs.known.next_capability.Goals as goal

pub invariant_of-next : goal.invariant_of-next
invariant_of-next c = spelled_there c.args.bytes.now c.in_ok-capability.capability c.in_ok-capability.taken c.in_ok-capability.ensures.decodes.2

pub invariant_of-next-then-is_above : goal.invariant_of-next-then-is_above
invariant_of-next-then-is_above c = spelled_there c.args.bytes.now c.in_ok-capability.capability c.in_ok-capability.taken c.in_ok-capability.ensures.decodes.2

pub returns-clause-next : goal.returns-clause-next
returns-clause-next c =
    let told = c.args.told.now in
    none_higher told c.args.bytes.now c.in_ok-capability.capability c.in_ok-capability.taken c.is_above.result c.in_ok-capability.ensures.decodes.0 c.in_ok-capability.ensures.decodes.2 c.if-is_above.false c.is_above.ensures
