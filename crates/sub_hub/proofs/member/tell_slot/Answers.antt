use Rattle.std.proofs.Common.{sym}
use Rattle.sub_hub.proofs.Slots.{told_left}
use Rattle.sub_hub.proofs.member.tell_slot.Goals as goal

pub returns-in-Some-clause-left : goal.returns-in-Some-clause-left
returns-in-Some-clause-left g c = told_left _ c.args.members.now c.args.slot _ _ (sym c.in-Some.ensures.value) c.tell.result c.tell.ensures.left c.tell.ensures.stays_away
