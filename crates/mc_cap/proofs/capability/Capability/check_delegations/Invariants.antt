use Rattle.std.proofs.Common.{◌≡◌, drop}
use Rattle.spelling.specs.Answers.{first_some}
use Rattle.mc_cap.specs.Grant.{cut, granted, receiver_of}
use Rattle.mc_cap.specs.Valid.{step_refusal}
use Rattle.mc_cap.proofs.Handing.{text_of}
use Rattle.mc_cap.proofs.capability.Capability.check_delegations.Given as goal

abbrev pub invariant-loop-next : goal.invariant-loop-next
invariant-loop-next g l = record {
  items : l.next-items ≡ l.self.chain;
  counted : l.count ≡ l.next-index;
  message : l.message.items ≡ text_of l.self l.next-index;
  grant : l.grant ≡ granted (cut l.self l.next-index);
  receiver : l.receiver ≡ receiver_of (cut l.self l.next-index);
  left : first_some (step_refusal g.S.Verify.rules l.self) l.next-index (drop l.next-index l.self.chain) ≡ first_some (step_refusal g.S.Verify.rules l.self) 0 l.self.chain;
}
