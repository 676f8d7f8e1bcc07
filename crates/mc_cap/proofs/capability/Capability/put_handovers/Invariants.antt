use Rattle.std.proofs.Common.{◌≡◌, ◌++◌, ◌+◌, drop, length, map, take, vec_len}
use Rattle.mc_cap.specs.Forms.{head_spelling}
use Rattle.mc_cap.specs.Grant.{cut, receiver_of}
use Rattle.mc_cap.specs.Signed.{handing_signings, signing_of}
use Rattle.mc_cap.proofs.Handing.{text_of}
use Rattle.mc_cap.proofs.capability.Capability.put_handovers.Given as goal

abbrev pub invariant-loop-next : goal.invariant-loop-next
invariant-loop-next l = record {
  items : l.next-items ≡ l.self.chain;
  counted : l.count ≡ l.next-index;
  place : l.count_at ≡ length (head_spelling l.self) + 1;
  message : l.message.items ≡ text_of l.self l.next-index;
  receiver : l.receiver ≡ receiver_of (cut l.self l.next-index);
  left : map signing_of l.signed.items ++ handing_signings l.self l.next-index (drop l.next-index l.self.chain) ≡ map signing_of l.fn.signed.items ++ handing_signings l.self 0 l.self.chain;
  kept : take (vec_len l.fn.signed) l.signed.items ≡ l.fn.signed.items;
}
