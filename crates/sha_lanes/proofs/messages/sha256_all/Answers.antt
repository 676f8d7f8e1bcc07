use Rattle.std.proofs.Common.{ℕ, ◌%◌, arith, false}
use Rattle.std.proofs.lemmas.List.{get_or-replicate, length-replicate}
use Rattle.sha_lanes.proofs.OfWindows.{AreHashed-none, AreHashed-all}
use Rattle.sha_lanes.proofs.messages.sha256_all.Goals as goal

pub messages-init : goal.messages-init
messages-init c = (
  AreHashed-none c.args.messages.now c.args.digests.now _ c.requires (λ (k : ℕ). get_or-replicate 64 (k % 64) false false (omega arith)),
  length-replicate 64 false,
)

pub returns : goal.returns
returns c = AreHashed-all c.args.messages.now c.messages.digests c.messages.hashed c.messages.first (omega (arith, c.messages-test.false)) c.messages.invariant.0
