use Rattle.std.proofs.Common.{arith}
use Rattle.std.proofs.lemmas.Grind.{common_steps}
use Rattle.peer_make.proofs.Signatures.{is_used, hands_one}
use Rattle.peer_make.proofs.signing.take_next.Goals as goal

pub unreachable-requires : goal.unreachable-requires
unreachable-requires g c =
    let one = hands_one _ _ _ _ c.in_ok-signers.ensures.hands in
    grind (arith, common_steps, one)

pub returns-clause-hands : goal.returns-clause-hands
returns-clause-hands g c = is_used _ _ _ _ c.pop.new.self.items _ c.in_ok-signers.ensures.hands c.in-Some.ensures.items
