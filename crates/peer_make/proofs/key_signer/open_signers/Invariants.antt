use Rattle.std.proofs.Common.{◌≡◌, replicate}
use Rattle.peer_make.specs.declared.key_signer.KeySigner.TheVariants.{Open}
use Rattle.peer_make.proofs.key_signer.open_signers.Given as goal

abbrev pub invariant-loop : goal.invariant-loop
invariant-loop l = l.signers.items ≡ replicate l.counter (Open l.key)
