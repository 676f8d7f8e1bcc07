-- Signatures to be verified, and what a scheme answers.
use Rattle.std.specs.Prelude.{ℕ, Bool, List, ◌++◌}
use Rattle.scheme_core.specs.Rules.{Rules}
use Rattle.scheme_core.specs.declared.claim.Claim.{Claim}

-- what a claim says was signed: its first piece, and the rest behind it
abbrev pub message_of : Claim → List ℕ
message_of c = c.front.now ++ c.rest.now

-- whether a claim's signature is accepted
abbrev pub accepts_claim : Rules → Claim → Bool
accepts_claim rules c = rules.user c.key (message_of c) c.signature.now
