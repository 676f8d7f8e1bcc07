-- What the signatures of a capability sign, and whose they are.
use Rattle.std.specs.Prelude.{ℕ, ◌+◌, List, [], ◌∷◌, ◌++◌, Option, Some, None}
use Rattle.mc_cap.specs.Grant.{cut, receiver_of}
use Rattle.mc_cap.specs.Messages.{initial_message, handover}
use Rattle.mc_cap.specs.declared.chain.Delegation.{Delegation}
use Rattle.mc_cap.specs.declared.capability.Capability.{Capability}
use Rattle.mc_cap.specs.declared.signed.SignedMessage.{SignedMessage}

-- a message, the key of who is said to have signed it, and the signature
pub record Signing : Type 0 where
  pub key : List ℕ
  pub message : List ℕ
  pub signature : List ℕ

-- the same of a signed message
abbrev pub signing_of : SignedMessage → Signing
signing_of s = record { key = s.key; message = s.message.items; signature = s.signature.now }

-- with an initial signature: the namespace, the initial message
abbrev pub initial_signings : Capability → Option (List ℕ) → List Signing
initial_signings c None = []
initial_signings c (Some signature) = record { key = c.namespace; message = initial_message c.mode c.user; signature = signature } ∷ []

-- of the delegation d behind the first k: the receiver before it, its handover
abbrev pub handing_signing : Capability → ℕ → Delegation → Signing
handing_signing c k d = record { key = receiver_of (cut c k); message = handover (cut c k) d.area d.user; signature = d.signature }

-- the same of each of some delegations, of which the first stands behind the first k
unfoldable pub handing_signings : Capability → ℕ → List Delegation → List Signing
handing_signings c k [] = []
handing_signings c k (d ∷ more) = handing_signing c k d ∷ handing_signings c (k + 1) more

-- the initial signature where there is one, and that of each delegation
abbrev pub signings : Capability → List Signing
signings c = initial_signings c c.initial ++ handing_signings c 0 c.chain
