-- Where the readers of capabilities and tokens ask for memory: want of memory is an answer only there.
use Rattle.std.specs.Prelude.{ℕ, ◌<◌, ◌⊎◌, Bool, true, false, List}
use Rattle.spelling.specs.Memory.{Behind, IsWhole}
use Rattle.spelling.specs.Reading.{byte_up_to}
use Rattle.willow_path.specs.Key.{key_at}
use Rattle.willow_area.specs.AreaSpelling.{AreaAsks}
use Rattle.mc_cap.specs.declared.chain.TheConstants.{MAX_CHAIN}
use Rattle.cap_codec.specs.Reading.{form_at, signature_at, capability_at}

-- a signature asks where all its bytes are there
abbrev pub SignatureAsks : List ℕ → Type 0
SignatureAsks bytes = IsWhole (signature_at bytes)

-- some delegations ask where the area of the first does
abbrev pub DelegationsAsk : ℕ → List ℕ → Type 0
DelegationsAsk count bytes = (0 < count) × AreaAsks bytes

-- a chain asks with its delegations
abbrev pub ChainAsks : List ℕ → Type 0
ChainAsks bytes = Behind (byte_up_to MAX_CHAIN bytes) DelegationsAsk

-- behind its keys an owned capability asks with its initial signature, and a communal one with its chain
abbrev pub AsksBehindKeys : Bool → List ℕ → Type 0
AsksBehindKeys true bytes = SignatureAsks bytes
AsksBehindKeys false bytes = ChainAsks bytes

-- a capability asks behind its keys
abbrev pub CapabilityAsks : List ℕ → Type 0
CapabilityAsks bytes = Behind (form_at bytes) (λ form keys. Behind (key_at keys) (λ namespace others. Behind (key_at others) (λ user rest. AsksBehindKeys form.1 rest)))

-- a token asks where its capability does, or else with its signature
abbrev pub TokenAsks : List ℕ → Type 0
TokenAsks bytes = CapabilityAsks bytes ⊎ Behind (capability_at bytes) (λ capability rest. SignatureAsks rest)
