-- The own hello of a side, and why it is refused before anything is compared.
use Rattle.std.specs.Prelude.{◌≡◌, ◌⊎◌, ℕ, ◌<◌, false, List, length, Option, Some, None, Result, Ok, Err, if◌then◌else◌}
use Rattle.spelling.specs.Answers.{or_else}
use Rattle.lms_core.specs.Use.{peer_rules}
use Rattle.mc_cap.specs.Grant.{granted}
use Rattle.mc_cap.specs.Valid.{beginning_refusal}
use Rattle.mc_cap.specs.declared.capability.Capability.{Capability}
use Rattle.willow_area.specs.declared.area.Area.{Area}
use Rattle.session_end.specs.declared.refusal.HelloRefusal.{HelloRefusal}
use Rattle.session_end.specs.declared.refusal.HelloRefusal.TheVariants.{AskOutsideGrant}
use Rattle.sync_hello.specs.Checked.{claim_refusal, capability_refusal, hello_refusal}
use Rattle.sync_hello.specs.declared.hello.Hello.{Hello}
use Rattle.sync_hello.specs.declared.version.TheConstants.{HIGHEST_VERSION}
use Rattle.peer_words.specs.Areas.{completed, is_empty}
use Rattle.peer_words.specs.declared.command.AreaWords.{AreaWords}
use Rattle.peer_stage.specs.declared.outcome.Stop.{Stop}
use Rattle.peer_stage.specs.declared.outcome.Stop.TheVariants as stop

-- a hello of the version that this program speaks
abbrev pub hello_of : Capability → Area → List ℕ → Hello
hello_of c ask nonce = record { version = HIGHEST_VERSION; nonce = nonce; ask = ask; capability = c }

-- the hello of a side that asks for the area of its words, completed by what its capability grants
abbrev pub own_hello : AreaWords → Capability → List ℕ → Hello
own_hello words c nonce = hello_of c (completed words (granted c)) nonce

-- Why a hello is refused that asks for an area without times: as one that asks for more than is granted, unless
-- something is against its capability.
abbrev pub empty_refusal : List ℕ → Hello → Option HelloRefusal
empty_refusal n h = or_else (claim_refusal n h) (or_else (capability_refusal peer_rules h.capability) (Some AskOutsideGrant))

-- why the own hello is refused, if it is
unfoldable pub own_refusal : List ℕ → Hello → Option HelloRefusal
own_refusal n h = if is_empty h.ask then empty_refusal n h else hello_refusal peer_rules n h

-- memory is asked for: for the area of a delegation, or for an ask with times
abbrev pub GreetingAsks : AreaWords → Capability → Type 0
GreetingAsks words c = (0 < length c.chain) ⊎ (is_empty (completed words (granted c)) ≡ false)

-- how the own hello is made and judged; of an ask without times by a capability without delegations the refusal needs no
-- memory
abbrev pub Greets : List ℕ → AreaWords → Capability → List ℕ → Result Hello Stop → Type 0
Greets n words c nonce (Ok hello) = (hello ≡ own_hello words c nonce) × (own_refusal n hello ≡ None)
Greets n words c nonce (Err (stop.SessionRefused refusal)) = own_refusal n (own_hello words c nonce) ≡ Some refusal
Greets n words c nonce (Err stop.NoMemory) = GreetingAsks words c
Greets n words c nonce (Err e) = ⊥

-- The same of a hello whose ask has times. Memory is asked for where neither the claim nor the beginning of the capability
-- is refused, for its delegations.
abbrev pub JudgesOwn : List ℕ → Hello → Result Hello Stop → Type 0
JudgesOwn n h (Ok hello) = (hello ≡ h) × (hello_refusal peer_rules n h ≡ None)
JudgesOwn n h (Err (stop.SessionRefused refusal)) = hello_refusal peer_rules n h ≡ Some refusal
JudgesOwn n h (Err stop.NoMemory) = (claim_refusal n h ≡ None) × (beginning_refusal peer_rules h.capability ≡ None) × (0 < length h.capability.chain)
JudgesOwn n h (Err e) = ⊥
