-- When a capability is valid, and which condition is the first that fails.
use Rattle.std.specs.Prelude.{◌≡◌, ◌↔◌, ℕ, ◌+◌, ◌≤◌, not, List, length, Option, Some, None, IsTrue, IfSome, nat_lt, slice_get, if◌then◌else◌}
use Rattle.spelling.specs.Answers.{or_else, cause_if, first_some}
use Rattle.scheme_core.specs.Rules.{Rules}
use Rattle.willow_area.specs.Area.{includes_area}
use Rattle.willow_area.specs.declared.area.Area.{Area}
use Rattle.mc_cap.specs.Grant.{cut, receiver_of, granted}
use Rattle.mc_cap.specs.Messages.{initial_message, handover}
use Rattle.mc_cap.specs.declared.chain.Delegation.{Delegation}
use Rattle.mc_cap.specs.declared.capability.Capability.{Capability}
use Rattle.mc_cap.specs.declared.check.TheConstants.{MAX_DELEGATIONS}
use Rattle.mc_cap.specs.declared.check.ChainRefusal.{ChainRefusal}
use Rattle.mc_cap.specs.declared.check.ChainRefusal.TheVariants.{NotCommunal, NotOwned, BadInitial, AreaGrows, BadSignature, TooManyDelegations}

-- ---- valid

-- The capability is handed on rightly by the delegation: its grant includes the delegation's area, and its
-- receiver signed the handover.
pub record IsHandedOn (rules : Rules) (c : Capability) (d : Delegation) : Type 0 where
  pub inside : IsTrue (includes_area (granted c) d.area)
  pub signed : IsTrue (rules.user (receiver_of c) (handover c d.area d.user) d.signature)

-- The capability is valid: few delegations; communal exactly where its namespace is; where it is owned, the
-- namespace signed the initial message; and each delegation hands on rightly what the ones before it made.
pub record IsValid (rules : Rules) (c : Capability) : Type 0 where
  pub few : length c.chain ≤ MAX_DELEGATIONS
  pub suits : (c.initial ≡ None) ↔ IsTrue (rules.communal c.namespace)
  pub begun : IfSome c.initial (λ signature. IsTrue (rules.owner c.namespace (initial_message c.mode c.user) signature))
  pub handed_on : (k : ℕ) (d : Delegation) → slice_get c.chain k ≡ Some d → IsHandedOn rules (cut c k) d

-- ---- the first condition that fails

-- where a capability with this initial signature fails before any delegation
abbrev pub start_by : Rules → Capability → Option (List ℕ) → Option ChainRefusal
start_by rules c None = cause_if (not (rules.communal c.namespace)) NotCommunal
start_by rules c (Some signature) =
    or_else (cause_if (rules.communal c.namespace) NotOwned)
    (cause_if (not (rules.owner c.namespace (initial_message c.mode c.user) signature)) BadInitial)

-- why the capability cannot even begin
unfoldable pub start_refusal : Rules → Capability → Option ChainRefusal
start_refusal rules c = start_by rules c c.initial

-- why a delegation does not hand on an area of this receiver by a signature of this message; the delegation
-- is named by its place, from 1
abbrev pub handing_refusal : Rules → Area → List ℕ → List ℕ → ℕ → Delegation → Option ChainRefusal
handing_refusal rules grant receiver message at d =
    or_else (cause_if (not (includes_area grant d.area)) (AreaGrows at))
    (cause_if (not (rules.user receiver message d.signature)) (BadSignature at))

-- why the delegation d behind the first k does not hand on what those made
unfoldable pub step_refusal : Rules → Capability → ℕ → Delegation → Option ChainRefusal
step_refusal rules c k d =
    handing_refusal rules (granted (cut c k)) (receiver_of (cut c k)) (handover (cut c k) d.area d.user) (k + 1) d

-- what is judged before any delegation is looked at: too many of them, or the start
unfoldable pub beginning_refusal : Rules → Capability → Option ChainRefusal
beginning_refusal rules c = if nat_lt MAX_DELEGATIONS (length c.chain) then Some TooManyDelegations else start_refusal rules c

-- too many delegations, or the start, or the first delegation that fails
unfoldable pub chain_refusal : Rules → Capability → Option ChainRefusal
chain_refusal rules c =
    if nat_lt MAX_DELEGATIONS (length c.chain) then Some TooManyDelegations else
    or_else (start_refusal rules c) (first_some (step_refusal rules c) 0 c.chain)
