-- Which hellos are refused, and for which cause.
use Rattle.std.specs.Prelude.{◌≡◌, ◌≢◌, ℕ, ◌==◌, not, List, Option, Some, None, option_map, IsTrue}
use Rattle.spelling.specs.Answers.{or_else, cause_if}
use Rattle.scheme_core.specs.Rules.{Rules}
use Rattle.willow_area.specs.Area.{includes_area}
use Rattle.willow_entry.specs.Entry.{same_bytes}
use Rattle.mc_cap.specs.Grant.{granted}
use Rattle.mc_cap.specs.Valid.{chain_refusal, IsValid}
use Rattle.mc_cap.specs.declared.capability.Capability.{Capability}
use Rattle.mc_cap.specs.declared.capability.Mode.{Mode}
use Rattle.mc_cap.specs.declared.capability.Mode.TheVariants.{Read, Write}
use Rattle.sync_hello.specs.declared.hello.Hello.{Hello}
use Rattle.session_end.specs.declared.refusal.HelloRefusal.{HelloRefusal}
use Rattle.session_end.specs.declared.refusal.HelloRefusal.TheVariants.{VersionUnknown, WrongNamespace, NotRead, Chain, AskOutsideGrant}

-- ---- the first condition that fails

-- version 0 is none that anybody speaks
abbrev pub version_refusal : ℕ → Option HelloRefusal
version_refusal version = cause_if (version == 0) VersionUnknown

-- the capability is of another namespace
abbrev pub namespace_refusal : List ℕ → Capability → Option HelloRefusal
namespace_refusal n c = cause_if (not (same_bytes c.namespace n)) WrongNamespace

-- the capability is not for reading
abbrev pub mode_refusal : Mode → Option HelloRefusal
mode_refusal Read = None
mode_refusal Write = Some NotRead

-- the capability is not valid
abbrev pub capability_refusal : Rules → Capability → Option HelloRefusal
capability_refusal rules c = option_map Chain (chain_refusal rules c)

-- the ask is not within what the capability grants
abbrev pub ask_refusal : Hello → Option HelloRefusal
ask_refusal h = cause_if (not (includes_area (granted h.capability) h.ask)) AskOutsideGrant

-- what needs no capability checked: version, then namespace, then mode
unfoldable pub claim_refusal : List ℕ → Hello → Option HelloRefusal
claim_refusal n h = or_else (version_refusal h.version) (or_else (namespace_refusal n h.capability) (mode_refusal h.capability.mode))

-- why the hello is refused in the namespace: version, namespace, mode, capability, ask
unfoldable pub hello_refusal : Rules → List ℕ → Hello → Option HelloRefusal
hello_refusal rules n h = or_else (claim_refusal n h) (or_else (capability_refusal rules h.capability) (ask_refusal h))

-- ---- passed

-- The hello passes in the namespace: its version is not 0, its capability is of the namespace, for reading and valid,
-- and what that grants includes the ask.
pub record Passes (rules : Rules) (n : List ℕ) (h : Hello) : Type 0 where
  pub speaks : h.version ≢ 0
  pub of_namespace : h.capability.namespace ≡ n
  pub reads : h.capability.mode ≡ Read
  pub valid : IsValid rules h.capability
  pub within : IsTrue (includes_area (granted h.capability) h.ask)
