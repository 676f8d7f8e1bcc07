-- Capabilities that were found valid, told by their bytes.
use Rattle.std.specs.Prelude.{◌≡◌, ℕ, None}
use Rattle.std.specs.Global.{Vec}
use Rattle.scheme_core.specs.Rules.{Rules}
use Rattle.mc_cap.specs.Forms.{capability_spelling, IsCapability}
use Rattle.mc_cap.specs.declared.capability.Capability.{Capability}
use Rattle.auth_entry.specs.Authorised.{capability_refusal}

-- a capability that these bytes spell is valid
abbrev pub IsKnown : Rules → Vec ℕ → Type 0
IsKnown rules known = (c : Capability) → IsCapability c → known.items ≡ capability_spelling c → capability_refusal rules c ≡ None
