-- A capability against which there is nothing begins as it should.
use Rattle.std.proofs.Common.{◌≡◌, None}
use Rattle.scheme_core.specs.Rules.{Rules}
use Rattle.mc_cap.specs.Valid.{chain_refusal, beginning_refusal}
use Rattle.mc_cap.specs.declared.capability.Capability.{Capability}
use Rattle.mc_cap.proofs.Meaning.{begins_where_valid}
use Rattle.sync_hello.specs.Checked.{capability_refusal}
use Rattle.sync_hello.proofs.Meaning.{no_chain}

pub begins_where_passed : (rules : Rules) (c : Capability) → capability_refusal rules c ≡ None → beginning_refusal rules c ≡ None
begins_where_passed rules c none = begins_where_valid rules c (no_chain (chain_refusal rules c) none)
