-- What is judged before any memory is asked for.
use Rattle.std.proofs.Common.{◌≡◌, ℕ, List, Option, None, ap, subst}
use Rattle.std.specs.Prelude.{option_map}
use Rattle.scheme_core.specs.Rules.{Rules}
use Rattle.mc_cap.specs.Valid.{beginning_refusal, chain_refusal}
use Rattle.mc_cap.specs.declared.capability.Capability.{Capability}
use Rattle.mc_cap.specs.declared.check.ChainRefusal.{ChainRefusal}
use Rattle.mc_cap.specs.declared.refusal.RowRefusal.TheVariants.{Chain}
use Rattle.mc_cap.proofs.Causes.{neither}
use Rattle.mc_cap.proofs.Meaning.{begins_where_valid}
use Rattle.cap_codec.specs.declared.token.WriteToken.{WriteToken}
use Rattle.cap_codec.specs.Rows.{RawValue}
use Rattle.auth_entry.specs.Authorised.{claim_refusal, capability_refusal, early_refusal}
use Rattle.auth_entry.proofs.Meaning.{no_chain}

pub early_none : (rules : Rules) (n : List ℕ) (r : RawValue) → claim_refusal n r ≡ None → beginning_refusal rules r.token.capability ≡ None → early_refusal rules n r ≡ None
unfolding early_refusal
early_none rules n r claim begun = neither (claim_refusal n r) (option_map Chain (beginning_refusal rules r.token.capability)) claim (ap (λ (o : Option ChainRefusal). option_map Chain o) begun)

-- a capability that is not refused begins well
begins : (rules : Rules) (c : Capability) → capability_refusal rules c ≡ None → beginning_refusal rules c ≡ None
begins rules c none = begins_where_valid rules c (no_chain (chain_refusal rules c) none)

-- the same of a token's capability, where the token is another's
pub token_begins : (rules : Rules) (t u : WriteToken) → t ≡ u → capability_refusal rules t.capability ≡ None → beginning_refusal rules u.capability ≡ None
token_begins rules t u same none = begins rules u.capability (subst (λ (x : WriteToken). capability_refusal rules x.capability ≡ None) same none)
