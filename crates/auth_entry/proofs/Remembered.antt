-- A capability that a known one's bytes spell is valid.
use Rattle.std.proofs.Common.{◌≡◌, ℕ, List, [], ◌++◌, None, sym, ap, ◌∙◌, subst}
use Rattle.std.specs.Global.{Vec}
use Rattle.spelling.proofs.Joining.{one_spelling}
use Rattle.scheme_core.specs.Rules.{Rules}
use Rattle.mc_cap.specs.Forms.{capability_spelling, IsCapability}
use Rattle.mc_cap.specs.declared.capability.Capability.{Capability}
use Rattle.cap_codec.proofs.CapReads.{capability-reads}
use Rattle.auth_entry.specs.Authorised.{capability_refusal}
use Rattle.auth_entry.specs.Known.{IsKnown}

module _ (rules : Rules) (known : Vec ℕ) (c : Capability) (fits : IsCapability c) (spelled : known.items ≡ capability_spelling c) (valid : capability_refusal rules c ≡ None) where
  -- no other capability has the spelling
  pub is_known : IsKnown rules known
  is_known d fits' same =
      subst (λ (e : Capability). capability_refusal rules e ≡ None) (one_spelling capability-reads c d [] [] fits fits' (ap (λ (l : List ℕ). l ++ []) (sym spelled ∙ same))).0 valid
