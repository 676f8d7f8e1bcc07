-- Nothing refuses a row exactly where it is authorised.
use Rattle.std.proofs.Common.{◌≡◌, ◌↔◌, ℕ, Bool, ◌&&◌, List, Option, Some, None, refl, sym, ap, subst, ◌∙◌}
use Rattle.std.specs.Prelude.{option_map}
use Rattle.std.specs.Cmp.Lexicographic.{bytes_decides}
use Rattle.std.proofs.lemmas.Bool.{and_parts, and_from}
use Rattle.spelling.specs.Answers.{or_else}
use Rattle.spelling.proofs.Causes.{or_else_both}
use Rattle.scheme_core.specs.Rules.{Rules}
use Rattle.willow_area.specs.Area.{in_area}
use Rattle.willow_entry.specs.Entry.{same_bytes}
use Rattle.willow_entry.specs.Message.{entry_message}
use Rattle.mc_cap.specs.Grant.{receiver_of, granted}
use Rattle.mc_cap.specs.Valid.{chain_refusal}
use Rattle.mc_cap.specs.declared.check.ChainRefusal.{ChainRefusal}
use Rattle.mc_cap.specs.declared.capability.Mode.{Mode}
use Rattle.mc_cap.specs.declared.capability.Mode.TheVariants.{Read, Write}
use Rattle.mc_cap.proofs.Causes.{unless_true, neither}
use Rattle.mc_cap.proofs.Meaning.{valid_means}
use Rattle.cap_codec.specs.Rows.{RawValue}
use Rattle.auth_entry.specs.Authorised.{namespace_refusal, mode_refusal, capability_refusal, grant_refusal, signature_refusal, claim_refusal, entry_refusal, row_refusal, IsAuthorised}
use Rattle.mc_cap.specs.declared.refusal.RowRefusal.TheVariants.{WrongNamespace, Chain, OutsideGrant, BadEntrySignature}

mode_writes : (mode : Mode) → mode_refusal mode ≡ None → mode ≡ Write
mode_writes Write e = refl
mode_writes Read e = absurd cc

pub no_chain : (o : Option ChainRefusal) → option_map Chain o ≡ None → o ≡ None
no_chain None e = refl
no_chain (Some refusal) e = absurd cc

module _ (rules : Rules) (n : List ℕ) (r : RawValue) where
  -- both namespaces are the given one
  abbrev both_same : Bool
  both_same = same_bytes r.entry.namespace n && same_bytes r.token.capability.namespace n

  -- the grant includes the entry
  abbrev inside : Bool
  inside = in_area (granted r.token.capability) r.entry.subspace r.entry.path r.entry.timestamp

  -- the receiver signed the entry
  abbrev signed : Bool
  signed = rules.user (receiver_of r.token.capability) (entry_message r.entry) r.token.signature

  authorised : row_refusal rules n r ≡ None → IsAuthorised rules n r
  unfolding row_refusal claim_refusal entry_refusal
  authorised e =
      let parts = or_else_both (or_else (namespace_refusal n r) (mode_refusal r.token.capability.mode)) (or_else (capability_refusal rules r.token.capability) (or_else (grant_refusal r.token.capability r.entry) (signature_refusal rules r))) e in
      let claim = or_else_both (namespace_refusal n r) (mode_refusal r.token.capability.mode) parts.0 in
      let later = or_else_both (capability_refusal rules r.token.capability) (or_else (grant_refusal r.token.capability r.entry) (signature_refusal rules r)) parts.1 in
      let last = or_else_both (grant_refusal r.token.capability r.entry) (signature_refusal rules r) later.1 in
      let names = and_parts (same_bytes r.entry.namespace n) (same_bytes r.token.capability.namespace n) ((unless_true both_same WrongNamespace).0 claim.0) in
      record {
        of_namespace = ((bytes_decides r.entry.namespace n).0 names.0, (bytes_decides r.token.capability.namespace n).0 names.1);
        writes = mode_writes r.token.capability.mode claim.1;
        valid = (valid_means rules r.token.capability).0 (no_chain (chain_refusal rules r.token.capability) later.0);
        within = (unless_true inside OutsideGrant).0 last.0;
        signed = (unless_true signed BadEntrySignature).0 last.1;
      }

  not_refused : IsAuthorised rules n r → row_refusal rules n r ≡ None
  unfolding row_refusal claim_refusal entry_refusal
  not_refused a =
      let names = and_from (same_bytes r.entry.namespace n) (same_bytes r.token.capability.namespace n) ((bytes_decides r.entry.namespace n).1 a.of_namespace.0) ((bytes_decides r.token.capability.namespace n).1 a.of_namespace.1) in
      let claim = neither (namespace_refusal n r) (mode_refusal r.token.capability.mode) ((unless_true both_same WrongNamespace).1 names) (ap mode_refusal a.writes) in
      let chain : capability_refusal rules r.token.capability ≡ None = ap (λ (o : Option ChainRefusal). option_map Chain o) ((valid_means rules r.token.capability).1 a.valid) in
      let last = neither (grant_refusal r.token.capability r.entry) (signature_refusal rules r) ((unless_true inside OutsideGrant).1 a.within) ((unless_true signed BadEntrySignature).1 a.signed) in
      neither (or_else (namespace_refusal n r) (mode_refusal r.token.capability.mode)) (or_else (capability_refusal rules r.token.capability) (or_else (grant_refusal r.token.capability r.entry) (signature_refusal rules r))) claim
      (neither (capability_refusal rules r.token.capability) (or_else (grant_refusal r.token.capability r.entry) (signature_refusal rules r)) chain last)

  pub authorised_means : (row_refusal rules n r ≡ None) ↔ IsAuthorised rules n r
  authorised_means = (authorised, not_refused)

-- an authorised row is of the namespace
pub own_namespace : (rules : Rules) (n : List ℕ) (r s : RawValue) → s ≡ r → row_refusal rules n r ≡ None → s.entry.namespace ≡ n
own_namespace rules n r s same none = ap (λ (x : RawValue). x.entry.namespace) same ∙ ((authorised_means rules n r).0 none).of_namespace.0

-- so it is authorised in that of its entry
pub authorised_in_own : (rules : Rules) (n : List ℕ) (r s : RawValue) → s ≡ r → row_refusal rules n r ≡ None → row_refusal rules s.entry.namespace s ≡ None
authorised_in_own rules n r s same none =
    let here : row_refusal rules n s ≡ None = subst (λ (x : RawValue). row_refusal rules n x ≡ None) (sym same) none in
    subst (λ (m : List ℕ). row_refusal rules m s ≡ None) (sym (own_namespace rules n r s same none)) here
