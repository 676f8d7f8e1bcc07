-- There is no cause to refuse a capability exactly where it is valid.
use Rattle.std.proofs.Common.{◌≡◌, ◌↔◌, ℕ, ◌+◌, ◌≤◌, Bool, true, false, not, cond, List, [], ◌∷◌, ◌++◌, length, Option, Some, None, IsTrue, IfSome, nat_lt, refl, sym, ap, ◌∙◌, arith}
use Rattle.std.proofs.lemmas.Bool.{ltb-false, lt-ltb, le-ltb, false≢true}
use Rattle.std.proofs.lemmas.List.{length-append}
use Rattle.spelling.specs.Answers.{or_else, cause_if, first_some}
use Rattle.spelling.proofs.Causes.{or_else_both}
use Rattle.scheme_core.specs.Rules.{Rules}
use Rattle.willow_area.specs.Area.{includes_area}
use Rattle.mc_cap.specs.Grant.{cut, extended, receiver_of, granted}
use Rattle.mc_cap.specs.Messages.{initial_message, handover}
use Rattle.mc_cap.specs.Valid.{IsHandedOn, IsValid, start_by, start_refusal, beginning_refusal, step_refusal, chain_refusal}
use Rattle.willow_area.specs.declared.area.Area.{Area}
use Rattle.mc_cap.specs.declared.chain.Delegation.{Delegation}
use Rattle.mc_cap.specs.declared.capability.Capability.{Capability}
use Rattle.mc_cap.specs.declared.check.TheConstants.{MAX_DELEGATIONS}
use Rattle.mc_cap.specs.declared.check.ChainRefusal.TheVariants.{NotCommunal, NotOwned, BadInitial, AreaGrows, BadSignature, TooManyDelegations}
use Rattle.mc_cap.proofs.Causes.{unless_true, if_false, neither, later, none_at, none_along}

module _ (rules : Rules) (c : Capability) where
  -- communal exactly where the namespace is, and begun by the namespace where it is owned
  abbrev Starts : Option (List ℕ) → Type 0
  Starts initial = ((initial ≡ None) ↔ IsTrue (rules.communal c.namespace)) × IfSome initial (λ signature. IsTrue (rules.owner c.namespace (initial_message c.mode c.user) signature))

  some_is_not_none : (signature : List ℕ) → Some signature ≡ None → ⊥
  some_is_not_none signature e = cc

  starts : (initial : Option (List ℕ)) → start_by rules c initial ≡ None → Starts initial
  starts None e = ((λ none. (unless_true (rules.communal c.namespace) NotCommunal).0 e, λ communal. refl), tt)
  starts (Some signature) e =
      let both = or_else_both (cause_if (rules.communal c.namespace) NotOwned) (cause_if (not (rules.owner c.namespace (initial_message c.mode c.user) signature)) BadInitial) e in
      let owned : rules.communal c.namespace ≡ false = (if_false (rules.communal c.namespace) NotOwned).0 both.0 in (
        (λ none. absurd (some_is_not_none signature none), λ communal. absurd (false≢true (sym owned ∙ communal))),
        (unless_true (rules.owner c.namespace (initial_message c.mode c.user) signature) BadInitial).0 both.1,
      )

  not_communal : (b : Bool) (signature : List ℕ) → (b ≡ true → Some signature ≡ None) → b ≡ false
  not_communal true signature h = absurd (some_is_not_none signature (h refl))
  not_communal false signature h = refl

  no_start : (initial : Option (List ℕ)) → Starts initial → start_by rules c initial ≡ None
  no_start None s = (unless_true (rules.communal c.namespace) NotCommunal).1 (s.0.0 refl)
  no_start (Some signature) s =
      neither (cause_if (rules.communal c.namespace) NotOwned) (cause_if (not (rules.owner c.namespace (initial_message c.mode c.user) signature)) BadInitial)
      ((if_false (rules.communal c.namespace) NotOwned).1 (not_communal (rules.communal c.namespace) signature s.0.1))
      ((unless_true (rules.owner c.namespace (initial_message c.mode c.user) signature) BadInitial).1 s.1)

  handed_on : (k : ℕ) (d : Delegation) → step_refusal rules c k d ≡ None → IsHandedOn rules (cut c k) d
  unfolding step_refusal
  handed_on k d e =
      let both = or_else_both (cause_if (not (includes_area (granted (cut c k)) d.area)) (AreaGrows (k + 1))) (cause_if (not (rules.user (receiver_of (cut c k)) (handover (cut c k) d.area d.user) d.signature)) (BadSignature (k + 1))) e in
      record {
        inside = (unless_true (includes_area (granted (cut c k)) d.area) (AreaGrows (k + 1))).0 both.0;
        signed = (unless_true (rules.user (receiver_of (cut c k)) (handover (cut c k) d.area d.user) d.signature) (BadSignature (k + 1))).0 both.1;
      }

  no_step : (k : ℕ) (d : Delegation) → IsHandedOn rules (cut c k) d → step_refusal rules c k d ≡ None
  unfolding step_refusal
  no_step k d h =
      neither (cause_if (not (includes_area (granted (cut c k)) d.area)) (AreaGrows (k + 1))) (cause_if (not (rules.user (receiver_of (cut c k)) (handover (cut c k) d.area d.user) d.signature)) (BadSignature (k + 1)))
      ((unless_true (includes_area (granted (cut c k)) d.area) (AreaGrows (k + 1))).1 h.inside)
      ((unless_true (rules.user (receiver_of (cut c k)) (handover (cut c k) d.area d.user) d.signature) (BadSignature (k + 1))).1 h.signed)

  parts : chain_refusal rules c ≡ None → (length c.chain ≤ MAX_DELEGATIONS) × (start_by rules c c.initial ≡ None) × (first_some (step_refusal rules c) 0 c.chain ≡ None)
  unfolding chain_refusal start_refusal
  parts e =
      let few = later (nat_lt MAX_DELEGATIONS (length c.chain)) TooManyDelegations (or_else (start_by rules c c.initial) (first_some (step_refusal rules c) 0 c.chain)) e in
      let both = or_else_both (start_by rules c c.initial) (first_some (step_refusal rules c) 0 c.chain) few.1 in
      (ltb-false MAX_DELEGATIONS (length c.chain) few.0, both.0, both.1)

  pub few_where_valid : chain_refusal rules c ≡ None → length c.chain ≤ MAX_DELEGATIONS
  few_where_valid e = (parts e).0

  -- a valid capability begins well
  pub begins_where_valid : chain_refusal rules c ≡ None → beginning_refusal rules c ≡ None
  unfolding beginning_refusal start_refusal
  begins_where_valid e = let p = parts e in ap (λ (b : Bool). cond b (Some TooManyDelegations) (start_by rules c c.initial)) (le-ltb MAX_DELEGATIONS (length c.chain) p.0) ∙ p.1

  valid : chain_refusal rules c ≡ None → IsValid rules c
  valid e =
      let p = parts e in
      let s = starts c.initial p.1 in
      record { few = p.0; suits = s.0; begun = s.1; handed_on = λ k d is. handed_on k d (none_at (step_refusal rules c) c.chain k d p.2 is) }

  no_refusal : IsValid rules c → chain_refusal rules c ≡ None
  unfolding chain_refusal start_refusal
  no_refusal v =
      ap (λ (b : Bool). cond b (Some TooManyDelegations) (or_else (start_by rules c c.initial) (first_some (step_refusal rules c) 0 c.chain))) (le-ltb MAX_DELEGATIONS (length c.chain) v.few)
      ∙ neither (start_by rules c c.initial) (first_some (step_refusal rules c) 0 c.chain) (no_start c.initial (v.suits, v.begun)) (none_along (step_refusal rules c) c.chain (λ k d is. no_step k d (v.handed_on k d is)))

  pub valid_means : (chain_refusal rules c ≡ None) ↔ IsValid rules c
  valid_means = (valid, no_refusal)

-- one delegation more than a valid capability may have
pub too_many : (rules : Rules) (c : Capability) (area : Area) (user signature : List ℕ) → MAX_DELEGATIONS ≤ length c.chain → chain_refusal rules (extended c area user signature) ≡ Some TooManyDelegations
unfolding chain_refusal
too_many rules c area user signature full =
    let d : Delegation = record { area = area; user = user; signature = signature } in
    rw (lt-ltb MAX_DELEGATIONS (length (c.chain ++ d ∷ [])) (omega (arith, full, length-append c.chain (d ∷ [])))) refl
