-- The first refusal of a capability with one delegation more, whose area is not within what was granted.
use Rattle.std.proofs.Common.{◌≡◌, ℕ, ◌+◌, ◌≤◌, ◌<◌, Bool, true, false, not, cond, nat_lt, List, [], ◌∷◌, length, Option, Some, None, unwrap_or, refl, sym, ap, ◌∙◌, arith}
use Rattle.std.proofs.lemmas.List.{length-append, take-append-le, take_all}
use Rattle.std.proofs.lemmas.Bool.{ltb-false, le-ltb}
use Rattle.spelling.specs.Answers.{or_else, cause_if, first_some}
use Rattle.spelling.proofs.Causes.{first_some-push, first_some-cons, first_some-nil}
use Rattle.scheme_core.specs.Rules.{Rules}
use Rattle.willow_area.specs.Area.{includes_area}
use Rattle.willow_area.specs.declared.area.Area.{Area}
use Rattle.mc_cap.specs.Grant.{cut, extended, granted, receiver_of}
use Rattle.mc_cap.specs.Messages.{handover}
use Rattle.mc_cap.specs.Valid.{chain_refusal, start_refusal, start_by, step_refusal, handing_refusal}
use Rattle.mc_cap.specs.declared.capability.Capability.{Capability}
use Rattle.mc_cap.specs.declared.chain.Delegation.{Delegation}
use Rattle.mc_cap.specs.declared.check.TheConstants.{MAX_DELEGATIONS}
use Rattle.mc_cap.specs.declared.check.ChainRefusal.{ChainRefusal}
use Rattle.mc_cap.specs.declared.check.ChainRefusal.TheVariants.{AreaGrows, TooManyDelegations}
use Rattle.peer_make.specs.Delegating.{growing_refusal}

-- causes that agree at each place of a list have the same first one
same_first : {X E : Type 0} (f g : ℕ → X → Option E) (k : ℕ) (xs : List X) → ((i : ℕ) (x : X) → i < k + length xs → f i x ≡ g i x) → first_some f k xs ≡ first_some g k xs
same_first f g k [] same = first_some-nil f k ∙ sym (first_some-nil g k)
same_first f g k (x ∷ xs) same =
    first_some-cons f k x xs
    ∙ ap (λ o. or_else o (first_some f (k + 1) xs)) (same k x (omega arith))
    ∙ ap (λ o. or_else (g k x) o) (same_first f g (k + 1) xs (λ i y lt. same i y (omega arith)))
    ∙ sym (first_some-cons g k x xs)

-- a first cause that there is, behind two that there may be
found_last : {E : Type 0} (a b : Option E) (e : E) → or_else a (or_else b (Some e)) ≡ Some (unwrap_or (or_else a b) e)
found_last (Some x) b e = refl
found_last None (Some x) e = refl
found_last None None e = refl

grows : {E : Type 0} (inside : Bool) (grown : E) (rest : Option E) → inside ≡ false → or_else (cause_if (not inside) grown) rest ≡ Some grown
grows true grown rest e = absurd cc
grows false grown rest e = refl

module _ (rules : Rules) (c : Capability) (area : Area) (user signature : List ℕ) where
  abbrev one_more : Delegation
  one_more = record { area = area; user = user; signature = signature }

  abbrev longer : Capability
  longer = extended c area user signature

  abbrev growing : ChainRefusal
  growing = AreaGrows (length c.chain + 1)

  cut_same : (k : ℕ) → k ≤ length c.chain → cut longer k ≡ cut c k
  cut_same k le = ap (λ (chain : List Delegation). record c { chain = chain }) (take-append-le k c.chain (one_more ∷ []) le)

  cut_whole : cut longer (length c.chain) ≡ c
  cut_whole = cut_same (length c.chain) (omega arith) ∙ ap (λ (chain : List Delegation). record c { chain = chain }) (take_all (length c.chain) c.chain (omega arith))

  step_same : (k : ℕ) (d : Delegation) → k < length c.chain → step_refusal rules longer k d ≡ step_refusal rules c k d
  unfolding step_refusal
  step_same k d lt =
      ap (λ (x : Capability). handing_refusal rules (granted x) (receiver_of x) (handover x d.area d.user) (k + 1) d) (cut_same k (omega arith))

  last_step : includes_area (granted c) area ≡ false → step_refusal rules longer (length c.chain) one_more ≡ Some growing
  unfolding step_refusal
  last_step outside =
      ap (λ (x : Capability). handing_refusal rules (granted x) (receiver_of x) (handover x area user) (length c.chain + 1) one_more) cut_whole
      ∙ grows (includes_area (granted c) area) growing _ outside

  start_like : (initial : Option (List ℕ)) → start_by rules longer initial ≡ start_by rules c initial
  start_like None = refl
  start_like (Some s) = refl

  start_same : start_refusal rules longer ≡ start_refusal rules c
  unfolding start_refusal
  start_same = start_like c.initial

  steps : includes_area (granted c) area ≡ false → first_some (step_refusal rules longer) 0 longer.chain ≡ or_else (first_some (step_refusal rules c) 0 c.chain) (Some growing)
  steps outside =
      let at_end : 0 + length c.chain ≡ length c.chain = omega arith in
      first_some-push (step_refusal rules longer) 0 c.chain one_more
      ∙ ap (λ (o : Option ChainRefusal). or_else o (step_refusal rules longer (0 + length c.chain) one_more))
      (same_first (step_refusal rules longer) (step_refusal rules c) 0 c.chain (λ i d lt. step_same i d (omega arith)))
      ∙ ap (λ (o : Option ChainRefusal). or_else (first_some (step_refusal rules c) 0 c.chain) o)
      (ap (λ (n : ℕ). step_refusal rules longer n one_more) at_end ∙ last_step outside)

  -- what is against a capability of no more delegations than a capability may have
  few : nat_lt MAX_DELEGATIONS (length c.chain + 1) ≡ false → chain_refusal rules c ≡ or_else (start_refusal rules c) (first_some (step_refusal rules c) 0 c.chain)
  unfolding chain_refusal
  few e =
      let within : length c.chain ≤ MAX_DELEGATIONS = omega (arith, ltb-false MAX_DELEGATIONS (length c.chain + 1) e) in
      ap (λ (b : Bool). cond b (Some TooManyDelegations) (or_else (start_refusal rules c) (first_some (step_refusal rules c) 0 c.chain))) (le-ltb MAX_DELEGATIONS (length c.chain) within)

  by_length : (b : Bool) → nat_lt MAX_DELEGATIONS (length c.chain + 1) ≡ b → includes_area (granted c) area ≡ false
      → cond b (Some TooManyDelegations) (or_else (start_refusal rules longer) (first_some (step_refusal rules longer) 0 longer.chain))
      ≡ Some (cond b TooManyDelegations (unwrap_or (chain_refusal rules c) growing))
  by_length true e outside = refl
  by_length false e outside =
      ap (λ (o : Option ChainRefusal). or_else o (first_some (step_refusal rules longer) 0 longer.chain)) start_same
      ∙ ap (λ (o : Option ChainRefusal). or_else (start_refusal rules c) o) (steps outside)
      ∙ found_last (start_refusal rules c) (first_some (step_refusal rules c) 0 c.chain) growing
      ∙ ap (λ (o : Option ChainRefusal). Some (unwrap_or o growing)) (sym (few e))

  pub refused_as_growing : includes_area (granted c) area ≡ false → chain_refusal rules longer ≡ Some (growing_refusal rules c)
  unfolding chain_refusal growing_refusal
  refused_as_growing outside =
      ap (λ (n : ℕ). cond (nat_lt MAX_DELEGATIONS n) (Some TooManyDelegations) (or_else (start_refusal rules longer) (first_some (step_refusal rules longer) 0 longer.chain)))
      (length-append c.chain (one_more ∷ []))
      ∙ by_length (nat_lt MAX_DELEGATIONS (length c.chain + 1)) refl outside
