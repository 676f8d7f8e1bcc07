-- A capability with too many delegations.
use Rattle.std.proofs.Common.{◌≡◌, ℕ, ◌≤◌, true, nat_lt, List, [], ◌∷◌, ◌++◌, length, Some, refl, arith}
use Rattle.std.proofs.lemmas.List.{length-append}
use Rattle.std.proofs.lemmas.Bool.Decides.{nat_tests}
use Rattle.scheme_core.specs.Rules.{Rules}
use Rattle.willow_area.specs.declared.area.Area.{Area}
use Rattle.mc_cap.specs.Grant.{extended}
use Rattle.mc_cap.specs.Valid.{chain_refusal}
use Rattle.mc_cap.specs.declared.capability.Capability.{Capability}
use Rattle.mc_cap.specs.declared.chain.Delegation.{Delegation}
use Rattle.mc_cap.specs.declared.check.TheConstants.{MAX_DELEGATIONS}
use Rattle.mc_cap.specs.declared.check.ChainRefusal.TheVariants.{TooManyDelegations}

-- a chain of as many as may be is too long with one more
pub too_many : (rules : Rules) (c : Capability) (area : Area) (user signature : List ℕ) → MAX_DELEGATIONS ≤ length c.chain → chain_refusal rules (extended c area user signature) ≡ Some TooManyDelegations
unfolding chain_refusal
too_many rules c area user signature many =
    let d : Delegation = record { area = area; user = user; signature = signature } in
    let long = length-append c.chain (d ∷ []) in
    let past : nat_lt MAX_DELEGATIONS (length (c.chain ++ d ∷ [])) ≡ true = grind (arith, nat_tests) in
    rw past refl
