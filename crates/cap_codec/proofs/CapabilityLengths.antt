-- How long the spelling of a capability can be, and that of a signature.
use Rattle.std.proofs.Common.{ℕ, ◌+◌, ◌*◌, ◌≤◌, List, [], ◌∷◌, ◌++◌, length, Option, Some, None, arith}
use Rattle.std.specs.Prelude.{IfSome}
use Rattle.std.specs.List.{flat_map, AllByRecursion}
use Rattle.std.specs.Int.{w64, to_be_bytes}
use Rattle.std.proofs.lemmas.List.{length-append}
use Rattle.spelling.specs.Spelling.{option_spelling}
use Rattle.scheme_core.specs.declared.signer.TheConstants.{MAX_SIGNATURE}
use Rattle.willow_path.specs.declared.limits.TheConstants.{MAX_PARTS, MAX_TOTAL}
use Rattle.willow_path.specs.Key.{IsKey}
use Rattle.willow_path.specs.PathSpelling.{path_spelling}
use Rattle.willow_area.specs.TimesSpelling.{times_spelling}
use Rattle.willow_area.specs.Area.{IsArea}
use Rattle.willow_area.specs.AreaSpelling.{area_spelling}
use Rattle.willow_area.specs.declared.area.Area.{Area}
use Rattle.willow_entry.proofs.SpelledLength.{path_long}
use Rattle.mc_cap.specs.Signature.{IsSignature, signature_spelling}
use Rattle.mc_cap.specs.Forms.{delegation_spelling, IsDelegation, chain_spelling, initial_spelling, capability_spelling, IsCapability}
use Rattle.mc_cap.specs.declared.chain.Delegation.{Delegation}
use Rattle.mc_cap.specs.declared.check.TheConstants.{MAX_DELEGATIONS}
use Rattle.mc_cap.specs.declared.capability.Capability.{Capability}

-- ---- the most bytes of each part

abbrev pub most_of_path : ℕ
most_of_path = 1 + MAX_PARTS + MAX_TOTAL

abbrev pub most_of_signature : ℕ
most_of_signature = 2 + MAX_SIGNATURE

abbrev pub most_of_area : ℕ
most_of_area = 34 + most_of_path + 8 + 9

abbrev pub most_of_delegation : ℕ
most_of_delegation = most_of_area + 33 + most_of_signature

abbrev pub most_of_capability : ℕ
most_of_capability = 1 + 33 + 33 + most_of_signature + 1 + most_of_delegation * MAX_DELEGATIONS

-- no signature's spelling has more bytes
pub signature_within : (signature : List ℕ) → IsSignature signature → length (signature_spelling signature) ≤ most_of_signature
signature_within signature fits = omega (arith, fits.0)

subspace_long : (o : Option (List ℕ)) → IfSome o IsKey → length (option_spelling (λ key. key) o) ≤ 34
subspace_long None fits = omega arith
subspace_long (Some key) fits = omega (arith, fits.whole)

end_long : (o : Option ℕ) → length (option_spelling (to_be_bytes w64) o) ≤ 9
end_long None = omega arith
end_long (Some end) = omega arith

area_long : (a : Area) → IsArea a → length (area_spelling a) ≤ most_of_area
area_long a fits =
    omega (
      arith,
      length-append (option_spelling (λ key. key) a.subspace) (path_spelling a.path ++ times_spelling a.times),
      length-append (path_spelling a.path) (times_spelling a.times),
      length-append (to_be_bytes w64 a.times.start) (option_spelling (to_be_bytes w64) a.times.end),
      subspace_long a.subspace fits.subspace_fits,
      path_long a.path fits.path_fits,
      end_long a.times.end,
    )

delegation_long : (d : Delegation) → IsDelegation d → length (delegation_spelling d) ≤ most_of_delegation
delegation_long d fits =
    omega (
      arith,
      length-append (area_spelling d.area) (d.user ++ signature_spelling d.signature),
      length-append d.user (signature_spelling d.signature),
      area_long d.area fits.area_fits,
      fits.user_fits.whole,
      signature_within d.signature fits.signature_fits,
    )

delegations_long : (chain : List Delegation) → AllByRecursion IsDelegation chain → length (flat_map delegation_spelling chain) ≤ most_of_delegation * length chain
delegations_long [] fit = omega arith
delegations_long (d ∷ chain) fit = omega (arith, length-append (delegation_spelling d) (flat_map delegation_spelling chain), delegation_long d fit.0, delegations_long chain fit.1)

initial_long : (o : Option (List ℕ)) → IfSome o IsSignature → length (initial_spelling o) ≤ most_of_signature
initial_long None fits = omega arith
initial_long (Some signature) fits = signature_within signature fits

-- nor has a capability's, of as many delegations as are accepted
pub capability_within : (c : Capability) → IsCapability c → length c.chain ≤ MAX_DELEGATIONS → length (capability_spelling c) ≤ most_of_capability
unfolding capability_spelling
capability_within c fits few =
    omega (
      arith,
      length-append c.namespace (c.user ++ (initial_spelling c.initial ++ chain_spelling c.chain)),
      length-append c.user (initial_spelling c.initial ++ chain_spelling c.chain),
      length-append (initial_spelling c.initial) (chain_spelling c.chain),
      fits.namespace_fits.whole,
      fits.user_fits.whole,
      initial_long c.initial fits.initial_fits,
      delegations_long c.chain fits.chain_fits.1,
      few,
    )
