-- What a hello that passes asks for, its capability grants.
use Rattle.std.proofs.Common.{ℕ, ◌-◌, List, [], ◌∷◌, length, zero, suc, Option, Some, None, slice_get, arith}
use Rattle.std.specs.Prelude.{IfSome}
use Rattle.std.specs.List.{AllByRecursion}
use Rattle.willow_path.specs.Key.{IsKey}
use Rattle.willow_area.specs.Area.{IsArea}
use Rattle.willow_area.specs.declared.area.Area.{Area}
use Rattle.willow_area.proofs.Including.{includes_area-means}
use Rattle.willow_area.proofs.Meeting.{meet_area-some}
use Rattle.mc_cap.specs.Forms.{IsCapability, IsDelegation}
use Rattle.mc_cap.specs.Grant.{area_or, first_grant, first_subspace, granted, last_of}
use Rattle.mc_cap.specs.declared.capability.Capability.{Capability}
use Rattle.mc_cap.specs.declared.chain.Delegation.{Delegation}
use Rattle.sync_hello.specs.Common.{common_area, AsksWithinGrant, BothGrantCommon}
use Rattle.sync_hello.proofs.Meaning.{passes}

-- ---- what is granted is an area

-- an element that there is has what all have
found_has : {X : Type 0} (P : X → Type 0) (xs : List X) (i : ℕ) → AllByRecursion P xs → IfSome (slice_get xs i) P
found_has P [] i all = tt
found_has P (x ∷ xs) zero all = all.0
found_has P (x ∷ xs) (suc i) all = found_has P xs i all.1

first_fits : (initial : Option (List ℕ)) (user : List ℕ) → IsKey user → IfSome (first_subspace user initial) IsKey
first_fits None user key = key
first_fits (Some signature) user key = tt

area_fits : (first : Area) (last : Option Delegation) → IsArea first → IfSome last IsDelegation → IsArea (area_or first last)
area_fits first None fits all = fits
area_fits first (Some d) fits all = all.area_fits

granted_fits : (c : Capability) → IsCapability c → IsArea (granted c)
granted_fits c f =
    area_fits (first_grant c) (last_of c.chain)
    (record { subspace_fits = first_fits c.initial c.user f.user_fits; path_fits = record { few = omega arith; parts_fit = tt; short = omega arith }; times_fit = record { starts = omega arith; ends = tt } })
    (found_has IsDelegation c.chain (length c.chain - 1) f.chain_fits.1)

-- ---- the ask, and what two asks have in common

pub asks_within : AsksWithinGrant
asks_within rules n h fits none =
    (includes_area-means (granted h.capability) h.ask (granted_fits h.capability fits.capability_fits) fits.ask_fits).0 (passes rules n h none).within

pub common_within : BothGrantCommon
unfolding common_area
common_within rules n one other area one_fits other_fits one_none other_none is = (
  λ subspace path time triple inside. asks_within rules n one one_fits one_none subspace path time triple ((meet_area-some one.ask other.ask area is subspace path time).0 inside).0,
  λ subspace path time triple inside. asks_within rules n other other_fits other_none subspace path time triple ((meet_area-some one.ask other.ask area is subspace path time).0 inside).1,
)
