-- Who has a capability, and for which area.
use Rattle.std.specs.Prelude.{ℕ, ◌-◌, List, [], ◌∷◌, ◌++◌, length, take, Option, Some, None, slice_get}
use Rattle.willow_area.specs.declared.area.Area.{Area}
use Rattle.mc_cap.specs.declared.chain.Delegation.{Delegation}
use Rattle.mc_cap.specs.declared.capability.Capability.{Capability}

-- the capability with its first k delegations
abbrev pub cut : Capability → ℕ → Capability
cut c k = record c { chain = take k c.chain }

-- the capability with one delegation more
abbrev pub extended : Capability → Area → List ℕ → List ℕ → Capability
extended c area user signature = record c { chain = c.chain ++ record { area = area; user = user; signature = signature } ∷ [] }

-- the last delegation, where there is one
abbrev pub last_of : List Delegation → Option Delegation
last_of chain = slice_get chain (length chain - 1)

-- the user of a delegation, or else another
abbrev pub user_or : List ℕ → Option Delegation → List ℕ
user_or user None = user
user_or user (Some d) = d.user

-- the user of the last delegation, or the first user
abbrev pub receiver_of : Capability → List ℕ
receiver_of c = user_or c.user (last_of c.chain)

-- the subspaces that are granted first: the user's own, or all with an initial signature
abbrev pub first_subspace : List ℕ → Option (List ℕ) → Option (List ℕ)
first_subspace user None = Some user
first_subspace user (Some signature) = None

-- the whole subspace of the user of a communal capability, or everything for an owned one
abbrev pub first_grant : Capability → Area
first_grant c = record { subspace = first_subspace c.user c.initial; path = []; times = record { start = 0; end = None } }

-- the area of a delegation, or else another
abbrev pub area_or : Area → Option Delegation → Area
area_or area None = area
area_or area (Some d) = d.area

-- the area of the last delegation, or what is granted first
abbrev pub granted : Capability → Area
granted c = area_or (first_grant c) (last_of c.chain)
