-- What an area includes, when it includes another, and what two have in common: tests of fields.
use Rattle.std.specs.Prelude.{ℕ, ◌<◌, ◌^◌, Bool, true, false, ◌&&◌, List, Option, Some, None, IfSome, nat_eq, if◌then◌else◌}
use Rattle.std.specs.Cmp.Lexicographic.{pointwise}
use Rattle.willow_path.specs.Key.{IsKey}
use Rattle.willow_path.specs.Path.{IsPath, is_prefix}
use Rattle.willow_area.specs.Times.{Times, in_times, IsTimes, includes_times, meet_times}
use Rattle.willow_area.specs.declared.area.Area.{Area}

-- any subspace, or just this one
abbrev pub fits_subspace : Option (List ℕ) → List ℕ → Bool
fits_subspace None subspace = true
fits_subspace (Some key) subspace = pointwise nat_eq key subspace

-- The area includes the triple: its subspace is any or equal, its path is a prefix of the path, and its
-- times include the time.
unfoldable pub in_area : Area → List ℕ → List (List ℕ) → ℕ → Bool
in_area area subspace path time = fits_subspace area.subspace subspace && (is_prefix area.path path && in_times area.times time)

-- each subspace of the second is one of the first
abbrev pub includes_subspace : Option (List ℕ) → Option (List ℕ) → Bool
includes_subspace None other = true
includes_subspace (Some key) None = false
includes_subspace (Some key) (Some other) = pointwise nat_eq key other

-- the first area includes the second, field by field
unfoldable pub includes_area : Area → Area → Bool
includes_area area other = includes_subspace area.subspace other.subspace && (is_prefix area.path other.path && includes_times area.times other.times)

-- the subspaces that both have
abbrev pub meet_subspace : Option (List ℕ) → Option (List ℕ) → Option (Option (List ℕ))
meet_subspace None other = Some other
meet_subspace (Some key) None = Some (Some key)
meet_subspace (Some key) (Some other) = if pointwise nat_eq key other then Some (Some key) else None

-- the longer of two paths of which one is a prefix of the other
abbrev pub meet_path : List (List ℕ) → List (List ℕ) → Option (List (List ℕ))
meet_path path other = if is_prefix path other then Some other else if is_prefix other path then Some path else None

-- an area of these fields, where there is each
abbrev pub area_of : Option (Option (List ℕ)) → Option (List (List ℕ)) → Option Times → Option Area
area_of (Some subspace) (Some path) (Some times) = Some (record { subspace = subspace; path = path; times = times })
area_of (Some subspace) (Some path) None = None
area_of (Some subspace) None times = None
area_of None path times = None

-- what both areas have in common, field by field
unfoldable pub meet_area : Area → Area → Option Area
meet_area area other = area_of (meet_subspace area.subspace other.subspace) (meet_path area.path other.path) (meet_times area.times other.times)

-- the fields are a key, a path and a range of times within their limits
pub record IsArea (area : Area) : Type 0 where
  pub subspace_fits : IfSome area.subspace IsKey
  pub path_fits : IsPath area.path
  pub times_fit : IsTimes area.times

-- a key, a path and a time of 64 bits
pub record IsTriple (subspace : List ℕ) (path : List (List ℕ)) (time : ℕ) : Type 0 where
  pub key : IsKey subspace
  pub path_fits : IsPath path
  pub time_fits : time < 2 ^ 64
