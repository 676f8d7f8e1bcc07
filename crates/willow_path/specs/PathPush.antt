-- What `push` answers.
use Rattle.std.specs.Prelude.{ℕ, ◌+◌, ◌<◌, ◌≤◌, List, length, Option, Some, None, nat_lt, nat_le, if◌then◌else◌}
use Rattle.willow_path.specs.Path.{total}
use Rattle.willow_path.specs.declared.limits.TheConstants.{MAX_PART, MAX_PARTS, MAX_TOTAL}
use Rattle.willow_path.specs.declared.path.PathRefusal.{PathRefusal}
use Rattle.willow_path.specs.declared.path.PathRefusal.TheVariants.{ComponentTooLong, TooManyComponents, PathTooLong}

-- why the component cannot stand behind the path: the first limit of the three that it would pass
unfoldable pub push_refusal : List (List ℕ) → List ℕ → Option PathRefusal
push_refusal path part =
    if nat_lt MAX_PART (length part) then Some (ComponentTooLong (length part)) else
    if nat_le MAX_PARTS (length path) then Some TooManyComponents else
    if nat_lt MAX_TOTAL (total path + length part) then Some (PathTooLong (total path + length part)) else None

-- there is room for the component behind the path
pub record HasRoom (path : List (List ℕ)) (part : List ℕ) : Type 0 where
  pub short : length part ≤ MAX_PART
  pub few : length path < MAX_PARTS
  pub within : total path + length part ≤ MAX_TOTAL
