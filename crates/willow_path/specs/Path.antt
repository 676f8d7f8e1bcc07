-- Paths: lists of components, each a list of bytes.
use Rattle.std.specs.Prelude.{◌≡◌, ℕ, ◌+◌, ◌≤◌, Bool, true, false, ◌&&◌, List, [], ◌∷◌, ◌++◌, length, nat_eq}
use Rattle.std.specs.List.{AllByRecursion}
use Rattle.std.specs.Cmp.Lexicographic.{slice_cmp, pointwise}
use Rattle.std.specs.Ordering.{nat_cmp}
use Rattle.std.specs.declared.cmp.Ordering.{Ordering}
use Rattle.spelling.specs.Form.{AreBytes}
use Rattle.willow_path.specs.declared.limits.TheConstants.{MAX_PART, MAX_PARTS, MAX_TOTAL}

-- the number of bytes of all components
abbrev pub total : List (List ℕ) → ℕ
total [] = 0
total (part ∷ parts) = length part + total parts

-- the first path's components begin the second's
unfoldable pub is_prefix : List (List ℕ) → List (List ℕ) → Bool
is_prefix [] longer = true
is_prefix (part ∷ parts) [] = false
is_prefix (part ∷ parts) (first ∷ rest) = pointwise nat_eq part first && is_prefix parts rest

-- the longer path is the first followed by further components, or by none
abbrev pub IsPrefix : List (List ℕ) → List (List ℕ) → Type 0
IsPrefix path longer = (rest : List (List ℕ)) × (longer ≡ path ++ rest)

-- the order of components, as byte strings
abbrev pub part_cmp : List ℕ → List ℕ → Ordering
part_cmp = slice_cmp nat_cmp

-- A path is below its extensions; else the first components that differ decide, as byte strings.
abbrev pub path_cmp : List (List ℕ) → List (List ℕ) → Ordering
path_cmp = slice_cmp part_cmp

-- bytes, no more than a component has
abbrev pub IsPart : List ℕ → Type 0
IsPart part = (length part ≤ MAX_PART) × AreBytes part

-- within the limits of a path
pub record IsPath (path : List (List ℕ)) : Type 0 where
  pub few : length path ≤ MAX_PARTS
  pub parts_fit : AllByRecursion IsPart path
  pub short : total path ≤ MAX_TOTAL
