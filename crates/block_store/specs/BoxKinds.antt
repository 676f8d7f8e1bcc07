-- Kinds of boxes, and of lists of rows.
use Rattle.std.specs.Prelude.{◌≡◌, ◌⊎◌, ℕ, List, [], None, slice_index_or}
use Rattle.std.specs.List.{All}
use Rattle.willow_path.specs.Successor.{key_after}
use Rattle.willow_area.specs.Boxes.{Ranges}
use Rattle.willow_entry.specs.Row.{RowValue}

-- no time is outside the box
abbrev pub HasAllTimes : Ranges → Type 0
HasAllTimes area = (area.times.start ≡ 0) × (area.times.end ≡ None)

-- no path is outside the box
abbrev pub HasAllPaths : Ranges → Type 0
HasAllPaths area = (area.paths.start ≡ []) × (area.paths.end ≡ None)

-- the box's keys end right behind the first, so that no other is in it
abbrev pub HasOneSubspace : Ranges → Type 0
HasOneSubspace area = area.keys.end ≡ key_after area.keys.start

-- The rows of such a box stand in one run: it has all times, and one subspace or all paths.
abbrev pub IsOneRun : Ranges → Type 0
IsOneRun area = HasAllTimes area × (HasOneSubspace area ⊎ HasAllPaths area)

-- the rows stand in one namespace
abbrev pub IsOfOneNamespace : List RowValue → Type 0
IsOfOneNamespace rows = (namespace : List ℕ) × All (λ row. row.entry.namespace ≡ namespace) rows

-- the namespace of the row at the position
abbrev pub namespace_at : List RowValue → ℕ → RowValue → List ℕ
namespace_at rows i d = (slice_index_or rows i d).entry.namespace
