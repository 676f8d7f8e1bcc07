-- What areas include, and which of them include what dominates their rows.
use Rattle.std.specs.Prelude.{◌≡◌, Bool, [], None}
use Rattle.willow_area.specs.Area.{in_area}
use Rattle.willow_area.specs.declared.area.Area.{Area}
use Rattle.willow_entry.specs.Row.{RowValue}

-- the area includes the row's subspace, path and time
abbrev pub has_row : Area → RowValue → Bool
has_row area r = in_area area r.entry.subspace r.entry.path r.entry.timestamp

-- the area has all paths, and its times have no end
pub record IsOpenEnded (area : Area) : Type 0 where
  pub path : area.path ≡ []
  pub times : area.times.end ≡ None
