-- What those hear who watch a log: one note for each row that they and the hub ask for.
use Rattle.std.specs.Prelude.{◌≡◌, ℕ, ◌+◌, ◌-◌, ◌<◌, ◌≤◌, Bool, true, ◌&&◌, List, [], ◌∷◌, ◌++◌, map, take, drop, Some, slice_get, if◌then◌else◌}
use Rattle.willow_entry.specs.declared.entry.Entry.{Entry}
use Rattle.willow_entry.specs.declared.row.LogRow.{LogRow}
use Rattle.willow_entry.specs.Row.{RowValue}
use Rattle.willow_area.specs.Area.{in_area}
use Rattle.willow_area.specs.declared.area.Area.{Area}

-- where a row stands in the log, and its entry
pub record Note : Type 0 where
  pub at : ℕ
  pub entry : Entry

-- both areas include the entry: that of the watcher, and that of the hub
unfoldable pub in_both : Area → Area → Entry → Bool
in_both own served e = in_area own e.subspace e.path e.timestamp && in_area served e.subspace e.path e.timestamp

-- the note of an entry at this position, where both areas include it, else none
abbrev pub note_of : Area → Area → ℕ → Entry → List Note
note_of own served at e = if in_both own served e then record { at = at; entry = e } ∷ [] else []

-- the notes of these rows, of which the first stands at this position
abbrev pub notes_from : Area → Area → ℕ → List RowValue → List Note
notes_from own served at [] = []
notes_from own served at (r ∷ rows) = note_of own served at r.entry ++ notes_from own served (at + 1) rows

-- the rows of a log at the positions from one up to but not including another
abbrev pub rows_between : List RowValue → ℕ → ℕ → List RowValue
rows_between log from to = take (to - from) (drop from log)

-- the notes of a log, from one position up to but not including another
abbrev pub heard : List RowValue → Area → Area → ℕ → ℕ → List Note
heard log own served from to = notes_from own served from (rows_between log from to)

-- what contracts see of the rows of a slice of a log
abbrev pub slice_rows : {R : Type 0} → (R → RowValue) → List (LogRow R) → List RowValue
slice_rows value slice = map (λ l. value l.row) slice

-- ---- what this means

-- The note tells of a row of the log: it stands at the note's position, which is one of these, has the note's entry, and both
-- areas include that.
pub record IsHeardOf (log : List RowValue) (own served : Area) (from to : ℕ) (note : Note) : Type 0 where
  pub not_before : from ≤ note.at
  pub below : note.at < to
  pub row : RowValue
  pub stands : slice_get log note.at ≡ Some row
  pub entry : row.entry ≡ note.entry
  pub included : in_both own served note.entry ≡ true
