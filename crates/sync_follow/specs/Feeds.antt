-- Feeds: the rows that came into a log since a session began, for the one at the other end of it.
use Rattle.std.specs.Prelude.{ℕ, ◌-◌, ◌==◌, Bool, not, ◌&&◌, List, ◌∷◌, ◌++◌, length, map, filter, take, drop}
use Rattle.std.specs.List.{flat_map}
use Rattle.std.specs.Int.{w32, to_be_bytes}
use Rattle.willow_area.specs.Area.{in_area}
use Rattle.willow_area.specs.declared.area.Area.{Area}
use Rattle.willow_entry.specs.Frame.{row_frame}
use Rattle.willow_entry.specs.Row.{RowValue}
use Rattle.willow_entry.specs.LogRow.{LogValue}

-- the area includes the entry of the row
abbrev pub has_entry : Area → RowValue → Bool
has_entry area r = in_area area r.entry.subspace r.entry.path r.entry.timestamp

-- so it is with the entry of a row of a log, which another pass offered
abbrev pub is_fed : Area → ℕ → LogValue → Bool
is_fed area own l = has_entry area l.row && not (l.pass == own)

-- those rows of some of a log
abbrev pub fed_of : Area → ℕ → List LogValue → List RowValue
fed_of area own rows = map (λ (l : LogValue). l.row) (filter (is_fed area own) rows)

-- the rows of a log from one position up to but not including another that the area includes and that are not of the own
-- pass, in the order of the log
abbrev pub fed : List LogValue → Area → ℕ → ℕ → ℕ → List RowValue
fed log area own from to = fed_of area own (take (to - from) (drop from log))

-- ---- the bytes

-- a row of a feed: 0a and its frame
abbrev pub fed_row : RowValue → List ℕ
fed_row r = 10 ∷ row_frame r

-- the end of a feed: 0b and the number of its rows
abbrev pub feed_end : ℕ → List ℕ
feed_end count = 11 ∷ to_be_bytes w32 count

-- a feed of these rows, of which there are at most as many as a log has
abbrev pub feed_spelling : List RowValue → List ℕ
feed_spelling rows = flat_map fed_row rows ++ feed_end (length rows)
