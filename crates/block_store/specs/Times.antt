-- When rows were written.
use Rattle.std.specs.Prelude.{ℕ, ◌≤◌, List}
use Rattle.std.specs.List.{All}
use Rattle.willow_entry.specs.Row.{RowValue}

-- the timestamp of each row lies between these two
abbrev pub AreWritten : ℕ → ℕ → List RowValue → Type 0
AreWritten earliest latest rows = All (λ row. (earliest ≤ row.entry.timestamp) × (row.entry.timestamp ≤ latest)) rows
