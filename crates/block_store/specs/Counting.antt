-- How many rows a store has after one was offered.
use Rattle.std.specs.Prelude.{ℕ, ◌+◌, ◌-◌}
use Rattle.willow_entry.specs.declared.placed.Placed.{Placed}
use Rattle.willow_entry.specs.declared.placed.Placed.TheVariants.{Stored, Kept}

-- one more, but for those that went; as many as before where the row was kept out
abbrev pub rows_after : ℕ → Placed → ℕ
rows_after rows (Stored pruned) = rows + 1 - pruned
rows_after rows (Kept by) = rows
