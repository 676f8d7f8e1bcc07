use Rattle.std.proofs.Common.{◌≡◌, ◌++◌, map, length}
use Rattle.auth_entry.specs.Rows.{entry_row}
use Rattle.peer_rows.specs.Logged.{live_rows}
use Rattle.peer_rows.proofs.listing.all_rows.Given as goal

abbrev pub invariant-rows : goal.invariant-rows
invariant-rows l = map (λ row. entry_row row.now) l.rows.items ++ map entry_row l.left ≡ live_rows l.log

abbrev pub decreases-rows : goal.decreases-rows
decreases-rows l = length l.left
