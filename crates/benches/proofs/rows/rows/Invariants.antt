use Rattle.std.proofs.Common.{◌≡◌, All}
use Rattle.benches.proofs.rows.rows.Given as goal

abbrev pub invariant-loop-number : goal.invariant-loop-number
invariant-loop-number l = All (λ row. row.entry.namespace ≡ l.namespace) l.rows.items

abbrev pub invariant-loop-author : goal.invariant-loop-author
invariant-loop-author l = All (λ row. row.entry.namespace ≡ l.namespace) l.rows.items
