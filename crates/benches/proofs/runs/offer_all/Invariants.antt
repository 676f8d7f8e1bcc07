use Rattle.std.proofs.Common.{◌≡◌, All, vec_len}
use Rattle.benches.proofs.runs.offer_all.Given as goal

abbrev pub invariant-loop-row : goal.invariant-loop-row
invariant-loop-row l = (l.state.namespace ≡ l.fn.state.namespace) × All (λ row. row.entry.namespace ≡ l.fn.state.namespace) l.rows.items

abbrev pub decreases-loop-row : goal.decreases-loop-row
decreases-loop-row l = vec_len l.rows
