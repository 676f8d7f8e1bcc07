use Rattle.std.proofs.Common.{◌≡◌, All, vec_len}
use Rattle.benches.specs.Served.{IsServed}
use Rattle.benches.proofs.work.serve.Given as goal

abbrev pub invariant-loop-row : goal.invariant-loop-row
invariant-loop-row g l = IsServed l.fn.job.pass l.pass × All (λ row. (g.R.Row.value row).entry.namespace ≡ l.fn.cell.namespace) l.rows.items

abbrev pub decreases-loop-row : goal.decreases-loop-row
decreases-loop-row g l = vec_len l.rows
