use Rattle.std.proofs.Common.{arith}
use Rattle.std.proofs.lemmas.Grind.{common_steps}
use Rattle.benches.proofs.Serving.{served_itself, served_more}
use Rattle.benches.proofs.work.serve.Goals as goal

pub loop-row-init : goal.loop-row-init
loop-row-init g c = (served_itself c.args.job.pass, c.requires.rows)

pub loop-row-preserved : goal.loop-row-preserved
loop-row-preserved g c =
    (served_more g.R.Row.value _ _ _ _ _ c.loop-row.invariant.0 c.ingest-answer.ensures.later c.ingest-answer.ensures.offered, λ k d within. grind (arith, common_steps, c.loop-row.invariant.1 k d))
