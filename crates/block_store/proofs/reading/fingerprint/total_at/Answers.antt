use Rattle.std.proofs.Common.{sym, ap, ◌∙◌}
use Rattle.lane_sum.specs.Totals.{total_by}
use Rattle.block_store.specs.Fingerprint.{row_bytes}
use Rattle.block_store.proofs.BlockRuns.{at_whole}
use Rattle.block_store.proofs.reading.fingerprint.total_at.Goals as goal

pub returns-then-is_between-clause-total : goal.returns-then-is_between-clause-total
returns-then-is_between-clause-total g c =
    let between = c.is_between.ensures.inside c.if-is_between.true in
    c.total.ensures ∙ ap (λ s. s.0) c.summary.ensures ∙ ap (total_by row_bytes) (sym (at_whole g.R.Row.value c.args.area.now c.args.listing.now.pieces.items c.args.run.now c.requires.run c.args.i c.requires.within between.0 between.1 between.2))
