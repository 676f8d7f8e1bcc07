use Rattle.std.proofs.Common.{get_or, ap, ◌∙◌}
use Rattle.block_store.proofs.BlockRuns.{summary_at_is}
use Rattle.block_store.proofs.reading.listing.Listing.summary.Goals as goal

pub returns : goal.returns
returns g c = summary_at_is g.R.Row.value c.args.self.now.pieces.items c.args.i c.index.result.now c.requires (c.index.ensures ∙ ap (λ l. get_or l c.args.i c.index.result.now) c.args.self.now.summed)
