use Rattle.std.proofs.Common.{refl, ◌∙◌}
use Rattle.block_store.proofs.BlockRuns.{whole_run}
use Rattle.block_store.proofs.reading.runs.all_rows.Goals as goal

pub returns : goal.returns
returns g c = whole_run g.R.Row.value c.args.area.now c.args.listing.now.pieces.items _ _ refl refl (c.len.ensures ∙ c.args.listing.now.pieces.ok.0) refl
