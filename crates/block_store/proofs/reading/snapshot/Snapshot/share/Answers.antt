use Rattle.std.proofs.Common.{map, sym, ap, ◌∙◌, subst}
use Rattle.willow_entry.specs.Row.{AreLive}
use Rattle.block_store.specs.Blocks.{block_rows}
use Rattle.block_store.proofs.Pieces.{values_seen}
use Rattle.block_store.proofs.reading.snapshot.Snapshot.share.Goals as goal

pub snapshot_of-requires-clause-is_live : goal.snapshot_of-requires-clause-is_live
snapshot_of-requires-clause-is_live g c =
    subst (λ l. AreLive (map g.R.Row.value (block_rows l))) (sym c.deref.ensures.value) (subst AreLive (sym (values_seen g.R.Row.value c.self.inside.listing.pieces.items)) c.self.inside.listing.live)

pub returns-clause-live : goal.returns-clause-live
returns-clause-live g c = subst AreLive (sym (values_seen g.R.Row.value c.self.inside.listing.pieces.items) ∙ ap (map g.R.Row.value) c.self.view_is) c.self.inside.listing.live
