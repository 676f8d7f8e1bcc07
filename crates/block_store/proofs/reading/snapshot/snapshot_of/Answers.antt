use Rattle.std.proofs.Common.{subst}
use Rattle.willow_entry.specs.Row.{AreLive}
use Rattle.block_store.proofs.Pieces.{values_seen}
use Rattle.block_store.proofs.reading.snapshot.snapshot_of.Goals as goal

pub listing_of-requires-clause-live : goal.listing_of-requires-clause-live
listing_of-requires-clause-live g c = subst AreLive (values_seen g.R.Row.value c.args.pieces.now) c.requires.is_live
