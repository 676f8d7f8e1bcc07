use Rattle.std.proofs.Common.{map, sym, ap, ◌∙◌, subst}
use Rattle.willow_entry.specs.Row.{AreLive}
use Rattle.block_store.proofs.Pieces.{values_seen}
use Rattle.block_store.proofs.reading.snapshot.Snapshot.get.Goals as goal

pub returns-clause-live : goal.returns-clause-live
returns-clause-live g c = subst AreLive (sym (values_seen g.R.Row.value c.self.inside.listing.pieces.items) ∙ ap (map g.R.Row.value) c.self.view_is) c.self.inside.listing.live
