use Rattle.std.proofs.Common.{map, slice_get, sym, ap, ◌∙◌}
use Rattle.block_store.specs.InBox.{is_in}
use Rattle.block_store.specs.Positions.{positions}
use Rattle.block_store.proofs.Pieces.{values_seen}
use Rattle.block_store.proofs.reading.snapshot.Snapshot.nth_in.Goals as goal

pub returns : goal.returns
returns g c =
    let seen = ap (map g.R.Row.value) (sym c.self.view_is) ∙ values_seen g.R.Row.value c.self.inside.listing.pieces.items in
    c.nth_in.ensures ∙ ap (λ l. slice_get (positions (is_in c.args.area.now) l) c.args.n) (sym seen)
