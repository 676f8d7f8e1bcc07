use Rattle.std.proofs.Common.{map, length, sym, ap, ◌∙◌}
use Rattle.block_store.specs.InBox.{rows_in}
use Rattle.block_store.proofs.Pieces.{values_seen}
use Rattle.block_store.proofs.reading.snapshot.Snapshot.count_in.Goals as goal

pub returns : goal.returns
returns g c =
    let seen = ap (map g.R.Row.value) (sym c.self.view_is) ∙ values_seen g.R.Row.value c.self.inside.listing.pieces.items in
    c.count_in.ensures ∙ ap (λ l. length (rows_in c.args.area.now l)) (sym seen)
