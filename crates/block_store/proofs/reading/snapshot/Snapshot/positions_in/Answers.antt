use Rattle.std.proofs.Common.{◌≡◌, map, sym, ap, ◌∙◌, subst, IfOk}
use Rattle.block_store.specs.InBox.{is_in}
use Rattle.block_store.specs.Positions.{positions}
use Rattle.block_store.proofs.Pieces.{values_seen}
use Rattle.block_store.proofs.reading.snapshot.Snapshot.positions_in.Goals as goal

pub returns : goal.returns
returns g c =
    let seen = ap (map g.R.Row.value) (sym c.self.view_is) ∙ values_seen g.R.Row.value c.self.inside.listing.pieces.items in
    subst (λ l. IfOk c.positions_in.result (λ found. found.items ≡ positions (is_in c.args.area.now) l)) (sym seen) c.positions_in.ensures
