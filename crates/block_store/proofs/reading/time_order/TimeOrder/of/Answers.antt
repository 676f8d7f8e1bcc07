use Rattle.std.proofs.Common.{map, ap, sym, ◌∙◌, subst}
use Rattle.block_store.specs.ByTime.{IsTimeOrder}
use Rattle.block_store.proofs.Pieces.{values_seen}
use Rattle.block_store.proofs.reading.time_order.TimeOrder.of.Goals as goal

pub returns : goal.returns
returns g c =
    let value = g.R.Row.value in
    let seen = ap (map value) (sym c.listing.ensures) ∙ values_seen value c.listing.result.now.pieces.items in
    subst (IsTimeOrder c.in_ok-positions.positions.items) (sym seen) c.in_ok-positions.ensures
