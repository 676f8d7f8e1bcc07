use Rattle.std.proofs.Common.{map, ap, sym, ◌∙◌, subst}
use Rattle.block_store.specs.Blocks.{block_values}
use Rattle.block_store.specs.ByTime.{IsTimeOrder, found_at}
use Rattle.block_store.specs.InBox.{is_in}
use Rattle.block_store.specs.Positions.{positions}
use Rattle.block_store.proofs.ByTime.{SameSums, same_found, sorted_is}
use Rattle.block_store.proofs.Pieces.{values_seen}
use Rattle.block_store.proofs.reading.time_order.TimeOrder.positions_in.Goals as goal

pub fewer_by_time-requires : goal.fewer_by_time-requires
fewer_by_time-requires g c =
    let value = g.R.Row.value in
    let pieces = c.listing-listing.result.now.pieces.items in
    let seen = ap (map value) (sym c.listing-listing.ensures) ∙ values_seen value pieces in
    subst (λ o. IsTimeOrder o (block_values value pieces)) (sym (c.deref.ensures.value ∙ c.self.view_is)) (subst (IsTimeOrder c.args.self.now) seen c.requires)

pub returns-in_ok-found-in-Some : goal.returns-in_ok-found-in-Some
returns-in_ok-found-in-Some g c =
    let value = g.R.Row.value in
    let pieces = c.listing-listing.result.now.pieces.items in
    let seen = ap (map value) (sym c.listing-listing.ensures) ∙ values_seen value pieces in
    let rows = block_values value pieces in
    let area = c.args.area.now in
    let order = subst (λ o. IsTimeOrder o rows) (sym (c.deref.ensures.value ∙ c.self.view_is)) (subst (IsTimeOrder c.args.self.now) seen c.requires) in
    let found = c.in_ok-found-in-Some.found.items in
    let same : SameSums found (positions (is_in area) rows) =
    subst (λ l. SameSums l (positions (is_in area) rows)) (sym (c.in_ok-found-in-Some.ensures ∙ ap (found_at area rows) c.in-Some.ensures.within)) (same_found area rows c.deref.result.now order) in
    sorted_is (is_in area) rows found c.sort_unstable.new.self.items same c.sort_unstable.ensures.permutation c.sort_unstable.ensures.sorted ∙ ap (positions (is_in area)) (sym seen)
