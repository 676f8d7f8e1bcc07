use Rattle.std.proofs.Common.{length, map, ap, sym, ◌∙◌, subst, arith}
use Rattle.block_store.specs.Blocks.{block_values}
use Rattle.block_store.specs.ByTime.{IsTimeOrder, found_at}
use Rattle.block_store.specs.InBox.{rows_in}
use Rattle.block_store.proofs.ByTime.{so_many_found}
use Rattle.block_store.proofs.Pieces.{values_seen}
use Rattle.block_store.proofs.reading.time_order.TimeOrder.count_in.Goals as goal

pub fewer_by_time-requires : goal.fewer_by_time-requires
fewer_by_time-requires g c =
    let value = g.R.Row.value in
    let pieces = c.listing-listing.result.now.pieces.items in
    let seen = ap (map value) (sym c.listing-listing.ensures) ∙ values_seen value pieces in
    subst (λ o. IsTimeOrder o (block_values value pieces)) (sym (c.deref.ensures.value ∙ c.self.view_is)) (subst (IsTimeOrder c.args.self.now) seen c.requires)

pub count_at-requires : goal.count_at-requires
count_at-requires g c = omega (arith, c.in-Some.ensures.few, c.listing-listing.result.now.few)

pub returns-in-Some : goal.returns-in-Some
returns-in-Some g c =
    let value = g.R.Row.value in
    let pieces = c.listing-listing.result.now.pieces.items in
    let seen = ap (map value) (sym c.listing-listing.ensures) ∙ values_seen value pieces in
    let rows = block_values value pieces in
    let area = c.args.area.now in
    let order = subst (λ o. IsTimeOrder o rows) (sym (c.deref.ensures.value ∙ c.self.view_is)) (subst (IsTimeOrder c.args.self.now) seen c.requires) in
    c.count_at.ensures ∙ ap (λ l. length (found_at area rows l)) c.in-Some.ensures.within ∙ so_many_found area rows c.deref.result.now order ∙ ap (λ l. length (rows_in area l)) (sym seen)
