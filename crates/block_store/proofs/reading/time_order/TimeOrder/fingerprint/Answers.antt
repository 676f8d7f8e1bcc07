use Rattle.std.proofs.Common.{length, map, ap, sym, ◌∙◌, subst, arith}
use Rattle.lane_sum.specs.Totals.{finish_of, total_by}
use Rattle.block_store.specs.Blocks.{block_values}
use Rattle.block_store.specs.ByTime.{IsTimeOrder, found_at}
use Rattle.block_store.specs.BytesAt.{row_bytes_at}
use Rattle.block_store.specs.Fingerprint.{row_bytes}
use Rattle.block_store.specs.InBox.{rows_in}
use Rattle.block_store.proofs.Pieces.{values_seen}
use Rattle.block_store.proofs.TimeTotals.{total_found}
use Rattle.block_store.proofs.reading.time_order.TimeOrder.fingerprint.Goals as goal

pub fewer_by_time-requires : goal.fewer_by_time-requires
fewer_by_time-requires g c =
    let value = g.R.Row.value in
    let pieces = c.listing-listing.result.now.pieces.items in
    let seen = ap (map value) (sym c.listing-listing.ensures) ∙ values_seen value pieces in
    subst (λ o. IsTimeOrder o (block_values value pieces)) (sym (c.deref.ensures.value ∙ c.self.view_is)) (subst (IsTimeOrder c.args.self.now) seen c.requires)

pub returns-in-Some-clause-fingerprint : goal.returns-in-Some-clause-fingerprint
returns-in-Some-clause-fingerprint g c =
    let value = g.R.Row.value in
    let pieces = c.listing-listing.result.now.pieces.items in
    let seen = ap (map value) (sym c.listing-listing.ensures) ∙ values_seen value pieces in
    let rows = block_values value pieces in
    let area = c.args.area.now in
    let order = subst (λ o. IsTimeOrder o rows) (sym (c.deref.ensures.value ∙ c.self.view_is)) (subst (IsTimeOrder c.args.self.now) seen c.requires) in
    c.finish.ensures ∙ ap finish_of (c.total_at.ensures.total ∙ ap (λ l. total_by (row_bytes_at rows) (found_at area rows l)) c.in-Some.ensures.within
    ∙ total_found area rows c.deref.result.now order ∙ ap (λ l. total_by row_bytes (rows_in area l)) (sym seen))

pub returns-in-Some-clause-steps : goal.returns-in-Some-clause-steps
returns-in-Some-clause-steps g c = omega (arith, c.total_at.ensures.steps, c.in-Some.ensures.few, ap length c.listing-listing.ensures)

pub returns-in-Some-clause-few : goal.returns-in-Some-clause-few
returns-in-Some-clause-few g c run one = absurd (c.in-Some.ensures.times run.0)
