use Rattle.std.proofs.Common.{◌≡◌, ℕ, map, ap, ◌∙◌, subst, sym, length}
use Rattle.std.specs.List.{range_with_len}
use Rattle.std.specs.List.Sorted.{IsPermutation}
use Rattle.std.proofs.lemmas.Result.{IfOk-weaker}
use Rattle.block_store.specs.Blocks.{block_rows, block_values}
use Rattle.block_store.specs.ByTime.{IsTimeOrder, time_at}
use Rattle.block_store.proofs.ByTime.{order_is}
use Rattle.block_store.proofs.Pieces.{values_long}
use Rattle.block_store.proofs.reading.by_time.order_of.Goals as goal

pub returns : goal.returns
returns g c =
    let value = g.R.Row.value in
    let pieces = c.args.listing.now.pieces.items in
    let rows = block_values value pieces in
    let sorted = c.sort_unstable.new.self.items in
    let second : ℕ × ℕ → ℕ = λ stamp. stamp.1 in
    let moved : IsPermutation (map (λ at. (time_at rows at, at)) (range_with_len 0 (length (block_rows pieces)))) sorted = subst (λ l. IsPermutation l sorted) c.in_ok-stamps.ensures c.sort_unstable.ensures.permutation in
    let is = order_is rows sorted (length (block_rows pieces)) (sym (values_long value pieces)) moved c.sort_unstable.ensures.sorted in
    IfOk-weaker c.positions_of.result (λ positions. positions.items ≡ map second c.deref.result.now) (λ order. IsTimeOrder order.items rows)
    (λ positions e. subst (λ l. IsTimeOrder l rows) (sym (e ∙ ap (map second) c.deref.ensures.value)) is) c.positions_of.ensures
