-- What holds of the two orders of items, for the laws of what an arena keeps.
use Rattle.std.specs.Prelude.{◌≡◌}
use Rattle.std.specs.Cmp.{IsTotalOrder}
use Rattle.std.specs.Ordering.{ordering_then, is_lt, is_gt}
use Rattle.std.specs.declared.cmp.Ordering.{Ordering}
use Rattle.std.specs.declared.cmp.Ordering.TheVariants.{Less, Equal, Greater}
use Rattle.std.proofs.Common.{ap, true≢false}
use Rattle.std.proofs.lemmas.Cmp.{on_total, then_total, back_total}
use Rattle.link_arena.specs.declared.twice.Order.{Order}
use Rattle.link_arena.specs.declared.twice.Order.TheVariants.{Key, Rank}
use Rattle.willow_entry.specs.Rank.{rank_cmp}
use Rattle.willow_entry.proofs.Ranks.{rank_total, subspace_path_total}
use Rattle.recency_index.specs.declared.ranked.Ranked.{Ranked}
use Rattle.recency_index.specs.Recency.{item_rank}
use Rattle.recency_index.specs.Orders.{place_cmp, ranked_cmp}

place_total : IsTotalOrder place_cmp
place_total = on_total (λ (item : Ranked). (item.subspace, item.path)) subspace_path_total

pub ranked_total : (order : Order) → IsTotalOrder (ranked_cmp order)
ranked_total Key = place_total
ranked_total Rank = then_total (back_total (on_total item_rank rank_total)) place_total

-- where two comparisons in turn tie, the second does
second_tie : (first second : Ordering) → ordering_then first second ≡ Equal → second ≡ Equal
second_tie Less second tied = absurd (true≢false (ap is_lt tied))
second_tie Equal second tied = tied
second_tie Greater second tied = absurd (true≢false (ap is_gt tied))

-- items that tie by recency stand at one place
pub ranked_apart : (a b : Ranked) → ranked_cmp Rank a b ≡ Equal → ranked_cmp Key a b ≡ Equal
ranked_apart a b tied = second_tie (rank_cmp (item_rank b) (item_rank a)) (place_cmp a b) tied
