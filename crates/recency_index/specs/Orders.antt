-- The two orders of items: their key is their place, and their rank their recency.
use Rattle.std.specs.declared.cmp.Ordering.{Ordering}
use Rattle.link_arena.specs.declared.twice.Order.{Order}
use Rattle.link_arena.specs.declared.twice.Order.TheVariants.{Key, Rank}
use Rattle.willow_entry.specs.Row.{subspace_path_cmp}
use Rattle.recency_index.specs.declared.ranked.Ranked.{Ranked}
use Rattle.recency_index.specs.Recency.{recency_cmp}

-- how items are ordered by place
abbrev pub place_cmp : Ranked → Ranked → Ordering
place_cmp a b = subspace_path_cmp (a.subspace, a.path) (b.subspace, b.path)

abbrev pub ranked_cmp : Order → Ranked → Ranked → Ordering
ranked_cmp Key = place_cmp
ranked_cmp Rank = recency_cmp
