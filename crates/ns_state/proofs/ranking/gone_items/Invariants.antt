use Rattle.std.proofs.Common.{◌≡◌, map, filter, take}
use Rattle.willow_entry.specs.Row.{is_dominating}
use Rattle.recency_index.specs.Rows.{items_of}
use Rattle.ns_state.proofs.ranking.gone_items.Given as goal

abbrev pub invariant-loop-at : goal.invariant-loop-at
invariant-loop-at g l = l.gone.items ≡ items_of (take l.at (filter (is_dominating (g.R.Row.value l.row)) (map g.R.Row.value l.store)))
