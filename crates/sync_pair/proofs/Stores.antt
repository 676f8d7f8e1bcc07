-- The rows of a store rise, and each stands there once.
use Rattle.std.proofs.Common.{ℕ, List}
use Rattle.std.specs.List.{IsDistinct}
use Rattle.willow_entry.specs.Row.{RowValue, same_row}
use Rattle.willow_entry.proofs.Between.{rising_live}
use Rattle.exchange_rules.specs.Premises.{CanCut}
use Rattle.range_split.proofs.Rising.{live_rows_rise}
use Rattle.sync_core.specs.SyncRules.{sync_rules}
use Rattle.sync_core.proofs.Distinct.{rising_distinct}
use Rattle.sync_core.proofs.Lawful.{can_cut_rows}
use Rattle.sync_pair.specs.Stores.{IsStoreOf}

module _ (namespace : List ℕ) (rows : List RowValue) (store : IsStoreOf namespace rows) where
  pub store_distinct : IsDistinct same_row rows
  store_distinct = rising_distinct rows (rising_live rows store.live)

  pub store_cuts : (version : ℕ) → CanCut (sync_rules version) rows
  store_cuts version = can_cut_rows version rows (live_rows_rise rows store.live (namespace, store.own))
