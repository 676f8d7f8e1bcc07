-- Two stores that may meet.
use Rattle.std.specs.Prelude.{◌≡◌, ℕ, List}
use Rattle.std.specs.List.{All}
use Rattle.willow_entry.specs.Row.{RowValue, AreLive}

-- what a store of the namespace holds: live rows, each of this namespace
pub record IsStoreOf (namespace : List ℕ) (rows : List RowValue) : Type 0 where
  pub live : AreLive rows
  pub own : All (λ row. row.entry.namespace ≡ namespace) rows

-- two stores of the namespace
pub record AreStores (namespace : List ℕ) (a b : List RowValue) : Type 0 where
  pub left : IsStoreOf namespace a
  pub right : IsStoreOf namespace b
