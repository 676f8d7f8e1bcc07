-- Nodes that hold generated rows.
use Rattle.std.specs.Prelude.{◌≡◌, ℕ, ◌<◌, Contains}
use Rattle.willow_entry.specs.Row.{RowValue, AreLive}
use Rattle.cap_codec.specs.Rows.{row_of}
use Rattle.peer_listing.specs.Generator.{generated}
use Rattle.peer_listing.specs.declared.generator.TheConstants.{GENERATED_ROWS}
use Rattle.mesh_rules.specs.Events.{Nodes}

-- the row is one of the generator
abbrev pub IsGenerated : RowValue → Type 0
IsGenerated r = (k : ℕ) × (k < GENERATED_ROWS) × (row_of (generated k) ≡ r)

-- each node holds live rows of the generator
pub record HoldGenerated (s : Nodes) : Type 0 where
  pub generated : (i : ℕ) (r : RowValue) → Contains (s i) r → IsGenerated r
  pub live : (i : ℕ) → AreLive (s i)
