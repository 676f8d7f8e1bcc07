-- The generated rows that a drill stores.
use Rattle.std.specs.Prelude.{◌≡◌, ℕ, ◌+◌, ◌*◌, ◌<◌, List, length, map, Result, IfOk, IfSome, slice_get}
use Rattle.std.specs.Global.{Vec}
use Rattle.std.specs.List.{range_with_len}
use Rattle.spelling.specs.declared.ending.NoMemory.{NoMemory}
use Rattle.willow_entry.specs.Row.{RowValue}
use Rattle.cap_codec.specs.Rows.{RawValue}
use Rattle.peer_listing.specs.Generator.{generated, generator_namespace}
use Rattle.peer_listing.specs.Ranges.{generated_between}
use Rattle.peer_rows.specs.Logged.{authorised_rows}
use Rattle.peer_rows.specs.declared.shares.TheConstants.{SHARE}

-- the authorised ones among the generated rows 0 to n - 1, in order
unfoldable pub generated_rows : ℕ → List RowValue
generated_rows n = authorised_rows generator_namespace (map generated (range_with_len 0 n))

-- Share k of the rows from one on is SHARE of them, unless there was no memory for it.
abbrev pub AreRowShares : ℕ → List (Result (Vec RawValue) NoMemory) → Type 0
AreRowShares from shares = (k : ℕ) → k < length shares → IfSome (slice_get shares k) (λ share. IfOk share (λ rows. rows.items ≡ generated_between (from + k * SHARE) (from + (k * SHARE + SHARE))))
