-- What contracts see of the keeper of a log.
use Rattle.std.specs.Prelude.{ℕ, Bool, Result, Ok, Err}

-- its disk, the place of the closed gate, the number of rows, and whether a write failed
pub record KeeperState (D : Type 0) : Type 0 where
  pub disk : D
  pub end : ℕ
  pub count : ℕ
  pub broken : Bool

-- the disk of an answer
abbrev pub disk_of : {D E : Type 0} → Result (KeeperState D) (D × E) → D
disk_of (Ok keeper) = keeper.disk
disk_of (Err back) = back.0
