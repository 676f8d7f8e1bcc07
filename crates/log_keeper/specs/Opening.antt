-- Disks whose file is only read.
use Rattle.std.specs.Prelude.{◌≡◌, ℕ, ◌<◌, ◌^◌, List, length, is_some, IfSome}
use Rattle.willow_outside.specs.Disks.{LeavesContents, LeavesNoMore, LeavesOnly}
use Rattle.willow_outside.specs.Facts.{DiskFacts}
use Rattle.log_keeper.specs.Causes.{CountsNoFault}

-- the contents stay, and a crash leaves nothing that it would not have left before
pub record IsUnchanged {D : Type 0} (facts : D → DiskFacts) (may_leave : D → List ℕ → Type 0) (old new : D) : Type 0 where
  pub contents : (facts new).contents ≡ (facts old).contents
  pub images : LeavesNoMore (may_leave old) (may_leave new)

-- nothing was written: at each moment a crash leaves only what it might have left before
pub record WasOnlyRead {D : Type 0} (facts : D → DiskFacts) (may_leave : D → List ℕ → Type 0) (moment : D → ℕ) (left_since : D → ℕ → List ℕ → Type 0) (old new : D) : Type 0 where
  pub told : is_some (facts new).contents ≡ is_some (facts old).contents
  pub images : LeavesNoMore (may_leave old) (may_leave new)
  pub moments : LeavesOnly moment left_since old new (may_leave old)

-- a disk that was read without a fault: no write is pending, and the file is not too long
pub record IsReadWell {D : Type 0} (facts : D → DiskFacts) (may_leave : D → List ℕ → Type 0) (moment : D → ℕ) (left_since : D → ℕ → List ℕ → Type 0) (old new : D) : Type 0 where
  pub unchanged : IsUnchanged facts may_leave old new
  pub moments : LeavesOnly moment left_since old new (may_leave old)
  pub settled : LeavesContents (facts new).contents (may_leave new)
  pub within : IfSome (facts old).contents (λ bytes. length bytes < 2 ^ 62)
  pub faults : CountsNoFault (facts old) (facts new)
