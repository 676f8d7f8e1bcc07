-- What a crash may leave while a log is begun and while slices are kept in it.
use Rattle.std.specs.Prelude.{◌≡◌, ◌⊎◌, ℕ, List, [], ◌++◌, length, Option, IfSome}
use Rattle.willow_entry.specs.Row.{RowValue}
use Rattle.willow_outside.specs.Disks.{LeavesContents, LeavesOnly}
use Rattle.willow_outside.specs.Facts.{DiskFacts}
use Rattle.log_keeper.specs.KeeperState.{KeeperState}
use Rattle.log_keeper.specs.LogFile.{HoldsRowsTo, HoldsRows, HoldsNoLog}

-- the image holds no log, or a log without rows
abbrev pub HoldsNoRow : (RowValue → Type 0) → List ℕ → List ℕ → Type 0
HoldsNoRow IsRow namespace image = HoldsNoLog image ⊎ HoldsRows IsRow namespace image []

-- the image holds the rows before a slice, or those and the slice
abbrev pub HoldsBeforeOrAfter : (RowValue → Type 0) → List ℕ → List RowValue → List RowValue → List ℕ → Type 0
HoldsBeforeOrAfter IsRow namespace before slice image = HoldsRows IsRow namespace image before ⊎ HoldsRows IsRow namespace image (before ++ slice)

-- A file that holds these rows, all of it on the disk: its contents, where they are told, its closed gate, and the number of
-- rows. No crash then leaves anything else.
pub record KeepsFile (IsRow : RowValue → Type 0) (contents : Option (List ℕ)) (images : List ℕ → Type 0) (end count : ℕ) (namespace : List ℕ) (rows : List RowValue) : Type 0 where
  pub file : IfSome contents (λ bytes. HoldsRowsTo IsRow namespace bytes rows end)
  pub counted : count ≡ length rows
  pub settled : LeavesContents contents images

-- so it is with a keeper's file
abbrev pub KeepsRows : {D : Type 0} → (RowValue → Type 0) → (D → DiskFacts) → (D → List ℕ → Type 0) → KeeperState D → List ℕ → List RowValue → Type 0
KeepsRows IsRow facts may_leave keeper namespace rows = KeepsFile IsRow (facts keeper.disk).contents (may_leave keeper.disk) keeper.end keeper.count namespace rows

-- the keeper's file holds the slice behind the rows from before
abbrev pub KeepsMore : {D : Type 0} → (RowValue → Type 0) → (D → DiskFacts) → (D → List ℕ → Type 0) → KeeperState D → KeeperState D → List RowValue → Type 0
KeepsMore IsRow facts may_leave old new slice =
    (namespace : List ℕ) (before : List RowValue) → KeepsRows IsRow facts may_leave old namespace before → KeepsRows IsRow facts may_leave new namespace (before ++ slice)

-- at each moment each image that a crash may leave holds the rows from before, or those and the slice
abbrev pub LeavesBeforeOrAfter : {D : Type 0} → (RowValue → Type 0) → (D → DiskFacts) → (D → List ℕ → Type 0) → (D → ℕ) → (D → ℕ → List ℕ → Type 0) → KeeperState D → KeeperState D → List RowValue → Type 0
LeavesBeforeOrAfter IsRow facts may_leave moment left_since old new slice =
    (namespace : List ℕ) (before : List RowValue) → KeepsRows IsRow facts may_leave old namespace before → LeavesOnly moment left_since old.disk new.disk (HoldsBeforeOrAfter IsRow namespace before slice)
