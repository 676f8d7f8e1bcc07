-- Runs of keeps: what the file holds after a stop at any moment, and which store that is.
use Rattle.std.specs.Prelude.{◌≡◌, ℕ, ◌+◌, ◌≤◌, false, true, List, [], ◌∷◌, ◌++◌, length, take, Contains, Result, Ok, Err, OnOk, IsErrOf}
use Rattle.std.specs.List.{flat_map}
use Rattle.spelling.specs.declared.ending.End.{End}
use Rattle.spelling.specs.declared.ending.End.TheVariants.{Refused, NoMemory}
use Rattle.willow_entry.specs.Row.{RowValue, HasCovering, live}
use Rattle.willow_outside.specs.Disks.{LeavesOnly}
use Rattle.willow_outside.specs.Facts.{DiskFacts}
use Rattle.log_keeper.specs.declared.refusal.KeepRefusal.{KeepRefusal}
use Rattle.log_keeper.specs.Crashes.{HoldsBeforeOrAfter, KeepsRows, KeepsMore, LeavesBeforeOrAfter}
use Rattle.log_keeper.specs.LogFile.{HoldsRows}
use Rattle.log_keeper.specs.KeeperState.{KeeperState}

-- a slice that was given to a keeper, and its answer
pub record GivenSlice : Type 0 where
  pub slice : List RowValue
  pub answer : Result ℕ (End KeepRefusal)

-- the rows of a slice that was answered Ok
abbrev pub rows_kept : List RowValue → Result ℕ (End KeepRefusal) → List RowValue
rows_kept slice (Ok n) = slice
rows_kept slice (Err e) = []

-- the rows of all slices that were answered Ok, one after the other
abbrev pub all_kept : List GivenSlice → List RowValue
all_kept = flat_map (λ given. rows_kept given.slice given.answer)

-- what a keep does, at each moment and when it ends
pub record KeepsSlice {D : Type 0} (IsRow : RowValue → Type 0) (facts : D → DiskFacts) (may_leave : D → List ℕ → Type 0) (moment : D → ℕ) (left_since : D → ℕ → List ℕ → Type 0) (old new : KeeperState D) (slice : List RowValue) (answer : Result ℕ (End KeepRefusal)) : Type 0 where
  pub unbroken : old.broken ≡ false
  pub moments : LeavesBeforeOrAfter IsRow facts may_leave moment left_since old new slice
  pub kept : OnOk answer (KeepsMore IsRow facts may_leave old new slice)
  pub memory : IsErrOf answer NoMemory → new ≡ old
  pub broken : (why : KeepRefusal) → IsErrOf answer (Refused why) → new.broken ≡ true

-- keeps that follow one another
abbrev pub Follow : {D : Type 0} → (KeeperState D → KeeperState D → List RowValue → Result ℕ (End KeepRefusal) → Type 0) → KeeperState D → List GivenSlice → KeeperState D → Type 0
Follow step old [] new = new ≡ old
Follow {D} step old (given ∷ more) new = (mid : KeeperState D) × step old mid given.slice given.answer × Follow step mid more new

-- ---- which rows the file holds

-- After keeps that follow one another, each image that a crash may leave at any moment of the next holds the rows that the
-- file held at first, those of all slices answered Ok, and maybe those of the slice.
abbrev pub HoldsAtAnyStop : {D : Type 0} → (RowValue → Type 0) → (D → DiskFacts) → (D → List ℕ → Type 0) → (D → ℕ) → (D → ℕ → List ℕ → Type 0) → Type 0
HoldsAtAnyStop {D} IsRow facts may_leave moment left_since =
    (old mid new : KeeperState D) (givens : List GivenSlice) (slice : List RowValue) (answer : Result ℕ (End KeepRefusal)) (namespace : List ℕ) (before : List RowValue)
    → KeepsRows IsRow facts may_leave old namespace before → Follow (KeepsSlice IsRow facts may_leave moment left_since) old givens mid → KeepsSlice IsRow facts may_leave moment left_since mid new slice answer
    → LeavesOnly moment left_since mid.disk new.disk (HoldsBeforeOrAfter IsRow namespace (before ++ all_kept givens) slice)

-- After keeps that follow one another and of which none failed to write, the file holds the rows that it held at first and
-- those of all slices answered Ok; and so does each image that a crash may leave from then on, while the disk is only read.
abbrev pub HoldsAllFromThenOn : {D : Type 0} → (RowValue → Type 0) → (D → DiskFacts) → (D → List ℕ → Type 0) → (D → ℕ) → (D → ℕ → List ℕ → Type 0) → Type 0
HoldsAllFromThenOn {D} IsRow facts may_leave moment left_since =
    (old new : KeeperState D) (later : D) (givens : List GivenSlice) (namespace : List ℕ) (before : List RowValue)
    → KeepsRows IsRow facts may_leave old namespace before → Follow (KeepsSlice IsRow facts may_leave moment left_since) old givens new → new.broken ≡ false → LeavesOnly moment left_since new.disk later (may_leave new.disk)
    → KeepsRows IsRow facts may_leave new namespace (before ++ all_kept givens) × LeavesOnly moment left_since new.disk later (λ image. HoldsRows IsRow namespace image (before ++ all_kept givens))

-- ---- which store that is

-- the image holds rows that make, with the opening rows, the store at a front of the log that has at least so many rows
pub record IsAtAFront (IsRow : RowValue → Type 0) (namespace : List ℕ) (opening log : List RowValue) (least : ℕ) (image : List ℕ) : Type 0 where
  pub rows : List RowValue
  pub front : ℕ
  pub held : HoldsRows IsRow namespace image rows
  pub reaches : least ≤ front
  pub store : live (opening ++ rows) ≡ live (take front log)

-- The slices follow one another in one log, from its opening rows on, and the opening rows cover what the file held before
-- them. At any moment of the next keep each image makes the store at a front that is not below the end of the last slice
-- answered Ok, nor below the number of opening rows.
abbrev pub IsStoreAtAnyStop : {D : Type 0} → (RowValue → Type 0) → (D → DiskFacts) → (D → List ℕ → Type 0) → (D → ℕ) → (D → ℕ → List ℕ → Type 0) → Type 0
IsStoreAtAnyStop {D} IsRow facts may_leave moment left_since =
    (old mid new : KeeperState D) (givens : List GivenSlice) (slice : List RowValue) (answer : Result ℕ (End KeepRefusal)) (namespace : List ℕ) (before opening rest : List RowValue)
    → KeepsRows IsRow facts may_leave old namespace before → Follow (KeepsSlice IsRow facts may_leave moment left_since) old givens mid → KeepsSlice IsRow facts may_leave moment left_since mid new slice answer
    → ((r : RowValue) → Contains before r → HasCovering opening r)
    → LeavesOnly moment left_since mid.disk new.disk (IsAtAFront IsRow namespace opening (opening ++ (all_kept givens ++ (slice ++ rest))) (length opening + length (all_kept givens)))

-- And after the last keep, where none failed to write, each makes the store at the end of the last slice answered Ok or
-- behind it.
abbrev pub IsStoreFromThenOn : {D : Type 0} → (RowValue → Type 0) → (D → DiskFacts) → (D → List ℕ → Type 0) → (D → ℕ) → (D → ℕ → List ℕ → Type 0) → Type 0
IsStoreFromThenOn {D} IsRow facts may_leave moment left_since =
    (old new : KeeperState D) (later : D) (givens : List GivenSlice) (namespace : List ℕ) (before opening rest : List RowValue)
    → KeepsRows IsRow facts may_leave old namespace before → Follow (KeepsSlice IsRow facts may_leave moment left_since) old givens new → new.broken ≡ false → LeavesOnly moment left_since new.disk later (may_leave new.disk)
    → ((r : RowValue) → Contains before r → HasCovering opening r)
    → LeavesOnly moment left_since new.disk later (IsAtAFront IsRow namespace opening (opening ++ (all_kept givens ++ rest)) (length opening + length (all_kept givens)))
