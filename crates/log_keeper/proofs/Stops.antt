-- What the file holds after a stop at any moment of a run of keeps, and from the last Ok of all on.
use Rattle.std.proofs.Common.{◌≡◌, ℕ, Bool, true, false, List, [], ◌∷◌, ◌++◌, Result, Ok, Err, refl, sym, ◌∙◌, ap, subst, append_assoc, append-nil}
use Rattle.spelling.specs.declared.ending.End.{End}
use Rattle.spelling.specs.declared.ending.End.TheVariants.{Refused, NoMemory}
use Rattle.willow_entry.specs.Row.{RowValue}
use Rattle.willow_outside.specs.Facts.{DiskFacts}
use Rattle.log_keeper.specs.declared.refusal.KeepRefusal.{KeepRefusal}
use Rattle.log_keeper.specs.Crashes.{KeepsRows}
use Rattle.log_keeper.specs.KeeperState.{KeeperState}
use Rattle.log_keeper.specs.LogFile.{HoldsRows}
use Rattle.log_keeper.specs.Runs.{GivenSlice, rows_kept, all_kept, KeepsSlice, Follow, HoldsAllFromThenOn, HoldsAtAnyStop}
use Rattle.log_keeper.proofs.Keeping.{at_rest_left}
use Rattle.log_keeper.proofs.Moments.{weaker}

module _ {D : Type 0} (IsRow : RowValue → Type 0) (facts : D → DiskFacts) (may_leave : D → List ℕ → Type 0) (moment : D → ℕ) (left_since : D → ℕ → List ℕ → Type 0) where
  abbrev Step : KeeperState D → KeeperState D → List RowValue → Result ℕ (End KeepRefusal) → Type 0
  Step = KeepsSlice IsRow facts may_leave moment left_since

  -- a broken keeper keeps nothing more
  stays_broken : (old new : KeeperState D) (givens : List GivenSlice) → Follow Step old givens new → old.broken ≡ true → new.broken ≡ true
  stays_broken old new [] same broken = ap (λ (k : KeeperState D). k.broken) same ∙ broken
  stays_broken old new (given ∷ more) (mid, step, follow) broken = absurd (cc (broken, step.unbroken))

  one_step : (old mid : KeeperState D) (slice : List RowValue) (answer : Result ℕ (End KeepRefusal)) (namespace : List ℕ) (before : List RowValue) → Step old mid slice answer → mid.broken ≡ false → KeepsRows IsRow facts may_leave old namespace before → KeepsRows IsRow facts may_leave mid namespace (before ++ rows_kept slice answer)
  one_step old mid slice (Ok n) namespace before step unbroken k = step.kept namespace before k
  one_step old mid slice (Err (Refused why)) namespace before step unbroken k = absurd (cc (step.broken why refl, unbroken))
  one_step old mid slice (Err NoMemory) namespace before step unbroken k =
      subst (λ (rows : List RowValue). KeepsRows IsRow facts may_leave mid namespace rows) (sym (append-nil before)) (subst (λ (s : KeeperState D). KeepsRows IsRow facts may_leave s namespace before) (sym (step.memory refl)) k)

  not_true : (b : Bool) → (b ≡ true → b ≡ false → ⊥)
  not_true b t f = cc (t, f)

  was_unbroken : (old new : KeeperState D) (givens : List GivenSlice) → Follow Step old givens new → new.broken ≡ false → (b : Bool) → old.broken ≡ b → old.broken ≡ false
  was_unbroken old new givens follow unbroken false is = is
  was_unbroken old new givens follow unbroken true is = absurd (not_true new.broken (stays_broken old new givens follow is) unbroken)

  kept_on : (old new : KeeperState D) (givens : List GivenSlice) (namespace : List ℕ) (before : List RowValue) → Follow Step old givens new → new.broken ≡ false → KeepsRows IsRow facts may_leave old namespace before → KeepsRows IsRow facts may_leave new namespace (before ++ all_kept givens)
  kept_on old new [] namespace before same unbroken k =
      subst (λ (rows : List RowValue). KeepsRows IsRow facts may_leave new namespace rows) (sym (append-nil before)) (subst (λ (s : KeeperState D). KeepsRows IsRow facts may_leave s namespace before) (sym same) k)
  kept_on old new (given ∷ more) namespace before (mid, step, follow) unbroken k =
      let here = one_step old mid given.slice given.answer namespace before step (was_unbroken mid new more follow unbroken mid.broken refl) k in
      let rest = kept_on mid new more namespace (before ++ rows_kept given.slice given.answer) follow unbroken here in
      subst (λ (rows : List RowValue). KeepsRows IsRow facts may_leave new namespace rows) (append_assoc before (rows_kept given.slice given.answer) (all_kept more)) rest

  pub at_any_stop : HoldsAtAnyStop IsRow facts may_leave moment left_since
  at_any_stop old mid new givens slice answer namespace before k follow step = step.moments namespace (before ++ all_kept givens) (kept_on old mid givens namespace before follow step.unbroken k)

  pub from_then_on : HoldsAllFromThenOn IsRow facts may_leave moment left_since
  from_then_on old new later givens namespace before k follow unbroken only_read =
      let all = kept_on old new givens namespace before follow unbroken k in
      (all, weaker moment left_since new.disk later (may_leave new.disk) (λ image. HoldsRows IsRow namespace image (before ++ all_kept givens)) (at_rest_left IsRow (may_leave new.disk) new.end new.count namespace (before ++ all_kept givens) (facts new.disk).contents all) only_read)
