-- The store that a file makes after a stop.
use Rattle.std.proofs.Common.{inl, inr, ℕ, ◌+◌, List, ◌++◌, length, take, Contains, ◌∙◌, ap, append_assoc, length-append, arith}
use Rattle.willow_entry.specs.Row.{RowValue, HasCovering, live}
use Rattle.willow_outside.specs.Facts.{DiskFacts}
use Rattle.log_keeper.specs.Crashes.{HoldsBeforeOrAfter}
use Rattle.log_keeper.specs.LogFile.{HoldsRows}
use Rattle.log_keeper.specs.Runs.{all_kept, IsAtAFront, IsStoreAtAnyStop, IsStoreFromThenOn}
use Rattle.log_keeper.proofs.LiveKept.{live_front}
use Rattle.log_keeper.proofs.Moments.{weaker}
use Rattle.log_keeper.proofs.Stops.{at_any_stop, from_then_on}

module _ (IsRow : RowValue → Type 0) (namespace : List ℕ) (before opening kept : List RowValue) (covers : (r : RowValue) → Contains before r → HasCovering opening r) where
  at_the_end : (rest : List RowValue) (c : List ℕ) → HoldsRows IsRow namespace c (before ++ kept) → IsAtAFront IsRow namespace opening (opening ++ (kept ++ rest)) (length opening + length kept) c
  at_the_end rest c held = record { rows = before ++ kept; front = length opening + length kept; held = held; reaches = omega arith; store = live_front opening before kept rest covers }

  at_a_front : (slice rest : List RowValue) (c : List ℕ) → HoldsBeforeOrAfter IsRow namespace (before ++ kept) slice c → IsAtAFront IsRow namespace opening (opening ++ (kept ++ (slice ++ rest))) (length opening + length kept) c
  at_a_front slice rest c (inl held) = at_the_end (slice ++ rest) c held
  at_a_front slice rest c (inr held) = record {
    rows = (before ++ kept) ++ slice;
    front = length opening + length (kept ++ slice);
    held = held;
    reaches = omega (arith, length-append kept slice);
    store = ap (λ (l : List RowValue). live (opening ++ l)) (append_assoc before kept slice) ∙ live_front opening before (kept ++ slice) rest covers ∙ ap (λ (l : List RowValue). live (take (length opening + length (kept ++ slice)) (opening ++ l))) (append_assoc kept slice rest);
  }

module _ {D : Type 0} (IsRow : RowValue → Type 0) (facts : D → DiskFacts) (may_leave : D → List ℕ → Type 0) (moment : D → ℕ) (left_since : D → ℕ → List ℕ → Type 0) where
  pub store_at_any_stop : IsStoreAtAnyStop IsRow facts may_leave moment left_since
  store_at_any_stop old mid new givens slice answer namespace before opening rest k follow step covers =
      let kept = all_kept givens in
      weaker moment left_since mid.disk new.disk (HoldsBeforeOrAfter IsRow namespace (before ++ kept) slice) (IsAtAFront IsRow namespace opening (opening ++ (kept ++ (slice ++ rest))) (length opening + length kept))
      (at_a_front IsRow namespace before opening kept covers slice rest) (at_any_stop IsRow facts may_leave moment left_since old mid new givens slice answer namespace before k follow step)

  pub store_from_then_on : IsStoreFromThenOn IsRow facts may_leave moment left_since
  store_from_then_on old new later givens namespace before opening rest k follow unbroken only_read covers =
      let kept = all_kept givens in
      weaker moment left_since new.disk later (λ image. HoldsRows IsRow namespace image (before ++ kept)) (IsAtAFront IsRow namespace opening (opening ++ (kept ++ rest)) (length opening + length kept))
      (at_the_end IsRow namespace before opening kept covers rest) (from_then_on IsRow facts may_leave moment left_since old new later givens namespace before k follow unbroken only_read).1
