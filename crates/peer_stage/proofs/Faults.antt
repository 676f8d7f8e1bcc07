-- What the end of a step says of a count of faults.
use Rattle.std.proofs.Common.{◌≡◌, ◌≢◌, ℕ, ◌≤◌, refl, subst, arith}
use Rattle.std.specs.Prelude.{Result, Ok, Err}
use Rattle.peer_stage.specs.Faults.{CountsStop, CountsStep}
use Rattle.peer_stage.specs.Status.{status_of}
use Rattle.peer_stage.specs.declared.outcome.Done.{Done}
use Rattle.peer_stage.specs.declared.outcome.Stop.{Stop}
use Rattle.peer_stage.specs.declared.outcome.Stop.TheVariants as stop

-- ---- ends that tell no fault

-- no fault is told
abbrev pub TellsNoFault : Stop → Type 0
TellsNoFault stop.ReadFault = ⊥
TellsNoFault stop.WriteFault = ⊥
TellsNoFault e = Unit {0}

abbrev pub EndsUnfailed : {A : Type 0} → Result A Stop → Type 0
EndsUnfailed (Ok value) = Unit {0}
EndsUnfailed (Err e) = TellsNoFault e

-- but with 3 and 4 an end tells none
pub no_fault : (end : Result Done Stop) → status_of end ≢ 3 → status_of end ≢ 4 → EndsUnfailed end
no_fault (Ok d) three four = tt
no_fault (Err stop.ReadFault) three four = three refl
no_fault (Err stop.WriteFault) three four = four refl
no_fault (Err e) three four = tt

-- nor with 7
pub no_fault_at_want : (end : Result Done Stop) → status_of end ≡ 7 → EndsUnfailed end
no_fault_at_want end seven = no_fault end (λ three. omega (arith, seven, three)) (λ four. omega (arith, seven, four))

-- ---- counts

stop_rises : (before now : ℕ) (e : Stop) → CountsStop before now e → before ≤ now
stop_rises before now stop.ReadFault counts = counts
stop_rises before now stop.WriteFault counts = counts
stop_rises before now e counts = omega (arith, counts)

-- the count never falls
pub never_falls : {A : Type 0} (before now : ℕ) (end : Result A Stop) → CountsStep before now end → before ≤ now
never_falls before now (Ok value) counts = omega (arith, counts)
never_falls before now (Err e) counts = stop_rises before now e counts

stop_stood : (before now : ℕ) (e : Stop) → TellsNoFault e → CountsStop before now e → now ≡ before
stop_stood before now stop.ReadFault none counts = absurd none
stop_stood before now stop.WriteFault none counts = absurd none
stop_stood before now e none counts = counts

-- it is as before where no fault is told
pub stood : {A : Type 0} (before now : ℕ) (end : Result A Stop) → EndsUnfailed end → CountsStep before now end → now ≡ before
stood before now (Ok value) none counts = counts
stood before now (Err e) none counts = stop_stood before now e none counts

pub stop_stands : (before now : ℕ) (e : Stop) → now ≡ before → CountsStop before now e
stop_stands before now stop.ReadFault same = omega (arith, same)
stop_stands before now stop.WriteFault same = omega (arith, same)
stop_stands before now e same = same

-- a count that is as before fits every end
pub stands_at : {A : Type 0} (before now : ℕ) (end : Result A Stop) → now ≡ before → CountsStep before now end
stands_at before now (Ok value) same = same
stands_at before now (Err e) same = stop_stands before now e same

-- the steps before it left the count as it was
pub counts_behind : {A : Type 0} (before between now : ℕ) (end : Result A Stop) → between ≡ before → CountsStep between now end → CountsStep before now end
counts_behind before between now end same counts = subst (λ (count : ℕ). CountsStep count now end) same counts
