-- A call behind its first steps: parts one behind the other, of which each goes on whatever it meets. What is met stops
-- nothing; it is told at the end, by one status.
use Rattle.std.specs.Prelude.{◌≡◌, ◌≢◌, ◌⊎◌, ℕ, ◌≤◌, List, [], ◌∷◌, Contains, Option, Some, None, Result, Ok, Err}
use Rattle.call_rules.specs.Told.{IsUnmet, first_met, told_order}

-- ---- the objects, and what is told

-- Relations of the objects before something and behind it, the statuses that were met by what is told so far, and that of
-- a stop.
pub record Rules (W T E : Type 0) : Type 1 where
  -- no count falls, and a link that is back stays back
  pub goes_on : W → W → Type 0
  -- every count of faults is as before
  pub unfailed : W → W → Type 0
  -- a count rose of what is read, or of what is written
  pub reads : W → W → Type 0
  pub writes : W → W → Type 0
  pub met : T → List ℕ
  pub stop : E → ℕ

-- They pass to what stands before and behind.
pub record AreRules {W T E : Type 0} (r : Rules W T E) : Type 0 where
  pub stays : (w : W) → r.goes_on w w
  pub goes_further : (old between new : W) → r.goes_on old between → r.goes_on between new → r.goes_on old new
  pub unfailed_there : (w : W) → r.unfailed w w
  pub unfailed_further : (old between new : W) → r.unfailed old between → r.unfailed between new → r.unfailed old new
  pub reads_before : (old between new : W) → r.goes_on old between → r.reads between new → r.reads old new
  pub reads_behind : (old between new : W) → r.reads old between → r.goes_on between new → r.reads old new
  pub writes_before : (old between new : W) → r.goes_on old between → r.writes between new → r.writes old new
  pub writes_behind : (old between new : W) → r.writes old between → r.goes_on between new → r.writes old new

-- ---- parts

-- how the objects, and what is told, come from one state to another, or the stop that was met
abbrev pub Part : Type 0 → Type 0 → Type 0 → Type 1
Part W T E = W → T → W → Result T E → Type 0

-- nothing is done
abbrev pub Nothing : {W T E : Type 0} → Part W T E
Nothing old told new (Ok t) = (new ≡ old) × (t ≡ told)
Nothing old told new (Err e) = ⊥

-- the first told something, and the next ended so over it
pub record IsPassed {W T E : Type 0} (first next : Part W T E) (old : W) (told : T) (new : W) (end : Result T E) : Type 0 where
  pub between : W
  pub so_far : T
  pub given : first old told between (Ok so_far)
  pub rest : next between so_far new end

-- one behind the other
abbrev pub Behind : {W T E : Type 0} → Part W T E → Part W T E → Part W T E
Behind first next old told new (Ok t) = IsPassed first next old told new (Ok t)
Behind first next old told new (Err e) = first old told new (Err e) ⊎ IsPassed first next old told new (Err e)

-- a part that there may be
abbrev pub Where : {W T E A : Type 0} → Option A → (A → Part W T E) → Part W T E
Where None part = Nothing
Where (Some a) part = part a

-- one for each
abbrev pub Each : {W T E A : Type 0} → List A → (A → Part W T E) → Part W T E
Each [] part = Nothing
Each (a ∷ rest) part = Behind (part a) (Each rest part)

-- ---- what a part owes

-- why it may stop: for want of memory, or where a count rose of what is read or written
abbrev pub IsStop : {W T E : Type 0} → Rules W T E → W → W → E → Type 0
IsStop r old new e = (r.stop e ≡ 7) ⊎ (((r.stop e ≡ 3) × r.reads old new) ⊎ ((r.stop e ≡ 4) × r.writes old new))

-- No count falls in it. What was met stays met. Where no fault and no want of memory is met, every count of faults is as
-- before; where a fault is met that was not, a count rose of what is read or written. And so where it stops.
pub record IsHonest {W T E : Type 0} (r : Rules W T E) (part : Part W T E) : Type 0 where
  pub counts : (old new : W) (told : T) (end : Result T E) → part old told new end → r.goes_on old new
  pub keeps : (old new : W) (told t : T) → part old told new (Ok t) → (status : ℕ) → 1 ≤ status → Contains (r.met told) status → Contains (r.met t) status
  pub unfailed : (old new : W) (told t : T) → part old told new (Ok t) → IsUnmet (r.met t) 3 → IsUnmet (r.met t) 4 → IsUnmet (r.met t) 7 → r.unfailed old new
  pub read_fault : (old new : W) (told t : T) → part old told new (Ok t) → Contains (r.met t) 3 → Contains (r.met told) 3 ⊎ r.reads old new
  pub write_fault : (old new : W) (told t : T) → part old told new (Ok t) → Contains (r.met t) 4 → Contains (r.met told) 4 ⊎ r.writes old new
  pub stops : (old new : W) (told : T) (e : E) → part old told new (Err e) → IsStop r old new e

-- Two simple kinds. No count moves in the first, and no status is met; it may want memory.
pub record IsQuiet {W T E : Type 0} (r : Rules W T E) (part : Part W T E) : Type 0 where
  pub counts : (old new : W) (told : T) (end : Result T E) → part old told new end → r.goes_on old new
  pub unfailed : (old new : W) (told t : T) → part old told new (Ok t) → r.unfailed old new
  pub same : (old new : W) (told t : T) → part old told new (Ok t) → r.met t ≡ r.met told
  pub stops : (old new : W) (told : T) (e : E) → part old told new (Err e) → r.stop e ≡ 7

-- The second writes, and tells where that failed: then a count of writes rose, and 4 is met; else no count moved.
pub record IsWriting {W T E : Type 0} (r : Rules W T E) (part : Part W T E) : Type 0 where
  pub counts : (old new : W) (told : T) (end : Result T E) → part old told new end → r.goes_on old new
  pub told_so : (old new : W) (told t : T) → part old told new (Ok t)
      → ((r.met t ≡ r.met told) × r.unfailed old new) ⊎ (r.writes old new × Contains (r.met t) 4 × ((status : ℕ) → 1 ≤ status → Contains (r.met told) status → Contains (r.met t) status) × ((status : ℕ) → Contains (r.met t) status → (status ≡ 0) ⊎ ((status ≡ 4) ⊎ Contains (r.met told) status)))
  pub stops : (old new : W) (told : T) (e : E) → part old told new (Err e) → r.stop e ≡ 7

-- ---- what a call owes by its status

-- the status of an end: of the first that was met, in the order in which they are told, or of the stop
abbrev pub status_told : {W T E : Type 0} → Rules W T E → Result T E → ℕ
status_told r (Ok t) = first_met told_order (r.met t)
status_told r (Err e) = r.stop e

-- What parts owe behind a beginning, by the status of their end: as what every command owes.
pub record Owes {W T E : Type 0} (r : Rules W T E) (part : Part W T E) (start : T) : Type 0 where
  pub counts : (old new : W) (end : Result T E) → part old start new end → r.goes_on old new
  pub unfailed : (old new : W) (end : Result T E) → part old start new end → status_told r end ≢ 3 → status_told r end ≢ 4 → status_told r end ≢ 7 → r.unfailed old new
  pub usage : (old new : W) (end : Result T E) → part old start new end → status_told r end ≡ 2 → ⊥
  pub no_input : (old new : W) (end : Result T E) → part old start new end → status_told r end ≡ 5 → ⊥
  pub read_fault : (old new : W) (end : Result T E) → part old start new end → status_told r end ≡ 3 → r.reads old new
  pub write_fault : (old new : W) (end : Result T E) → part old start new end → status_told r end ≡ 4 → r.writes old new
  -- any other status than 0 of what is told was met
  pub was_met : (t : T) (status : ℕ) → status_told r (Ok t) ≡ status → 1 ≤ status → Contains (r.met t) status
  -- where no session was refused and no log was full, and no count rose, the status is 0, 1 or 7
  pub complete : (old new : W) (end : Result T E) → part old start new end → (r.reads old new → ⊥) → (r.writes old new → ⊥)
      → ((t : T) → end ≡ Ok t → IsUnmet (r.met t) 6 × IsUnmet (r.met t) 8) → status_told r end ≢ 7 → status_told r end ≤ 1
