-- Which calls of an object in memory are to fail, and what each call answers by it.
use Rattle.std.specs.Prelude.{◌≡◌, ℕ, ◌<◌, Bool, true, false, nat_eq, cond, List, [], ◌∷◌, length, ◌⊎◌, Result, Ok, Err}
use Rattle.std.specs.List.{list_any}
use Rattle.std.specs.Option.{option_map}
use Rattle.std.specs.declared.option.Option.{Option}
use Rattle.willow_outside.specs.declared.fault.Fault.{Fault}
use Rattle.willow_outside.specs.declared.fault.Fault.TheVariants.{Failed, NoMemory}
use Rattle.willow_outside.specs.Counts.{one_more}
use Rattle.willow_outside.specs.Facts.{Names}
use Rattle.willow_outside.specs.Names.{name_put}

-- the numbers of the calls that are to fail, counted from 1, and how many calls came
pub record Plan : Type 0 where
  pub fails : List ℕ
  pub calls : ℕ

-- no call came yet
abbrev pub plan_of : List ℕ → Plan
plan_of fails = record { fails = fails; calls = 0 }

-- one more call came
abbrev pub called : Plan → Plan
called plan = record { fails = plan.fails; calls = one_more plan.calls }

-- whether the next call is to fail
abbrev pub fails_next : Plan → Bool
fails_next plan = list_any (λ n. nat_eq n (one_more plan.calls)) plan.fails

-- what the next call answers that takes no memory: Failed where it is to fail, and else this
abbrev pub planned : {A : Type 0} → Plan → A → Result A Fault
planned plan answer = cond (fails_next plan) (Err Failed) (Ok answer)

-- the next draw: none fails as a call does that is to fail
abbrev pub planned_draw : Plan → List (List ℕ) → Result (List ℕ) Fault
planned_draw plan [] = Err Failed
planned_draw plan (words ∷ more) = planned plan words

-- the next call fails exactly where it is to; want of memory comes only where it is not
abbrev pub IsPlanned : {A : Type 0} → Plan → Result A Fault → Type 0
IsPlanned plan (Ok x) = fails_next plan ≡ false
IsPlanned plan (Err Failed) = fails_next plan ≡ true
IsPlanned plan (Err NoMemory) = fails_next plan ≡ false

-- the next call is a put, which leaves the new bytes where it is to fail
abbrev pub PutsPlanned : Plan → Option Names → Option Names → List ℕ → List ℕ → Result (Unit {0}) Fault → Type 0
PutsPlanned plan old new name bytes (Ok u) = fails_next plan ≡ false
PutsPlanned plan old new name bytes (Err Failed) = (fails_next plan ≡ true) × (new ≡ option_map (name_put name bytes) old)
PutsPlanned plan old new name bytes (Err NoMemory) = new ≡ old

-- the next call hands out the first link; it fails exactly where it is to or where there is none
abbrev pub HandsOutPlanned : {L : Type 0} → Plan → List L → List L → Result L Fault → Type 0
HandsOutPlanned plan old new (Ok link) = (fails_next plan ≡ false) × (old ≡ link ∷ new)
HandsOutPlanned plan old new (Err Failed) = ((fails_next plan ≡ true) ⊎ (old ≡ [])) × (new ≡ old)
HandsOutPlanned plan old new (Err NoMemory) = (fails_next plan ≡ false) × (0 < length old) × (new ≡ old)
