-- What comes of links that are accepted for several jobs.
use Rattle.std.specs.Prelude.{◌≡◌, ℕ, ◌+◌, ◌<◌, zero, suc, List, [], ◌++◌, length, map, All, Result, Ok, Err, Some, None}
use Rattle.std.specs.Option.{option_map}
use Rattle.std.specs.declared.option.Option.{Option}
use Rattle.spelling.specs.declared.ending.NoMemory.{NoMemory}
use Rattle.willow_outside.specs.Counts.{CountsCause, many_more}
use Rattle.willow_outside.specs.Facts.{LinkFacts, DoorFacts}
use Rattle.willow_outside.specs.declared.fault.Fault.{Fault}
use Rattle.link_host.specs.Visits.{Visit, IsVisit}
use Rattle.link_host.specs.declared.hosting.Hosted.{Hosted}

-- a told list grew by these, in order
abbrev pub list_with_all : {A : Type 0} → List A → Option (List A) → Option (List A)
list_with_all more told = option_map (λ xs. xs ++ more) told

-- a count of faults stays where each job had its link; where a fault left some jobs without, it moves as the fault says
abbrev pub CountsStop : {J : Type 0} → ℕ → ℕ → List J → Option Fault → Type 0
CountsStop before now unused None = (unused ≡ []) × (now ≡ before)
CountsStop before now unused (Some fault) = (0 < length unused) × CountsCause before now fault

-- how many accepts were made where these links came: one for each, and one more where a fault stopped them
abbrev pub accepts_made : ℕ → Option Fault → ℕ
accepts_made came None = came
accepts_made came (Some fault) = came + 1

-- a count behind so many accepts, where none leaves it
abbrev pub counted_on : ℕ → ℕ → ℕ
counted_on zero count = count
counted_on (suc more) count = many_more (suc more) count

module _ {J P : Type 0} (does : J → LinkFacts → P → LinkFacts → Type 0) (jobs : List J) (old new : DoorFacts) where
  -- The first jobs had a visit each, in order, and the others are unused. Each visit's link is back, in the same order.
  -- One accept was made for each link that came, and no further one behind an accept that failed.
  pub record IsHosted (x : Hosted J P) : Type 0 where
    pub visits : List (Visit J P)
    pub each : All (IsVisit does) visits
    pub jobs_are : jobs ≡ map (λ v. v.job) visits ++ x.unused.items
    pub partings_are : x.partings.items ≡ map (λ v. v.parting) visits
    pub back : new.back ≡ list_with_all (map (λ v. v.link) visits) old.back
    pub out : new.out ≡ old.out
    pub accepts : new.accepts ≡ counted_on (accepts_made (length visits) x.stopped) old.accepts
    pub asked : new.asked ≡ old.asked
    pub stopped : CountsStop old.faults new.faults x.unused.items x.stopped

  -- this is so of what a host did; where it found no memory, the door is as it was
  abbrev pub Hosts : Result (Hosted J P) NoMemory → Type 0
  Hosts (Ok x) = IsHosted x
  Hosts (Err e) = new ≡ old
