-- Visits that are begun, and how the door stands while they are made.
use Rattle.std.specs.Prelude.{◌≡◌, ℕ, ◌+◌, List, [], ◌∷◌, ◌++◌, length, map, All, Result, Ok, Err}
use Rattle.std.specs.declared.option.Option.{Option}
use Rattle.willow_outside.specs.Counts.{CountsCause}
use Rattle.willow_outside.specs.Facts.{LinkFacts, DoorFacts}
use Rattle.willow_outside.specs.Links.{IsFresh}
use Rattle.willow_outside.specs.declared.fault.Fault.{Fault}
use Rattle.link_host.specs.Visits.{Visit, IsVisit}
use Rattle.link_host.specs.Hosted.{CountsStop, accepts_made, counted_on, list_with_all}
use Rattle.link_host.specs.declared.no_link.NoLink.{NoLink}

-- a visit that was begun: its job, and the link as it was handed out
pub record Begun (J : Type 0) : Type 0 where
  pub job : J
  pub handed_out : LinkFacts

-- what workers are to those who call them: the host, the visits begun, in order, and how many more there is room for
pub record WorkersValue (H J : Type 0) : Type 0 where
  pub host : H
  pub begun : List (Begun J)
  pub room : ℕ

-- a link came for the job, and was as new: its visit is begun. Where none came, the job is back, and nothing is begun.
abbrev pub Begins : {H J : Type 0} → J → WorkersValue H J → WorkersValue H J → Result (Unit {0}) (NoLink J) → Type 0
Begins job old new (Ok u) =
    (link : LinkFacts) × IsFresh link × (new.host ≡ old.host) × (new.begun ≡ old.begun ++ record { job = job; handed_out = link } ∷ []) × (new.room + 1 ≡ old.room)
Begins job old new (Err e) = (e.job ≡ job) × (new ≡ old)

-- a count of faults stays where a link came, and else moves as the fault says
abbrev pub CountsRefusal : {A J : Type 0} → ℕ → ℕ → Result A (NoLink J) → Type 0
CountsRefusal before now (Ok x) = now ≡ before
CountsRefusal before now (Err e) = CountsCause before now e.fault

module _ {J : Type 0} (jobs : List J) (old new : DoorFacts) (begun : List (Begun J)) where
  -- each of the first jobs had a link that came for it, and no accept failed; these are left
  pub record HaveLinks (left : List J) : Type 0 where
    pub jobs_are : jobs ≡ map (λ b. b.job) begun ++ left
    pub out : new.out ≡ old.out + length begun
    pub accepts : new.accepts ≡ counted_on (length begun) old.accepts
    pub asked : new.asked ≡ old.asked
    pub back : new.back ≡ old.back
    pub faults : new.faults ≡ old.faults

  -- no more links are asked for: each job had one, or an accept failed, which was the last
  pub record IsAccepted (unused : List J) (why : Option Fault) : Type 0 where
    pub jobs_are : jobs ≡ map (λ b. b.job) begun ++ unused
    pub out : new.out ≡ old.out + length begun
    pub accepts : new.accepts ≡ counted_on (accepts_made (length begun) why) old.accepts
    pub asked : new.asked ≡ old.asked
    pub back : new.back ≡ old.back
    pub stopped : CountsStop old.faults new.faults unused why

-- the beginning of a visit
abbrev pub beginning : {J P : Type 0} → Visit J P → Begun J
beginning v = record { job = v.job; handed_out = v.handed_out }

-- each visit that was begun is over, in order: it left its link so, and handed this on
pub record AreOver {J P : Type 0} (does : J → LinkFacts → P → LinkFacts → Type 0) (begun : List (Begun J)) (links : List LinkFacts) (partings : List P) : Type 0 where
  pub visits : List (Visit J P)
  pub each : All (IsVisit does) visits
  pub begun_are : map beginning visits ≡ begun
  pub partings_are : map (λ v. v.parting) visits ≡ partings
  pub links_are : map (λ v. v.link) visits ≡ links

-- these links were given back, in order
pub record AreGivenBack (links : List LinkFacts) (old new : DoorFacts) : Type 0 where
  pub back : new.back ≡ list_with_all links old.back
  pub out : new.out + length links ≡ old.out
  pub accepts : new.accepts ≡ old.accepts
  pub asked : new.asked ≡ old.asked
  pub faults : new.faults ≡ old.faults

-- each visit that was begun is over, in order, and its link is back
pub record AreVisited {J P : Type 0} (does : J → LinkFacts → P → LinkFacts → Type 0) (begun : List (Begun J)) (partings : List P) (old new : DoorFacts) : Type 0 where
  pub visits : List (Visit J P)
  pub each : All (IsVisit does) visits
  pub begun_are : map beginning visits ≡ begun
  pub partings_are : map (λ v. v.parting) visits ≡ partings
  pub back : new.back ≡ list_with_all (map (λ v. v.link) visits) old.back
  pub out : new.out + length begun ≡ old.out
  pub accepts : new.accepts ≡ old.accepts
  pub asked : new.asked ≡ old.asked
  pub faults : new.faults ≡ old.faults
