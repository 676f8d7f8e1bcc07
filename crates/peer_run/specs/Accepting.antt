-- Links that are accepted by a server, and what came of all of them.
use Rattle.std.specs.Prelude.{◌≡◌, ℕ, ◌+◌, List, ◌++◌, length, map, All, Some}
use Rattle.std.specs.declared.option.Option.{Option}
use Rattle.willow_outside.specs.Facts.{LinkFacts, DoorFacts}
use Rattle.willow_outside.specs.declared.fault.Fault.{Fault}
use Rattle.willow_outside.specs.declared.fault.Fault.TheVariants as fault
use Rattle.link_host.specs.Begun.{Begun}
use Rattle.link_host.specs.Visits as hosts
use Rattle.link_host.specs.Hosted.{CountsStop, accepts_made, counted_on}
use Rattle.auth_entry.specs.Authorised.{AuthorisedValue}
use Rattle.ns_cell.specs.Passes.{PassValue, IsLater}
use Rattle.peer_run.specs.Hall.{DoesVisit}
use Rattle.peer_run.specs.declared.hall.Guest.{Guest}
use Rattle.peer_run.specs.declared.hall.Hall.{Hall}
use Rattle.peer_run.specs.declared.hall.Parting.{Parting}

-- Where so many links came and these guests had none: an accept failed, or each guest had its link, and the door counted that. Where
-- memory was wanting, for a link or behind one, no fault of the door was met.
abbrev pub CountsComing : DoorFacts → DoorFacts → ℕ → List Guest → Option Fault → Type 0
CountsComing old new came unused (Some fault.NoMemory) = new.faults ≡ old.faults
CountsComing old new came unused stopped = CountsStop old.faults new.faults unused stopped × (new.accepts ≡ counted_on (accepts_made came stopped) old.accepts)

-- Each of the first guests had a link that came, and no more links are asked for: one more accept was made only where one failed.
pub record LinksHaveCome (guests : List Guest) (old new : DoorFacts) (begun : List (Begun Guest)) (unused : List Guest) (stopped : Option Fault) : Type 0 where
  pub guests_are : guests ≡ map (λ (b : Begun Guest). b.job) begun ++ unused
  pub out : new.out ≡ old.out + length begun
  pub asked : new.asked ≡ old.asked
  pub back : new.back ≡ old.back
  pub counted : CountsComing old new (length begun) unused stopped

-- The first guests had a visit each, in order, and the others are unused. Each visit is over, and its link is here, in the same order.
pub record AreReceived (hall : Hall) (guests : List Guest) (old new : DoorFacts) (partings : List Parting) (links : List LinkFacts) (unused : List Guest) (stopped : Option Fault) : Type 0 where
  pub visits : List (hosts.Visit Guest Parting)
  pub each : All (hosts.IsVisit (DoesVisit hall)) visits
  pub guests_are : guests ≡ map (λ (v : hosts.Visit Guest Parting). v.job) visits ++ unused
  pub partings_are : partings ≡ map (λ (v : hosts.Visit Guest Parting). v.parting) visits
  pub links_are : links ≡ map (λ (v : hosts.Visit Guest Parting). v.link) visits
  pub back : new.back ≡ old.back
  pub out : new.out ≡ old.out + length visits
  pub asked : new.asked ≡ old.asked
  pub counted : CountsComing old new (length visits) unused stopped

-- the pass may have seen more, and stored nothing
pub record HasOnlyRead (before after : PassValue AuthorisedValue) : Type 0 where
  pub later : IsLater before after
  pub own : after.own ≡ before.own
