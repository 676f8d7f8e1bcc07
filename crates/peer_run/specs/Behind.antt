-- What is done behind all visits of a server: the links are fed, where they are to be, and given back.
use Rattle.std.specs.Prelude.{◌≡◌, ℕ, ◌<◌, ◌≤◌, Bool, List, [], ◌∷◌, ◌++◌, length, map, get_or, vec_capacity}
use Rattle.willow_outside.specs.Facts.{LinkFacts, DoorFacts}
use Rattle.link_host.specs.Begun.{AreGivenBack}
use Rattle.willow_entry.specs.declared.row.LogRow.{LogRow}
use Rattle.auth_entry.specs.Authorised.{AuthorisedValue}
use Rattle.ns_cell.specs.Closed.{IsClosed}
use Rattle.ns_cell.specs.Passes.{PassValue}
use Rattle.peer_run.specs.Accepting.{HasOnlyRead}
use Rattle.peer_run.specs.Feeding.{AreFed, HasSeenOpening}
use Rattle.peer_run.specs.declared.behind.Behind.{Behind}
use Rattle.peer_run.specs.declared.behind.Lists.{Lists}
use Rattle.peer_run.specs.declared.hall.Guest.{Guest}
use Rattle.peer_run.specs.declared.hall.Parting.{Parting}

-- the lists are empty, and there is room for so many guests
pub record AreEmpty (guests : ℕ) (lists : Lists) : Type 0 where
  pub passes : (lists.passes.items ≡ []) × (guests < vec_capacity lists.passes)
  pub others : (lists.others.items ≡ []) × (guests ≤ vec_capacity lists.others)
  pub ends : (lists.ends.items ≡ []) × (guests ≤ vec_capacity lists.ends)
  pub tails : (lists.tails.items ≡ []) × (guests ≤ vec_capacity lists.tails)

-- the pass of a visit has seen the log with which its session began, where that was done
abbrev pub HasSeenOwn : Parting → Type 0
HasSeenOwn parting = HasSeenOpening parting.pass parting.end

-- these passes may have seen more, and stored nothing
pub record HaveOnlyRead (olds news : List (PassValue AuthorisedValue)) : Type 0 where
  pub as_many : length news ≡ length olds
  pub each : (at : ℕ) (old new : PassValue AuthorisedValue) → at < length olds → HasOnlyRead (get_or olds at old) (get_or news at new)

-- The passes are the own one and those that the visits handed on and that had none, each of which may have seen more. The links
-- were given back, in order. Whatever the log is with which all these passes are closed, the links were fed of it, where they
-- were to be.
pub record AreBehind (feeds : Bool) (own : PassValue AuthorisedValue) (partings : List Parting) (unused : List Guest) (links : List LinkFacts) (old new : DoorFacts) (x : Behind) : Type 0 where
  pub own_now : PassValue AuthorisedValue
  pub others : List (PassValue AuthorisedValue)
  pub passes : x.passes.items ≡ own_now ∷ others
  pub own_read : HasOnlyRead own own_now
  pub others_read : HaveOnlyRead (map (λ (parting : Parting). parting.pass) partings ++ map (λ (guest : Guest). guest.pass) unused) others
  pub ends : x.ends.items ≡ map (λ (parting : Parting). parting.end) partings
  pub links_now : List LinkFacts
  pub given_back : AreGivenBack links_now old new
  pub as_many : (length links_now ≡ length links) × (length x.tails.items ≡ length links)
  pub fed : (log : List (LogRow AuthorisedValue)) → IsClosed x.passes.items log → AreFed feeds log 1 x.ends.items links links_now x.tails.items
