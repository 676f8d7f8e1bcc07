-- What one visit of a server is: a session over its link, with the pass, the signer and the nonce of its guest.
use Rattle.std.specs.Prelude.{◌≡◌, ◌≤◌, ℕ, ◌+◌, Bool, true, false, List, ◌∷◌, length, map, All, Option, Some, None, Result, Ok, Err}
use Rattle.willow_outside.specs.Counts.{HasRisen}
use Rattle.willow_outside.specs.Facts.{LinkFacts, DoorFacts}
use Rattle.willow_outside.specs.Links.{list_with}
use Rattle.willow_outside.specs.declared.fault.Fault.{Fault}
use Rattle.willow_outside.specs.declared.fault.Fault.TheVariants as fault
use Rattle.auth_entry.specs.Authorised.{AuthorisedValue}
use Rattle.lms_core.specs.Use.{peer_rules}
use Rattle.lms_core.specs.declared.scheme.PeerScheme.{PeerScheme}
use Rattle.ns_state.specs.Log.{StateValue, IsLog}
use Rattle.ns_cell.specs.Closed.{IsClosed}
use Rattle.ns_cell.specs.Passes.{IsPassOf, new_passes}
use Rattle.sync_hello.specs.Checked.{hello_refusal}
use Rattle.sync_core.specs.SyncRules.{IsVersion}
use Rattle.auth_entry.specs.Rows.{entry_row}
use Rattle.sync_link.specs.Plans.{own_hello, planned}
use Rattle.sync_link.specs.Run.{Runs}
use Rattle.sync_link.specs.declared.plan.SessionPlan.{SessionPlan}
use Rattle.peer_make.specs.KeySigners.{gives_of, left_of}
use Rattle.peer_make.specs.declared.key_signer.KeySigner.{KeySigner}
use Rattle.peer_stage.specs.declared.outcome.Stop.{Stop}
use Rattle.peer_stage.specs.declared.outcome.Stop.TheVariants as stop
use Rattle.peer_run.specs.Calling.{IsUnasked}
use Rattle.peer_run.specs.Preparing.{nonce_of}
use Rattle.peer_run.specs.declared.behind.Behind.{Behind}
use Rattle.peer_run.specs.declared.hosting.Attended.{Attended}
use Rattle.peer_run.specs.declared.hall.Guest.{Guest}
use Rattle.peer_run.specs.declared.hall.Hall.{Hall}
use Rattle.peer_run.specs.declared.hall.Parting.{Parting}
use Rattle.peer_run.specs.declared.hosting.Room.{Room}

-- The hall has this plan, and a cell of this log with one pass more than there are signers. The own pass is the first of these,
-- and each guest has the next one, a signer, and the nonce of a draw, in order.
pub record IsRoom (state : StateValue AuthorisedValue) (plan : SessionPlan PeerScheme) (signers : List KeySigner) (draws : List (List ℕ)) (room : Room) : Type 0 where
  pub plan_is : room.hall.plan ≡ plan
  pub own_namespace : room.hall.namespace ≡ room.hall.cell.namespace
  pub of_namespace : room.hall.cell.namespace ≡ state.namespace
  pub as_many : room.hall.cell.passes ≡ 1 + length signers
  pub passes_are : room.own ∷ map (λ (guest : Guest). guest.pass) room.guests.items ≡ new_passes room.hall.cell state.log 0 (1 + length signers)
  pub of_cell : All (IsPassOf room.hall.cell) (room.own ∷ map (λ (guest : Guest). guest.pass) room.guests.items)
  pub signers_are : map (λ (guest : Guest). guest.signer) room.guests.items ≡ signers
  pub nonces_are : map (λ (guest : Guest). guest.nonce) room.guests.items ≡ map nonce_of draws

-- The guest may begin a session: its pass is of the cell, nothing is against the hello that it says, of a version that is
-- spoken, and it can sign.
pub record MayVisit (hall : Hall) (guest : Guest) : Type 0 where
  pub pass : IsPassOf hall.cell guest.pass
  pub namespace : hall.namespace ≡ hall.cell.namespace
  pub hello : hello_refusal peer_rules hall.cell.namespace (own_hello hall.plan guest.nonce) ≡ None
  pub version : IsVersion hall.plan.version
  pub signs : 1 ≤ left_of guest.signer

-- One session was run over the link, and hands on the pass of the guest.
pub record DoesVisit (hall : Hall) (guest : Guest) (handed_out : LinkFacts) (parting : Parting) (link : LinkFacts) : Type 0 where
  pub ran : Runs (planned peer_rules hall.cell.namespace hall.plan guest.nonce) (gives_of guest.signer) guest.pass parting.pass handed_out link 0 0 parting.end
  pub pass : IsPassOf hall.cell parting.pass

-- how a place is listened at
abbrev pub Listens : List ℕ → DoorFacts → DoorFacts → Result (Unit {0}) Stop → Type 0
Listens place old new (Ok u) = (new.asked ≡ list_with place old.asked) × (new.out ≡ old.out) × (new.back ≡ old.back) × (new.faults ≡ old.faults) × (new.accepts ≡ old.accepts)
Listens place old new (Err stop.ReadFault) = IsUnasked old new × HasRisen old.faults new.faults
Listens place old new (Err stop.NoMemory) = IsUnasked old new × (new.faults ≡ old.faults)
Listens place old new (Err e) = ⊥

-- ---- behind all visits

-- each guest had its link, or accepting one failed
abbrev pub IsAccepted : Option Fault → Bool → Type 0
IsAccepted None true = Unit {0}
IsAccepted (Some fault.Failed) false = Unit {0}
IsAccepted stopped all_came = ⊥

-- The cell is closed with all passes: this is its log, and so the visits ended, and what followed them.
pub record HasLeft (hall : Hall) (behind : Behind) (x : Attended) : Type 0 where
  pub ends : x.ends.items ≡ behind.ends.items
  pub tails : x.tails.items ≡ behind.tails.items
  pub accepts : IsAccepted behind.stopped x.all_came
  pub closed : IsClosed behind.passes.items x.state.log
  pub is_log : IsLog entry_row hall.cell.namespace x.state.log
  pub of_namespace : x.state.namespace ≡ hall.cell.namespace

-- how the hall is left: memory was wanting where accepting a link told so, and nowhere else
abbrev pub Leaves : Hall → Behind → Result Attended Stop → Type 0
Leaves hall behind (Ok x) = HasLeft hall behind x
Leaves hall behind (Err stop.NoMemory) = behind.stopped ≡ Some fault.NoMemory
Leaves hall behind (Err e) = ⊥
