-- Links that came to a server, behind each of which those who watch were told.
use Rattle.std.proofs.Common.{◌≡◌, ℕ, List, [], ◌∷◌, ◌++◌, length, map, Option, Some, None, sym, ap, ◌∙◌, subst, arith}
use Rattle.std.proofs.lemmas.List.{length-map}
use Rattle.std.proofs.lemmas.Simd.{map-map}
use Rattle.willow_outside.specs.Counts.{one_more, CountsCause}
use Rattle.willow_outside.specs.Facts.{LinkFacts, DoorFacts}
use Rattle.willow_outside.specs.declared.fault.Fault.{Fault}
use Rattle.willow_outside.specs.declared.fault.Fault.TheVariants as fault
use Rattle.link_host.specs.Begun.{Begun, HaveLinks, IsAccepted, AreOver, beginning}
use Rattle.link_host.specs.Visits as hosts
use Rattle.link_host.proofs.Coming.{none_came_for}
use Rattle.peer_run.specs.Accepting.{AreReceived, CountsComing, LinksHaveCome}
use Rattle.peer_run.specs.Hall.{DoesVisit}
use Rattle.peer_run.specs.declared.hall.Guest.{Guest}
use Rattle.peer_run.specs.declared.hall.Hall.{Hall}
use Rattle.peer_run.specs.declared.hall.Parting.{Parting}

-- ---- no more links are asked for

module _ (guests : List Guest) (old : DoorFacts) where
  -- each guest had one
  pub all_had_links : (new : DoorFacts) (begun : List (Begun Guest)) (rest : List Guest) → HaveLinks guests old new begun rest → rest ≡ [] → LinksHaveCome guests old new begun rest None
  all_had_links new begun rest had none = record { guests_are = had.jobs_are; out = had.out; asked = had.asked; back = had.back; counted = ((none, had.faults), had.accepts) }

  -- memory was wanting behind one
  pub wanted_behind : (new : DoorFacts) (begun : List (Begun Guest)) (rest : List Guest) → HaveLinks guests old new begun rest → LinksHaveCome guests old new begun rest (Some fault.NoMemory)
  wanted_behind new begun rest had = record { guests_are = had.jobs_are; out = had.out; asked = had.asked; back = had.back; counted = had.faults }

  -- accepting one failed
  as_failed : (new : DoorFacts) (begun : List (Begun Guest)) (unused : List Guest) (why : Fault) → IsAccepted guests old new begun unused (Some why) → LinksHaveCome guests old new begun unused (Some why)
  as_failed new begun unused fault.Failed is = record { guests_are = is.jobs_are; out = is.out; asked = is.asked; back = is.back; counted = (is.stopped, is.accepts) }
  as_failed new begun unused fault.NoMemory is = record { guests_are = is.jobs_are; out = is.out; asked = is.asked; back = is.back; counted = is.stopped.1 }

  pub no_more_links : (mid new : DoorFacts) (begun : List (Begun Guest)) (rest left unused : List Guest) (job : Guest) (why : Fault) → HaveLinks guests old mid begun rest → rest ≡ job ∷ left → unused ≡ job ∷ left
      → new.accepts ≡ one_more mid.accepts → new.out ≡ mid.out → new.asked ≡ mid.asked → new.back ≡ mid.back → CountsCause mid.faults new.faults why
      → LinksHaveCome guests old new begun unused (Some why)
  no_more_links mid new begun rest left unused job why had next pushed accepts out asked back cause =
      subst (λ (gs : List Guest). LinksHaveCome guests old new begun gs (Some why)) (sym pushed)
      (as_failed new begun (job ∷ left) why (none_came_for guests old mid new begun rest left job why had next accepts out asked back cause))

-- ---- all visits are over

received : (hall : Hall) (guests : List Guest) (old new : DoorFacts) (begun : List (Begun Guest)) (partings : List Parting) (links : List LinkFacts) (unused : List Guest) (stopped : Option Fault)
    → LinksHaveCome guests old new begun unused stopped → AreOver (DoesVisit hall) begun links partings → AreReceived hall guests old new partings links unused stopped
received hall guests old new begun partings links unused stopped come over =
    let vs = over.visits in
    let jobs : map (λ (b : Begun Guest). b.job) begun ≡ map (λ (v : hosts.Visit Guest Parting). v.job) vs = ap (map (λ (b : Begun Guest). b.job)) (sym over.begun_are) ∙ map-map (λ (b : Begun Guest). b.job) beginning vs in
    let as_many : length begun ≡ length vs = ap length (sym over.begun_are) ∙ length-map vs beginning in
    record {
      visits = vs;
      each = over.each;
      guests_are = come.guests_are ∙ ap (λ (front : List Guest). front ++ unused) jobs;
      partings_are = sym over.partings_are;
      links_are = sym over.links_are;
      back = come.back;
      out = omega (arith, come.out, as_many);
      asked = come.asked;
      counted = subst (λ (n : ℕ). CountsComing old new n unused stopped) as_many come.counted;
    }

-- the same of the hall of the workers, and of the guests as they are listed behind that
pub received_as : (of hall : Hall) (guests unused left : List Guest) (old new : DoorFacts) (begun : List (Begun Guest)) (partings : List Parting) (links : List LinkFacts) (stopped : Option Fault) → of ≡ hall → left ≡ unused
    → LinksHaveCome guests old new begun unused stopped → AreOver (DoesVisit of) begun links partings → AreReceived hall guests old new partings links left stopped
received_as of hall guests unused left old new begun partings links stopped same listed come over =
    received hall guests old new begun partings links left stopped (subst (λ (gs : List Guest). LinksHaveCome guests old new begun gs stopped) (sym listed) come)
    (subst (λ (h : Hall). AreOver (DoesVisit h) begun links partings) same over)
