-- The visits of a server's guests, as the sessions of all links over one log.
use Rattle.std.proofs.Common.{◌≡◌, ℕ, zero, suc, ◌+◌, ◌≤◌, Bool, true, false, List, [], ◌∷◌, ◌++◌, length, map, get_or, drop, inl, inr, refl, sym, ap, ◌∙◌, subst, arith}
use Rattle.std.specs.Prelude.{Result, Ok, Err, IfOk, IfErr, Option, Some, None}
use Rattle.std.specs.List.{All, AllByRecursion}
use Rattle.std.proofs.lemmas.List.{length-map}
use Rattle.std.proofs.lemmas.List.Elements.{All-from_recursion, recursion_from_All}
use mathlib.Core.List.{IsPrefix}
use Rattle.spelling.proofs.Lists.{All-append, All-left}
use Rattle.willow_outside.specs.Counts.{HasRisen}
use Rattle.willow_outside.specs.Facts.{LinkFacts, DoorFacts}
use Rattle.willow_outside.specs.declared.fault.Fault.{Fault}
use Rattle.willow_outside.specs.declared.fault.Fault.TheVariants as fault
use Rattle.link_host.specs.Visits as hosts
use Rattle.link_host.specs.Hosted.{counted_on, list_with_all}
use Rattle.willow_entry.specs.declared.row.LogRow.{LogRow}
use Rattle.auth_entry.specs.Authorised.{AuthorisedValue}
use Rattle.log_rule.specs.Views.{rows_of_pass, AreOf}
use Rattle.log_rule.proofs.Books.{rows_of_pass-other}
use Rattle.log_rule.proofs.Prefixes.{prefix_trans}
use Rattle.sub_hub.specs.Hubs.{HubValue, IsPumped}
use Rattle.lms_core.specs.Use.{peer_rules}
use Rattle.lms_core.specs.declared.scheme.PeerScheme.{PeerScheme}
use Rattle.ns_state.specs.Log.{StateValue, IsLog}
use Rattle.ns_cell.specs.Closed.{IsClosed}
use Rattle.ns_cell.specs.Passes.{CellValue, PassValue, new_pass, new_passes}
use Rattle.willow_area.specs.declared.area.Area.{Area}
use Rattle.auth_entry.specs.Rows.{entry_row}
use Rattle.sync_link.specs.Kept.{log_rows}
use Rattle.sync_link.specs.Plans.{planned}
use Rattle.sync_link.specs.Run.{Answer, Runs}
use Rattle.sync_link.specs.Sessions.{Party}
use Rattle.sync_link.specs.declared.plan.SessionPlan.{SessionPlan}
use Rattle.call_rules.specs.Visits.{AreVisits}
use Rattle.peer_make.specs.KeySigners.{gives_of}
use Rattle.peer_make.specs.declared.key_signer.KeySigner.{KeySigner}
use Rattle.peer_stage.specs.declared.outcome.Stop.{Stop}
use Rattle.peer_stage.specs.declared.outcome.Stop.TheVariants as stop
use Rattle.peer_run.specs.Accepting.{AreReceived, CountsComing, HasOnlyRead}
use Rattle.peer_run.specs.Behind.{AreBehind, HaveOnlyRead}
use Rattle.peer_run.specs.Feeding.{AreFed, FeedsBehind}
use Rattle.peer_run.specs.Hall.{DoesVisit, HasLeft, IsAccepted, Leaves, Listens}
use Rattle.peer_run.specs.Hearing.{HaveHeardSeen, hub_opened}
use Rattle.peer_run.specs.Preparing.{nonce_of}
use Rattle.peer_run.specs.Visiting.{Way, Visit, IsVisit, IsShared, Accepts, AreAttended, AreBack, Attends}
use Rattle.peer_run.specs.declared.behind.Behind.{Behind}
use Rattle.peer_run.specs.declared.hosting.Attended.{Attended}
use Rattle.peer_run.specs.declared.hall.Guest.{Guest}
use Rattle.peer_run.specs.declared.hall.Hall.{Hall}
use Rattle.peer_run.specs.declared.hall.Parting.{Parting}
use Rattle.peer_run.specs.declared.tails.Tail.{Tail}
use Rattle.peer_run.proofs.HeardBehind.{server_heard, server_stops, unwanted}
use Rattle.peer_run.proofs.ReadPasses.{held_before, holds_on, read_twice}
use Rattle.peer_run.proofs.SharedLog.{heads, tails, never_empty, IsLowOrEmpty, low_numbers, later_own, none_own}

-- ---- the parts of guests, partings and visits

abbrev pub Passes : Type 0
Passes = List (PassValue AuthorisedValue)

abbrev Log : Type 0
Log = List (LogRow AuthorisedValue)

-- a visit of a host
abbrev pub Hosting : Type 0
Hosting = hosts.Visit Guest Parting

abbrev pub passes_of : List Guest → Passes
passes_of guests = map (λ (g : Guest). g.pass) guests

abbrev pub signers_of : List Guest → List KeySigner
signers_of guests = map (λ (g : Guest). g.signer) guests

abbrev pub nonces_of : List Guest → List (List ℕ)
nonces_of guests = map (λ (g : Guest). g.nonce) guests

abbrev pub jobs_of : List Hosting → List Guest
jobs_of visits = map (λ (v : Hosting). v.job) visits

abbrev pub partings_of : List Hosting → List Parting
partings_of visits = map (λ (v : Hosting). v.parting) visits

abbrev pub handed_on : List Parting → Passes
handed_on partings = map (λ (p : Parting). p.pass) partings

-- it as the session of a link, which was left so behind all
abbrev visit_of : Hosting → LinkFacts → Tail → Visit
visit_of v link tail = record { handed_out = v.handed_out; behind = v.link; link = link; before = v.job.pass; between = v.parting.pass; after = v.parting.pass; answer = v.parting.end; tail = tail }

abbrev visits_of : List Hosting → List LinkFacts → List Tail → List Visit
visits_of (v ∷ vs) (link ∷ links) (tail ∷ tails) = visit_of v link tail ∷ visits_of vs links tails
visits_of vs links tails = []

-- how they ended, and their links behind them
abbrev ends_of : List Hosting → List Answer
ends_of visits = map (λ (p : Parting). p.end) (partings_of visits)

abbrev left_of : List Hosting → List LinkFacts
left_of visits = map (λ (v : Hosting). v.link) visits

-- ---- feeds, one by one

abbrev FedEach : Bool → Log → ℕ → List Hosting → List LinkFacts → List Tail → Type 0
FedEach feeds log number (v ∷ vs) (link ∷ links) (tail ∷ tails) = FeedsBehind feeds log number v.parting.end v.link link tail × FedEach feeds log (number + 1) vs links tails
FedEach feeds log number [] [] [] = Unit {0}
FedEach feeds log number vs links tails = ⊥

fed_each : (feeds : Bool) (log : Log) (number : ℕ) (vs : List Hosting) (links : List LinkFacts) (tails : List Tail) → length links ≡ length vs → length tails ≡ length vs → AreFed feeds log number (ends_of vs) (left_of vs) links tails → FedEach feeds log number vs links tails
fed_each feeds log number [] [] [] same many fed = tt
fed_each feeds log number [] [] (tail ∷ tails) same many fed = absurd (omega (arith, many))
fed_each feeds log number [] (link ∷ links) tails same many fed = absurd (omega (arith, same))
fed_each feeds log number (v ∷ vs) [] tails same many fed = absurd (omega (arith, same))
fed_each feeds log number (v ∷ vs) (link ∷ links) [] same many fed = absurd (omega (arith, many))
fed_each feeds log number (v ∷ vs) (link ∷ links) (tail ∷ tails) same many fed =
    let first : number + 0 ≡ number = omega arith in (
      subst (λ (n : ℕ). FeedsBehind feeds log n v.parting.end v.link link tail) first (fed zero v.parting.end v.link link tail (omega arith)),
      fed_each feeds log (number + 1) vs links tails (omega (arith, same)) (omega (arith, many)) (λ k answer old new t within.
          let next : number + suc k ≡ number + 1 + k = omega arith in
          subst (λ (n : ℕ). FeedsBehind feeds log n (get_or (ends_of vs) k answer) (get_or (left_of vs) k old) (get_or links k new) (get_or tails k t)) next (fed (suc k) answer old new t (omega (arith, within)))),
    )

module _ (hall : Hall) (opening log : Log) where
  abbrev party : List ℕ → List ℕ → Party
  party draw = planned peer_rules hall.cell.namespace hall.plan (nonce_of draw)

  abbrev IsOne : Hosting → Type 0
  IsOne = hosts.IsVisit (DoesVisit hall)

  abbrev IsFront : PassValue AuthorisedValue → Type 0
  IsFront pass = IsPrefix pass.seen log

  abbrev HasOwn : PassValue AuthorisedValue → Type 0
  HasOwn pass = rows_of_pass pass.number log ≡ pass.own

  -- the passes of those that visited and of the others are new ones, from this number on
  abbrev AreNew : List Hosting → List Guest → ℕ → ℕ → Type 0
  AreNew visits unused number count = passes_of (jobs_of visits ++ unused) ≡ new_passes hall.cell opening number count

  -- ---- one visit

  is_visit : AreOf 0 opening → (feeds : Bool) (number : ℕ) (draw : List ℕ) (v : Hosting) (link : LinkFacts) (tail : Tail) → 1 ≤ number → v.job.pass ≡ new_pass hall.cell opening number → v.job.nonce ≡ nonce_of draw → IsOne v → IsFront v.parting.pass
      → HasOwn v.parting.pass → FeedsBehind feeds log number v.parting.end v.link link tail → IsVisit true feeds opening log party number v.job.signer draw (visit_of v link tail)
  is_visit of_first feeds number draw v link tail later is nonce one front own fed =
      record {
        fresh = one.fresh;
        begun = (ap (λ (p : PassValue AuthorisedValue). p.seen) is, ap (λ (p : PassValue AuthorisedValue). p.own) is ∙ later_own number opening later ∙ sym (rows_of_pass-other number 0 opening (λ e. omega (arith, e, later)) of_first));
        unturned = ap (λ (p : PassValue AuthorisedValue). p.turns) is;
        ran =
            subst (λ (n : List ℕ). Runs (planned peer_rules hall.cell.namespace hall.plan n) (gives_of v.job.signer) v.job.pass v.parting.pass v.handed_out v.link 0 0 v.parting.end) nonce
            one.did.ran;
        by_byte = λ called. absurd cc;
        followed = record { fed = fed; same_pass = refl };
        front = front;
        own = sym own ∙ ap (λ (n : ℕ). rows_of_pass n log) (one.did.ran.later.number ∙ ap (λ (p : PassValue AuthorisedValue). p.number) is);
      }

  -- ---- all of them

  are_visits : AreOf 0 opening → (feeds : Bool) (number count : ℕ) (visits : List Hosting) (links : List LinkFacts) (tails_are : List Tail) (unused : List Guest) (draws : List (List ℕ)) → 1 ≤ number → AreNew visits unused number count
      → nonces_of (jobs_of visits ++ unused) ≡ map nonce_of draws → AllByRecursion IsOne visits → AllByRecursion IsFront (handed_on (partings_of visits)) → AllByRecursion HasOwn (handed_on (partings_of visits)) → FedEach feeds log number visits links tails_are
      → AreVisits (IsVisit true feeds opening log party) number (signers_of (jobs_of visits ++ unused)) draws (visits_of visits links tails_are)
  are_visits of_first feeds number count [] links tails_are unused draws later passes nonces each fronts own fed = tt
  are_visits of_first feeds number count (v ∷ vs) [] tails_are unused draws later passes nonces each fronts own fed = absurd fed
  are_visits of_first feeds number count (v ∷ vs) (link ∷ links) [] unused draws later passes nonces each fronts own fed = absurd fed
  are_visits of_first feeds number zero (v ∷ vs) (link ∷ links) (t ∷ ts) unused draws later passes nonces each fronts own fed = absurd (never_empty v.job.pass (passes_of (jobs_of vs ++ unused)) passes)
  are_visits of_first feeds number (suc count) (v ∷ vs) (link ∷ links) (t ∷ ts) unused [] later passes nonces each fronts own fed = absurd (never_empty v.job.nonce (nonces_of (jobs_of vs ++ unused)) nonces)
  are_visits of_first feeds number (suc count) (v ∷ vs) (link ∷ links) (t ∷ ts) unused (draw ∷ draws) later passes nonces each fronts own fed =
      let others = jobs_of vs ++ unused in
      let first = heads v.job.pass (new_pass hall.cell opening number) (passes_of others) (new_passes hall.cell opening (number + 1) count) passes in
      let rest = tails v.job.pass (new_pass hall.cell opening number) (passes_of others) (new_passes hall.cell opening (number + 1) count) passes in
      let nonce = heads v.job.nonce (nonce_of draw) (nonces_of others) (map nonce_of draws) nonces in
      let more = tails v.job.nonce (nonce_of draw) (nonces_of others) (map nonce_of draws) nonces in
      (is_visit of_first feeds number draw v link t later first nonce each.0 fronts.0 own.0 fed.0, are_visits of_first feeds (number + 1) count vs links ts unused draws (omega arith) rest more each.1 fronts.1 own.1 fed.1)

  -- those that visited have the first numbers
  low_behind : (number count most : ℕ) (visits : List Hosting) (unused : List Guest) → number + length visits ≤ most + 1 → AreNew visits unused number count → AllByRecursion IsOne visits → AllByRecursion (IsLowOrEmpty most) (handed_on (partings_of visits))
  low_behind number count most [] unused few passes each = tt
  low_behind number zero most (v ∷ vs) unused few passes each = absurd (never_empty v.job.pass (passes_of (jobs_of vs ++ unused)) passes)
  low_behind number (suc count) most (v ∷ vs) unused few passes each =
      let others = jobs_of vs ++ unused in
      let first = heads v.job.pass (new_pass hall.cell opening number) (passes_of others) (new_passes hall.cell opening (number + 1) count) passes in
      let rest = tails v.job.pass (new_pass hall.cell opening number) (passes_of others) (new_passes hall.cell opening (number + 1) count) passes in
      let is : v.parting.pass.number ≡ number = each.0.did.ran.later.number ∙ ap (λ (p : PassValue AuthorisedValue). p.number) first in
      (inl (omega arith), low_behind (number + 1) count most vs unused (omega arith) rest each.1)

  empty_passes : (most : ℕ) (passes : Passes) → AllByRecursion (λ (p : PassValue AuthorisedValue). p.own ≡ []) passes → AllByRecursion (IsLowOrEmpty most) passes
  empty_passes most [] none = tt
  empty_passes most (p ∷ ps) none = (inr none.0, empty_passes most ps none.1)

  -- and the others have no rows
  unused_empty : (number count : ℕ) (visits : List Hosting) (unused : List Guest) → 1 ≤ number → AreNew visits unused number count → AllByRecursion (λ (p : PassValue AuthorisedValue). p.own ≡ []) (passes_of unused)
  unused_empty number count [] unused later passes = subst (AllByRecursion (λ (p : PassValue AuthorisedValue). p.own ≡ [])) (sym passes) (none_own hall.cell opening number count later)
  unused_empty number zero (v ∷ vs) unused later passes = absurd (never_empty v.job.pass (passes_of (jobs_of vs ++ unused)) passes)
  unused_empty number (suc count) (v ∷ vs) unused later passes =
      unused_empty (number + 1) count vs unused (omega arith)
      (tails v.job.pass (new_pass hall.cell opening number) (passes_of (jobs_of vs ++ unused)) (new_passes hall.cell opening (number + 1) count) passes)

  -- ---- the log

  is_shared : AreOf 0 opening → (first own : PassValue AuthorisedValue) → HasOnlyRead first own → (count : ℕ) (visits : List Hosting) (unused : List Guest) (others : Passes) → first ≡ new_pass hall.cell opening 0 → AreNew visits unused 1 count → AllByRecursion IsOne visits
      → HaveOnlyRead (handed_on (partings_of visits) ++ passes_of unused) others → IsClosed (own ∷ others) log → IsShared true opening log (length visits)
  is_shared of_first first own read count visits unused others new passes each others_read closed =
      let olds = handed_on (partings_of visits) ++ passes_of unused in
      let Low = IsLowOrEmpty {R = AuthorisedValue} (length visits) in
      let front : IsPrefix own.seen log = (recursion_from_All IsFront (own ∷ others) closed.prefixes).0 in
      let rows : rows_of_pass own.number log ≡ own.own = (recursion_from_All HasOwn (own ∷ others) closed.own).0 in
      let low = low_behind 1 count (length visits) visits unused (omega arith) passes each in
      let empty = empty_passes (length visits) (passes_of unused) (unused_empty 1 count visits unused (omega arith) passes) in
      let before : All Low olds = All-from_recursion Low olds (All-append Low (handed_on (partings_of visits)) (passes_of unused) low empty) in
      let now : AllByRecursion Low others = recursion_from_All Low others (holds_on Low olds others others_read (still_low (length visits)) before) in
      let number : own.number ≡ 0 = read.later.number ∙ ap (λ (p : PassValue AuthorisedValue). p.number) new in
      record {
        front = subst (λ (l : Log). IsPrefix l log) (ap (λ (p : PassValue AuthorisedValue). p.seen) new) (prefix_trans first.seen own.seen log read.later.seen front);
        of_first = of_first;
        opening_own = λ awaited. ap (λ (n : ℕ). rows_of_pass n log) (sym number) ∙ (rows ∙ (read.own ∙ ap (λ (p : PassValue AuthorisedValue). p.own) new));
        numbered = λ k d within.
            let few = low_numbers (own ∷ others) log (length visits) closed (inl (omega arith), now) k d within in
            omega (arith, few);
      }
    where
      still_low : (most : ℕ) (old new : PassValue AuthorisedValue) → HasOnlyRead old new → IsLowOrEmpty most old → IsLowOrEmpty most new
      still_low most old new more (inl few) = inl (omega (arith, few, more.later.number))
      still_low most old new more (inr none) = inr (more.own ∙ none)

-- the own pass, as it is made
pub own_first : (cell : CellValue) (log : Log) (first : PassValue AuthorisedValue) (guests : List Guest) (count : ℕ) → first ∷ passes_of guests ≡ new_passes cell log 0 count → first ≡ new_pass cell log 0
own_first cell log first guests zero passes = absurd (never_empty first (passes_of guests) passes)
own_first cell log first guests (suc count) passes = heads first (new_pass cell log 0) (passes_of guests) (new_passes cell log 1 count) passes

-- ---- where nobody came

-- no memory was found before the place was asked for
pub unasked : (feeds : Bool) (place : List ℕ) (area : Area) (p : List ℕ → List ℕ → Party) (signers : List KeySigner) (draws : List (List ℕ)) (state : StateValue AuthorisedValue) (d : DoorFacts) (u : HubValue)
    → Attends (record { awaited = true; follows = feeds; place = place }) area p signers draws state d d u u (Err stop.NoMemory)
unasked feeds place area p signers draws state d u = ((inl (record { asked = refl; out = refl; back = refl }), refl), inl refl)

-- the place could not be listened at
pub unheard : (feeds : Bool) (place : List ℕ) (area : Area) (p : List ℕ → List ℕ → Party) (signers : List KeySigner) (draws : List (List ℕ)) (state : StateValue AuthorisedValue) (d d' : DoorFacts) (u : HubValue) (e : Stop) → Listens place d d' (Err e)
    → Attends (record { awaited = true; follows = feeds; place = place }) area p signers draws state d d' u u (Err e)
unheard feeds place area p signers draws state d d' u stop.ReadFault listens = (listens, refl)
unheard feeds place area p signers draws state d d' u stop.NoMemory listens = ((inl listens.0, listens.1), inl refl)
unheard feeds place area p signers draws state d d' u e listens = absurd listens

-- ---- what is told of them

answers_of : (visits : List Hosting) (links : List LinkFacts) (tails : List Tail) → length links ≡ length visits → length tails ≡ length visits → ends_of visits ≡ map (λ (v : Visit). v.answer) (visits_of visits links tails)
answers_of [] links tails same many = refl
answers_of (v ∷ vs) [] tails same many = absurd (omega (arith, same))
answers_of (v ∷ vs) (link ∷ links) [] same many = absurd (omega (arith, many))
answers_of (v ∷ vs) (link ∷ links) (t ∷ ts) same many = ap (λ (l : List Answer). v.parting.end ∷ l) (answers_of vs links ts (omega (arith, same)) (omega (arith, many)))

tails_of : (visits : List Hosting) (links : List LinkFacts) (tails : List Tail) → length links ≡ length visits → length tails ≡ length visits → tails ≡ map (λ (v : Visit). v.tail) (visits_of visits links tails)
tails_of [] links [] same many = refl
tails_of [] links (t ∷ ts) same many = absurd (omega (arith, many))
tails_of (v ∷ vs) [] tails same many = absurd (omega (arith, same))
tails_of (v ∷ vs) (link ∷ links) [] same many = absurd (omega (arith, many))
tails_of (v ∷ vs) (link ∷ links) (t ∷ ts) same many = ap (λ (l : List Tail). t ∷ l) (tails_of vs links ts (omega (arith, same)) (omega (arith, many)))

links_of : (visits : List Hosting) (links : List LinkFacts) (tails : List Tail) → length links ≡ length visits → length tails ≡ length visits → links ≡ map (λ (v : Visit). v.link) (visits_of visits links tails)
links_of [] [] tails same many = refl
links_of [] (link ∷ links) tails same many = absurd (omega (arith, same))
links_of (v ∷ vs) [] tails same many = absurd (omega (arith, same))
links_of (v ∷ vs) (link ∷ links) [] same many = absurd (omega (arith, many))
links_of (v ∷ vs) (link ∷ links) (t ∷ ts) same many = ap (λ (l : List LinkFacts). link ∷ l) (links_of vs links ts (omega (arith, same)) (omega (arith, many)))

as_many : (visits : List Hosting) (links : List LinkFacts) (tails : List Tail) → length links ≡ length visits → length tails ≡ length visits → length (visits_of visits links tails) ≡ length visits
as_many [] links tails same many = refl
as_many (v ∷ vs) [] tails same many = absurd (omega (arith, same))
as_many (v ∷ vs) (link ∷ links) [] same many = absurd (omega (arith, many))
as_many (v ∷ vs) (link ∷ links) (t ∷ ts) same many = ap suc (as_many vs links ts (omega (arith, same)) (omega (arith, many)))

as_many_jobs : (visits : List Hosting) (unused : List Guest) → length (signers_of (jobs_of visits ++ unused)) ≡ length visits + length unused
as_many_jobs [] [] = refl
as_many_jobs [] (g ∷ gs) = omega (arith, as_many_jobs [] gs)
as_many_jobs (v ∷ vs) unused = omega (arith, as_many_jobs vs unused)

accepts_so : (old listened new : DoorFacts) (links came : ℕ) (unused : List Guest) (stopped : Option Fault) (all_came : Bool) → links ≡ came + length unused → listened.faults ≡ old.faults → listened.accepts ≡ old.accepts
    → CountsComing listened new came unused stopped → IsAccepted stopped all_came → Accepts true links came all_came old new
accepts_so old listened new links came unused None true all same none_yet counted is = (omega (arith, all, ap length counted.0.0), counted.0.1 ∙ same, counted.1 ∙ ap (counted_on came) none_yet)
accepts_so old listened new links came unused (Some fault.Failed) false all same none_yet counted is = (omega (arith, all, counted.0.0), subst (λ (n : ℕ). HasRisen n new.faults) same counted.0.1, counted.1 ∙ ap (counted_on (came + 1)) none_yet)
accepts_so old listened new links came unused None false all same none_yet counted is = absurd is
accepts_so old listened new links came unused (Some fault.Failed) true all same none_yet counted is = absurd is
accepts_so old listened new links came unused (Some fault.NoMemory) all_came all same none_yet counted is = absurd is

-- the door counts nothing while links are given back
counted_as : (old mid new : DoorFacts) (came : ℕ) (unused : List Guest) (stopped : Option Fault) → new.faults ≡ mid.faults → new.accepts ≡ mid.accepts → CountsComing old mid came unused stopped → CountsComing old new came unused stopped
counted_as old mid new came unused None same accepts counted = ((counted.0.0, same ∙ counted.0.1), accepts ∙ counted.1)
counted_as old mid new came unused (Some fault.Failed) same accepts counted = ((counted.0.0, subst (λ (now : ℕ). HasRisen old.faults now) (sym same) counted.0.1), accepts ∙ counted.1)
counted_as old mid new came unused (Some fault.NoMemory) same accepts counted = same ∙ counted

-- want of memory counts no fault
wants_memory : (old new : DoorFacts) (came : ℕ) (unused : List Guest) (stopped : Option Fault) → stopped ≡ Some fault.NoMemory → CountsComing old new came unused stopped → new.faults ≡ old.faults
wants_memory old new came unused stopped wants counted = subst (CountsComing old new came unused) wants counted

-- ---- all of it

module _ (feeds : Bool) (place : List ℕ) (plan : SessionPlan PeerScheme) (signers : List KeySigner) (draws : List (List ℕ)) (state : StateValue AuthorisedValue) (hall : Hall) (first own : PassValue AuthorisedValue) (read : HasOnlyRead first own) (guests : List Guest) (of_first : AreOf 0 state.log)
    (partings : List Parting) (links : List LinkFacts) (unused : List Guest) (stopped : Option Fault) (old listened mid new : DoorFacts) (b : Behind) (same_plan : hall.plan ≡ plan) (same_namespace : hall.cell.namespace ≡ state.namespace)
    (heard : Listens place old listened (Ok tt)) (did : AreReceived hall guests listened mid partings links unused stopped) (behind : AreBehind feeds own partings unused links mid new b) (stopped_so : b.stopped ≡ stopped) where
  abbrev way : Way
  way = record { awaited = true; follows = feeds; place = place }

  abbrev brings : List ℕ → List ℕ → Party
  brings draw = planned peer_rules state.namespace plan (nonce_of draw)

  -- the sessions of the hall, as those of the plan
  as_planned : (log : Log) (their : List KeySigner) (visits : List Visit) → their ≡ signers → AreVisits (IsVisit true feeds state.log log (party hall state.log log)) 1 their draws visits → AreVisits (IsVisit true feeds state.log log brings) 1 signers draws visits
  as_planned log their visits same are =
      subst (λ (n : List ℕ). AreVisits (IsVisit true feeds state.log log (λ draw. planned peer_rules n plan (nonce_of draw))) 1 signers draws visits) same_namespace
      (subst (λ (p : SessionPlan PeerScheme). AreVisits (IsVisit true feeds state.log log (λ draw. planned peer_rules hall.cell.namespace p (nonce_of draw))) 1 signers draws visits) same_plan
      (subst (λ (ss : List KeySigner). AreVisits (IsVisit true feeds state.log log (party hall state.log log)) 1 ss draws visits) same are))

  -- ---- the links and what followed them

  abbrev visits : List Hosting
  visits = did.visits

  as_many_links : length behind.links_now ≡ length visits
  as_many_links = omega (arith, behind.as_many.0, ap length did.links_are, length-map visits (λ (v : Hosting). v.link))

  as_many_tails : length b.tails.items ≡ length visits
  as_many_tails = omega (arith, behind.as_many.1, ap length did.links_are, length-map visits (λ (v : Hosting). v.link))

  abbrev all_visits : List Visit
  all_visits = visits_of visits behind.links_now b.tails.items

  many : length all_visits ≡ length visits
  many = as_many visits behind.links_now b.tails.items as_many_links as_many_tails

  ends_are : b.ends.items ≡ ends_of visits
  ends_are = behind.ends ∙ ap (map (λ (p : Parting). p.end)) did.partings_are

  counted : CountsComing listened new (length all_visits) unused stopped
  counted = counted_as listened mid new (length all_visits) unused stopped behind.given_back.faults behind.given_back.accepts (subst (λ (n : ℕ). CountsComing listened mid n unused stopped) (sym many) did.counted)

  back : AreBack place old new behind.links_now
  back =
      record {
        asked = behind.given_back.asked ∙ did.asked ∙ heard.0;
        out = omega (arith, behind.given_back.out, as_many_links, did.out, heard.1);
        back = behind.given_back.back ∙ ap (list_with_all behind.links_now) (did.back ∙ heard.2);
      }

  -- ---- the log of the closed cell

  module _ (count : ℕ) (x : Attended) (rest : passes_of guests ≡ new_passes hall.cell state.log 1 count) (is_new : first ≡ new_pass hall.cell state.log 0) (signs : signers_of guests ≡ signers) (nonces : nonces_of guests ≡ map nonce_of draws) (left : HasLeft hall b x) where
    abbrev log : Log
    log = x.state.log

    abbrev olds : Passes
    olds = handed_on partings ++ passes_of unused

    closed : IsClosed (behind.own_now ∷ behind.others) log
    closed = subst (λ (ps : Passes). IsClosed ps log) behind.passes left.closed

    abbrev Front : PassValue AuthorisedValue → Type 0
    Front = IsFront hall state.log log

    abbrev Own : PassValue AuthorisedValue → Type 0
    Own = HasOwn hall state.log log

    others_of : (P : PassValue AuthorisedValue → Type 0) → All P (behind.own_now ∷ behind.others) → All P behind.others
    others_of P all = All-from_recursion P behind.others (recursion_from_All P (behind.own_now ∷ behind.others) all).1

    -- of what the visits handed on
    of_partings : (P : PassValue AuthorisedValue → Type 0) → All P olds → AllByRecursion P (handed_on (partings_of visits))
    of_partings P all = subst (λ (ps : List Parting). AllByRecursion P (handed_on ps)) did.partings_are (All-left P (handed_on partings) (passes_of unused) (recursion_from_All P olds all))

    fronts : AllByRecursion Front (handed_on (partings_of visits))
    fronts = of_partings Front (held_before Front olds behind.others behind.others_read (λ one other more is. prefix_trans one.seen other.seen log more.later.seen is) (others_of Front closed.prefixes))

    rows : AllByRecursion Own (handed_on (partings_of visits))
    rows = of_partings Own (held_before Own olds behind.others behind.others_read (λ one other more is. ap (λ (n : ℕ). rows_of_pass n log) (sym more.later.number) ∙ (is ∙ more.own)) (others_of Own closed.own))

    fed : FedEach feeds log 1 visits behind.links_now b.tails.items
    fed =
        fed_each feeds log 1 visits behind.links_now b.tails.items as_many_links as_many_tails
        (subst (λ (es : List Answer). AreFed feeds log 1 es (left_of visits) behind.links_now b.tails.items) ends_are
        (subst (λ (ls : List LinkFacts). AreFed feeds log 1 b.ends.items ls behind.links_now b.tails.items) did.links_are (behind.fed log left.closed)))

    are_new : AreNew hall state.log log visits unused 1 count
    are_new = ap passes_of (sym did.guests_are) ∙ rest

    each : AllByRecursion (IsOne hall state.log log) visits
    each = recursion_from_All (IsOne hall state.log log) visits did.each

    same_signers : signers_of (jobs_of visits ++ unused) ≡ signers
    same_signers = ap signers_of (sym did.guests_are) ∙ signs

    attended : AreAttended way brings signers draws state old new x.ends.items x.tails.items x.all_came x.state
    attended =
        let links_as_many : length signers ≡ length visits + length unused = ap length (sym same_signers) ∙ as_many_jobs visits unused in
        record {
          visits = all_visits;
          are_visits =
              as_planned log (signers_of (jobs_of visits ++ unused)) all_visits same_signers
              (are_visits hall state.log log of_first feeds 1 count visits behind.links_now b.tails.items unused draws (omega arith) are_new (ap nonces_of (sym did.guests_are) ∙ nonces) each fronts rows fed);
          shared =
              subst (λ (n : ℕ). IsShared true state.log log n) (sym many)
              (is_shared hall state.log log of_first first behind.own_now (read_twice first own behind.own_now read behind.own_read) count visits unused behind.others is_new are_new each
              (subst (λ (ps : List Parting). HaveOnlyRead (handed_on ps ++ passes_of unused) behind.others) did.partings_are behind.others_read) closed);
          called = λ call. absurd cc;
          is_log = subst (λ (n : List ℕ). IsLog entry_row n log) same_namespace left.is_log;
          of_namespace = left.of_namespace ∙ same_namespace;
          ends = left.ends ∙ (ends_are ∙ answers_of visits behind.links_now b.tails.items as_many_links as_many_tails);
          tailed = left.tails ∙ tails_of visits behind.links_now b.tails.items as_many_links as_many_tails;
          back = subst (λ (ls : List LinkFacts). AreBack place old new ls) (links_of visits behind.links_now b.tails.items as_many_links as_many_tails) back;
          accepts =
              accepts_so old listened new (length signers) (length all_visits) unused stopped x.all_came (links_as_many ∙ ap (λ (n : ℕ). n + length unused) (sym many)) heard.3 heard.4 counted
              (subst (λ (why : Option Fault). IsAccepted why x.all_came) stopped_so left.accepts);
        }

    -- the own pass has seen a front of it
    last : IsPrefix own.seen log
    last = prefix_trans own.seen behind.own_now.seen log behind.own_read.later.seen (closed.prefixes 0 behind.own_now (omega arith))

  by_count : (count : ℕ) (x : Attended) → first ∷ passes_of guests ≡ new_passes hall.cell state.log 0 count → signers_of guests ≡ signers → nonces_of guests ≡ map nonce_of draws → HasLeft hall b x
      → AreAttended way brings signers draws state old new x.ends.items x.tails.items x.all_came x.state × IsPrefix own.seen x.state.log
  by_count zero x passes signs nonces left = absurd (never_empty first (passes_of guests) passes)
  by_count (suc count) x passes signs nonces left =
      let is_new = heads first (new_pass hall.cell state.log 0) (passes_of guests) (new_passes hall.cell state.log 1 count) passes in
      let rest = tails first (new_pass hall.cell state.log 0) (passes_of guests) (new_passes hall.cell state.log 1 count) passes in
      (attended count x rest is_new signs nonces left, last count x rest is_new signs nonces left)

  -- and where memory was wanting no fault of the door was met; those who watch heard of the log up to its end, or of some of it
  pub attends : (count : ℕ) (end : Result Attended Stop) → first ∷ passes_of guests ≡ new_passes hall.cell state.log 0 count → signers_of guests ≡ signers → nonces_of guests ≡ map nonce_of draws → Leaves hall b end
      → (u u1 u2 : HubValue) (so_far front : ℕ) → HaveHeardSeen state.namespace state.log own.seen stopped (hub_opened plan.ask state.log u) u1 so_far → b.left ≡ so_far → ((stopped ≡ Some fault.NoMemory → ⊥) → front ≡ length own.seen)
      → IfOk end (λ x. (more : ℕ) × (x.left ≡ b.left + more) × IsPumped u1 u2 (log_rows (drop front x.state.log)) more) → IfErr end (λ e. u2 ≡ u1) → Attends way plan.ask brings signers draws state old new u u2 end
  attends count (Ok x) passes signs nonces left u u1 u2 so_far front seen same_left at rest same =
      let all = by_count count x passes signs nonces left in
      let accepted = subst (λ (why : Option Fault). IsAccepted why x.all_came) stopped_so left.accepts in
      let told = subst (λ (k : ℕ). IsPumped u1 u2 (log_rows (drop k x.state.log)) rest.0) (at (unwanted stopped x.all_came accepted)) rest.2 in (
        all.0,
        server_heard plan.ask state.namespace state.log own.seen stopped u u1 so_far seen x.all_came x.state.log u2 rest.0 x.left accepted all.1 (subst (λ (n : List ℕ). IsLog entry_row n x.state.log) same_namespace left.is_log) (rest.1 ∙ ap (λ (k : ℕ). k + rest.0) same_left) told,
      )
  attends count (Err stop.NoMemory) passes signs nonces left u u1 u2 so_far front seen same_left at rest same = (
    (inr (record { awaited = refl; links = behind.links_now; back = back }), wants_memory listened new (length all_visits) unused stopped (sym stopped_so ∙ left) counted ∙ heard.3),
    server_stops plan.ask state.namespace state.log own.seen stopped u u1 so_far seen u2 same,
  )
  attends count (Err e) passes signs nonces left u u1 u2 so_far front seen same_left at rest same = absurd left
