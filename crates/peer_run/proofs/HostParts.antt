-- The parts of `sync` and of `serve` are honest.
use Rattle.std.proofs.Common.{◌≡◌, ◌≢◌, ◌⊎◌, ◌∙◌, ℕ, ◌+◌, ◌≤◌, Bool, true, false, ◌&&◌, List, [], ◌∷◌, ◌++◌, map, length, Contains, Option, Some, None, inl, inr, refl, sym, ap, subst, arith}
use Rattle.std.specs.Prelude.{Result, Ok, Err}
use Rattle.std.specs.List.{sum_by}
use Rattle.std.proofs.lemmas.List.Elements.{Contains-append_cases, Contains-append_left, Contains-append_right}
use Rattle.spelling.specs.Answers.{or_else}
use Rattle.mc_cap.specs.declared.refusal.RefusedRow.{RefusedRow}
use Rattle.session_end.specs.declared.end.SessionEnd.TheVariants as ending
use Rattle.willow_outside.specs.Counts.{Rose}
use Rattle.willow_outside.specs.Facts.{DoorFacts, LinkFacts}
use Rattle.link_host.specs.Hosted.{list_with_all}
use Rattle.willow_area.specs.declared.area.Area.{Area}
use Rattle.auth_entry.specs.Authorised.{AuthorisedValue}
use Rattle.ns_state.specs.Log.{StateValue}
use Rattle.row_intake.specs.Answers.{CountsReads, CountsWrites}
use Rattle.sync_link.specs.Run.{Answer}
use Rattle.sync_link.specs.Sessions.{Party}
use Rattle.call_rules.specs.Told.{IsUnmet}
use Rattle.call_rules.specs.Parts.{IsStop, IsHonest, Owes}
use Rattle.call_rules.specs.Visits.{IsSomeVisit}
use Rattle.call_rules.proofs.Elements.{contains_map, contains_from_map, one_of_three}
use Rattle.call_rules.proofs.Parts.{behind_honest, writing_honest, owes}
use Rattle.call_rules.proofs.Visits.{some_visit}
use Rattle.peer_make.specs.declared.key_signer.KeySigner.{KeySigner}
use Rattle.peer_stage.specs.Shelves.{PutsBytes}
use Rattle.peer_stage.specs.Status.{session_status, tail_status, accept_status, put_status, first_status}
use Rattle.peer_stage.specs.Steps.{OnShelf}
use Rattle.peer_stage.specs.World.{World, NeverFall, Unfailed}
use Rattle.peer_stage.specs.declared.outcome.Stop.{Stop}
use Rattle.peer_stage.specs.declared.outcome.Stop.TheVariants as stop
use Rattle.peer_stage.proofs.Ends.{accept_few, put_few, first_small}
use Rattle.peer_stage.proofs.Owing.{shelf_counts, shelf_unfailed}
use Rattle.peer_run.specs.Closing.{image_of, put_answer, refused_after}
use Rattle.peer_run.specs.Hosting.{GoesOn, HasAttended, HostReads, HostWrites, HostsLinks, PutsImage, RunsSessions, host_rules, with_put}
use Rattle.peer_run.specs.Telling.{Told, none_told, first_in_tails, first_of_links, first_with_tails, rows_told, statuses, told_of, told_tail}
use Rattle.peer_run.specs.Visiting.{Way, Visit, IsVisit, Accepts, IsAskedAtMost, StopsAttending, first_number}
use Rattle.peer_run.specs.declared.tails.Tail.{Tail}
use Rattle.peer_run.proofs.FollowedEnds.{EndedSo, ended_so, tail_met}
use Rattle.peer_run.proofs.FollowedUp.{CountsUp, followed_up}
use Rattle.peer_run.proofs.HostRules.{are_rules, back_same, none_more, rose_before}
use Rattle.peer_run.proofs.SideDeeds.{from_none}

-- ---- statuses

-- the statuses of the sessions, and those behind them
abbrev of_sessions : List Answer → List ℕ
of_sessions answers = map session_status (map told_of answers)

-- those of what followed them
abbrev of_tails : List Tail → List ℕ
of_tails tails = map tail_status (map told_tail tails)

abbrev last : Told → List ℕ
last t = accept_status t.all_came ∷ (put_status t.put ∷ (first_status t.first ∷ []))

-- what gave a status
abbrev pub Gave : Told → ℕ → Type 0
Gave t status =
    ((answer : Answer) × Contains t.answers answer × (session_status (told_of answer) ≡ status))
    ⊎ (((tail : Tail) × Contains t.tails tail × (tail_status (told_tail tail) ≡ status)) ⊎ ((accept_status t.all_came ≡ status) ⊎ ((put_status t.put ≡ status) ⊎ (first_status t.first ≡ status))))

pub gave : (t : Told) (status : ℕ) → Contains (statuses t) status → Gave t status
gave t status at = elim (Contains-append_cases (of_sessions t.answers) (of_tails t.tails ++ last t) status at) [
  | inl session ↦
      let told = contains_from_map session_status (map told_of t.answers) status session in
      let answer = contains_from_map told_of t.answers told.0 told.1 in
      inl (answer.0, answer.1, ap session_status answer.2 ∙ told.2)
  | inr behind ↦ inr (elim (Contains-append_cases (of_tails t.tails) (last t) status behind) [
    | inl followed ↦
        let told = contains_from_map tail_status (map told_tail t.tails) status followed in
        let tail = contains_from_map told_tail t.tails told.0 told.1 in
        inl (tail.0, tail.1, ap tail_status tail.2 ∙ told.2)
    | inr other ↦ inr (one_of_three (accept_status t.all_came) (put_status t.put) (first_status t.first) status other)
  ])
]

at_last : (t : Told) (status : ℕ) → Contains (last t) status → Contains (statuses t) status
at_last t status at = Contains-append_right (of_sessions t.answers) (of_tails t.tails ++ last t) status (Contains-append_right (of_tails t.tails) (last t) status at)

pub accepted_at : (t : Told) → Contains (statuses t) (accept_status t.all_came)
accepted_at t = at_last t _ (0, omega arith, refl)

pub put_at : (t : Told) → Contains (statuses t) (put_status t.put)
put_at t = at_last t _ (1, omega arith, refl)

pub first_at : (t : Told) → Contains (statuses t) (first_status t.first)
first_at t = at_last t _ (2, omega arith, refl)

pub session_at : (t : Told) (answer : Answer) → Contains t.answers answer → Contains (statuses t) (session_status (told_of answer))
session_at t answer at = Contains-append_left (of_sessions t.answers) (of_tails t.tails ++ last t) _ (contains_map session_status (map told_of t.answers) (told_of answer) (contains_map told_of t.answers answer at))

pub tail_at : (t : Told) (tail : Tail) → Contains t.tails tail → Contains (statuses t) (tail_status (told_tail tail))
tail_at t tail at =
    Contains-append_right (of_sessions t.answers) (of_tails t.tails ++ last t) _
    (Contains-append_left (of_tails t.tails) (last t) _ (contains_map tail_status (map told_tail t.tails) (told_tail tail) (contains_map told_tail t.tails tail at)))

-- it is met where it is that of what was met
is_met : (t : Told) (one status : ℕ) → one ≡ status → Contains (statuses t) one → Contains (statuses t) status
is_met t one status is at = subst (λ (k : ℕ). Contains (statuses t) k) is at

-- ---- ends of a session

read_end : (answer : Answer) → session_status (told_of answer) ≡ 3 → answer ≡ Err ending.LinkRead
read_end (Err ending.LinkRead) is = refl
read_end (Err end) is = absurd (omega (arith, is))
read_end (Ok counts) is = absurd (omega (arith, is))

write_end : (answer : Answer) → session_status (told_of answer) ≡ 4 → answer ≡ Err ending.LinkWrite
write_end (Err ending.LinkWrite) is = refl
write_end (Err end) is = absurd (omega (arith, is))
write_end (Ok counts) is = absurd (omega (arith, is))

accept_three : (all_came : Bool) → accept_status all_came ≡ 3 → all_came ≡ false
accept_three true is = absurd (omega (arith, is))
accept_three false is = refl

first_kept : (one two : Option RefusedRow) (status : ℕ) → 1 ≤ status → first_status one ≡ status → first_status (or_else one two) ≡ status
first_kept None two status some is = absurd (omega (arith, some, is))
first_kept (Some r) two status some is = is

-- ---- the door

accepts_up : (awaited : Bool) (links came : ℕ) (all_came : Bool) (old new : DoorFacts) → Accepts awaited links came all_came old new → old.faults ≤ new.faults
accepts_up awaited links came true old new accepts = omega (arith, accepts.1)
accepts_up awaited links came false old new accepts = accepts.1.never_falls

-- links that are back where no sessions are told
abbrev HasGivenBack : DoorFacts → DoorFacts → Type 0
HasGivenBack old new = (links : List LinkFacts) × (new.back ≡ list_with_all links old.back)

asked_back : (way : Way) (old new : DoorFacts) → IsAskedAtMost way old new → HasGivenBack old new
asked_back way old new (inl unasked) = ([], unasked.back ∙ none_more old.back)
asked_back way old new (inr waited) = (waited.links, waited.back.back)

stops_up : (way : Way) (old new : DoorFacts) (e : Stop) → StopsAttending way old new e → (old.faults ≤ new.faults) × HasGivenBack old new
stops_up way old new stop.ReadFault s = (s.1.never_falls, asked_back way old new (inl s.0))
stops_up way old new stop.NoMemory s = (omega (arith, s.1), asked_back way old new s.0)
stops_up way old new e s = absurd s

at_door : (old new : World) → old.door.faults ≤ new.door.faults → new ≡ record old { door = new.door; hub = new.hub } → NeverFall old new
at_door old new up others =
    subst (λ (w : World). NeverFall old w) (sym others)
    (record { shelf_reads = omega arith; shelf_writes = omega arith; input_faults = omega arith; input_ends = omega arith; output_faults = omega arith; report_faults = omega arith; door_faults = up; noise_faults = omega arith; bay_faults = omega arith })

pub door_stood : (old new : World) → new.door.faults ≡ old.door.faults → new ≡ record old { door = new.door; hub = new.hub } → Unfailed old new
door_stood old new same others =
    subst (λ (w : World). Unfailed old w) (sym others)
    (record { shelf_reads = refl; shelf_writes = refl; input = refl; output = refl; report = refl; door = same; noise = refl; bay = refl })

-- ---- the sessions

module _ (way : Way) (area : Area) (p : List ℕ → List ℕ → Party) (signers : List KeySigner) (draws : List (List ℕ)) (rows : ℕ) where
  pub attend_counts : (old new : World) (told : Told) (end : Result Told Stop) → RunsSessions way area p signers draws rows old told new end → GoesOn old new
  attend_counts old new told (Ok t) did =
      let a = did.does in
      record {
        counts = at_door old new (accepts_up way.awaited (length signers) (length a.visits) t.all_came old.door new.door a.accepts) did.others;
        links = map (λ (visit : Visit). visit.link) a.visits;
        back = a.back.back;
      }
  attend_counts old new told (Err e) did =
      let up = stops_up way old.door new.door e did.0 in
      record { counts = at_door old new up.0 did.1; links = up.1.0; back = up.1.1 }

  attend_keeps : (old new : World) (told t : Told) → RunsSessions way area p signers draws rows old told new (Ok t) → (status : ℕ) → 1 ≤ status → Contains (statuses told) status → Contains (statuses t) status
  attend_keeps old new told t did status some at = elim (gave told status at) [
    | inl session ↦ absurd (none (subst (λ (l : List Answer). Contains l session.0) did.none_yet session.1))
    | inr (inl followed) ↦ absurd (none (subst (λ (l : List Tail). Contains l followed.0) did.no_tails_yet followed.1))
    | inr (inr (inl accept)) ↦ absurd (all_came told.all_came did.all_came_yet accept)
    | inr (inr (inr (inl put))) ↦ is_met t (put_status t.put) status (ap put_status did.put_is ∙ put) (put_at t)
    | inr (inr (inr (inr first))) ↦ is_met t (first_status t.first) status (ap first_status did.first_is ∙ first_stays status some first) (first_at t)
  ]
    where
      none : {A : Type 0} {x : A} → Contains [] x → ⊥
      none at = omega (arith, at.1)

      first_stays : (status : ℕ) → 1 ≤ status → first_status told.first ≡ status → first_status (first_with_tails rows told.first t.answers t.tails) ≡ status
      first_stays status some first =
          first_kept (or_else told.first (first_of_links rows t.answers)) (refused_after (rows + sum_by rows_told t.answers) (first_in_tails t.tails)) status some (first_kept told.first (first_of_links rows t.answers) status some first)

      all_came : (b : Bool) → b ≡ true → accept_status b ≡ status → ⊥
      all_came true is accept = omega (arith, some, accept)
      all_came false is accept = absurd cc

  -- one of the links has failed
  module _ (old new : World) (told t : Told) (did : HasAttended way area p signers draws rows old told new t) where
    visited : (answer : Answer) → Contains t.answers answer → (visit : Visit) × Contains did.does.visits visit × (visit.answer ≡ answer)
    visited answer at = contains_from_map (λ (visit : Visit). visit.answer) did.does.visits answer (subst (λ (l : List Answer). Contains l answer) did.does.ends at)

    abbrev one_of : (visit : Visit) → Contains did.does.visits visit → IsSomeVisit (IsVisit way.awaited way.follows told.state.log t.state.log p) signers draws visit
    one_of visit at = some_visit (IsVisit way.awaited way.follows told.state.log t.state.log p) (first_number way.awaited) signers draws did.does.visits did.does.are_visits visit at

    -- what followed its session
    followed : (tail : Tail) → Contains t.tails tail → (visit : Visit) × Contains did.does.visits visit × (visit.tail ≡ tail)
    followed tail at = contains_from_map (λ (visit : Visit). visit.tail) did.does.visits tail (subst (λ (l : List Tail). Contains l tail) did.does.tailed at)

    -- the status of that has its cause
    tail_so : (visit : Visit) → Contains did.does.visits visit → (k : ℕ) → tail_met visit.tail ≡ k → EndedSo visit.link visit.tail k
    tail_so visit at k is =
        let one = one_of visit at in
        let party = p one.draw one.is_visit.ran.signature in
        ended_so way.awaited way.follows party.rules party.namespace t.state.log one.number visit one.is_visit.followed k is

    -- a count of a link that is back rose
    abbrev among : (visit : Visit) → Contains did.does.visits visit → Contains (map (λ (visit : Visit). visit.link) did.does.visits) visit.link
    among visit at = contains_map (λ (visit : Visit). visit.link) did.does.visits visit at

    link_read : (visit : Visit) → Contains did.does.visits visit → Rose 0 visit.link.read_faults → HostReads old new
    link_read visit at rose = inr (inr (inr (record { links = map (λ (visit : Visit). visit.link) did.does.visits; back = did.does.back.back; link = visit.link; among = among visit at; rose = rose })))

    link_written : (visit : Visit) → Contains did.does.visits visit → Rose 0 visit.link.write_faults → HostWrites old new
    link_written visit at rose = inr (record { links = map (λ (visit : Visit). visit.link) did.does.visits; back = did.does.back.back; link = visit.link; among = among visit at; rose = rose })

    -- as far as its session
    up : (visit : Visit) → Contains did.does.visits visit → CountsUp visit.behind visit.link
    up visit at =
        let one = one_of visit at in
        let party = p one.draw one.is_visit.ran.signature in
        followed_up way.awaited way.follows party.rules party.namespace t.state.log one.number visit one.is_visit.followed

    read_failed : (visit : Visit) → Contains did.does.visits visit → visit.answer ≡ Err ending.LinkRead → HostReads old new
    read_failed visit at is =
        let one = one_of visit at in
        let counts = subst (CountsReads visit.handed_out.read_faults visit.behind.read_faults) is one.is_visit.ran.counted_faults.reads in
        link_read visit at (rose_before 0 _ _ (from_none _ _ one.is_visit.fresh.0 counts.rose) (up visit at).reads)

    write_failed : (visit : Visit) → Contains did.does.visits visit → visit.answer ≡ Err ending.LinkWrite → HostWrites old new
    write_failed visit at is =
        let one = one_of visit at in
        let counts = subst (CountsWrites visit.handed_out.write_faults visit.behind.write_faults) is one.is_visit.ran.counted_faults.writes in
        link_written visit at (rose_before 0 _ _ (from_none _ _ one.is_visit.fresh.1 counts.rose) (up visit at).writes)

    fewer_came : t.all_came ≡ false → HostReads old new
    fewer_came fewer =
        let accepts : Accepts way.awaited (length signers) (length did.does.visits) false old.door new.door =
        subst (λ (all_came : Bool). Accepts way.awaited (length signers) (length did.does.visits) all_came old.door new.door) fewer did.does.accepts in
        inr (inr (inl accepts.1.rose))

    tail_three : (visit : Visit) → Contains did.does.visits visit → tail_met visit.tail ≡ 3 → Rose 0 visit.link.read_faults
    tail_three visit at is = elim (tail_so visit at 3 is) [
      | inl none ↦ absurd (omega (arith, none))
      | inr (inl three) ↦ three.1
      | inr (inr (inl four)) ↦ absurd (omega (arith, four.0))
      | inr (inr (inr (inl six))) ↦ absurd (omega (arith, six.0))
      | inr (inr (inr (inr (inl seven)))) ↦ absurd (omega (arith, seven.0))
      | inr (inr (inr (inr (inr eight)))) ↦ absurd (omega (arith, eight.0))
    ]

    tail_four : (visit : Visit) → Contains did.does.visits visit → tail_met visit.tail ≡ 4 → Rose 0 visit.link.write_faults
    tail_four visit at is = elim (tail_so visit at 4 is) [
      | inl none ↦ absurd (omega (arith, none))
      | inr (inl three) ↦ absurd (omega (arith, three.0))
      | inr (inr (inl four)) ↦ four.1
      | inr (inr (inr (inl six))) ↦ absurd (omega (arith, six.0))
      | inr (inr (inr (inr (inl seven)))) ↦ absurd (omega (arith, seven.0))
      | inr (inr (inr (inr (inr eight)))) ↦ absurd (omega (arith, eight.0))
    ]

    attend_read : Contains (statuses t) 3 → Contains (statuses told) 3 ⊎ HostReads old new
    attend_read at = elim (gave t 3 at) [
      | inl session ↦ let visit = visited session.0 session.1 in inr (read_failed visit.0 visit.1 (visit.2 ∙ read_end session.0 session.2))
      | inr (inl behind) ↦ let visit = followed behind.0 behind.1 in inr (link_read visit.0 visit.1 (tail_three visit.0 visit.1 (ap tail_met visit.2 ∙ behind.2)))
      | inr (inr (inl accept)) ↦ inr (fewer_came (accept_three t.all_came accept))
      | inr (inr (inr (inl put))) ↦ elim (put_few t.put 3 put) [ inl none ↦ absurd (omega (arith, none)) | inr four ↦ absurd (omega (arith, four)) ]
      | inr (inr (inr (inr first))) ↦ let small = first_small t.first in absurd (omega (arith, first, small))
    ]

    attend_write : Contains (statuses t) 4 → Contains (statuses told) 4 ⊎ HostWrites old new
    attend_write at = elim (gave t 4 at) [
      | inl session ↦ let visit = visited session.0 session.1 in inr (write_failed visit.0 visit.1 (visit.2 ∙ write_end session.0 session.2))
      | inr (inl behind) ↦ let visit = followed behind.0 behind.1 in inr (link_written visit.0 visit.1 (tail_four visit.0 visit.1 (ap tail_met visit.2 ∙ behind.2)))
      | inr (inr (inl accept)) ↦ elim (accept_few t.all_came 4 accept) [ inl none ↦ absurd (omega (arith, none)) | inr three ↦ absurd (omega (arith, three)) ]
      | inr (inr (inr (inl put))) ↦ inl (is_met told (put_status told.put) 4 (ap put_status (sym did.put_is) ∙ put) (put_at told))
      | inr (inr (inr (inr first))) ↦ let small = first_small t.first in absurd (omega (arith, first, small))
    ]

    -- where all links came no fault of the door was met
    pub attend_stood : t.all_came ≡ true → Unfailed old new
    attend_stood all =
        let accepts : Accepts way.awaited (length signers) (length did.does.visits) true old.door new.door =
        subst (λ (all_came : Bool). Accepts way.awaited (length signers) (length did.does.visits) all_came old.door new.door) all did.does.accepts in
        door_stood old new accepts.1 did.others

    attend_unfailed : IsUnmet (statuses t) 3 → Unfailed old new
    attend_unfailed three = by t.all_came refl where
      by : (all_came : Bool) → t.all_came ≡ all_came → Unfailed old new
      by true is = attend_stood is
      by false is = absurd (three (is_met t (accept_status t.all_came) 3 (ap accept_status is) (accepted_at t)))

  attend_stops : (old new : World) (told : Told) (e : Stop) → RunsSessions way area p signers draws rows old told new (Err e) → IsStop host_rules old new e
  attend_stops old new told stop.ReadFault did = inr (inl (refl, inr (inr (inl did.0.1.rose))))
  attend_stops old new told stop.NoMemory did = inl refl
  attend_stops old new told e did = absurd did.0

  pub attend_honest : IsHonest host_rules (RunsSessions way area p signers draws rows)
  attend_honest =
      record {
        counts = attend_counts;
        keeps = attend_keeps;
        unfailed = λ old new told t did three four seven. attend_unfailed old new told t did three;
        read_fault = attend_read;
        write_fault = attend_write;
        stops = attend_stops;
      }

-- ---- the image

put_statuses : (told : Told) → statuses (with_put told true) ≡ statuses told
put_statuses told = ap (λ (put : Bool). of_sessions told.answers ++ (of_tails told.tails ++ (accept_status told.all_came ∷ (put_status put ∷ (first_status told.first ∷ []))))) (stays told.put) where
  stays : (put : Bool) → (put && true) ≡ put
  stays true = refl
  stays false = refl

-- one that failed
unput : (put : Bool) → put_status (put && false) ≡ 4
unput true = refl
unput false = refl

unput_at : (told : Told) → Contains (statuses (with_put told false)) 4
unput_at told = is_met (with_put told false) (put_status (told.put && false)) 4 (unput told.put) (put_at (with_put told false))

unput_keeps : (told : Told) (status : ℕ) → 1 ≤ status → Contains (statuses told) status → Contains (statuses (with_put told false)) status
unput_keeps told status some at =
    let t = with_put told false in
    elim (gave told status at) [
      | inl session ↦ is_met t (session_status (told_of session.0)) status session.2 (session_at t session.0 session.1)
      | inr (inl behind) ↦ is_met t (tail_status (told_tail behind.0)) status behind.2 (tail_at t behind.0 behind.1)
      | inr (inr (inl accept)) ↦ is_met t (accept_status told.all_came) status accept (accepted_at t)
      | inr (inr (inr (inl put))) ↦ elim (put_few told.put status put) [ inl none ↦ absurd (omega (arith, some, none)) | inr four ↦ is_met t 4 status (sym four) (unput_at told) ]
      | inr (inr (inr (inr first))) ↦ is_met t (first_status told.first) status first (first_at t)
    ]

unput_only : (told : Told) (status : ℕ) → Contains (statuses (with_put told false)) status → (status ≡ 0) ⊎ ((status ≡ 4) ⊎ Contains (statuses told) status)
unput_only told status at = elim (gave (with_put told false) status at) [
  | inl session ↦ inr (inr (is_met told (session_status (told_of session.0)) status session.2 (session_at told session.0 session.1)))
  | inr (inl behind) ↦ inr (inr (is_met told (tail_status (told_tail behind.0)) status behind.2 (tail_at told behind.0 behind.1)))
  | inr (inr (inl accept)) ↦ inr (inr (is_met told (accept_status told.all_came) status accept (accepted_at told)))
  | inr (inr (inr (inl put))) ↦ inr (inl (sym put ∙ unput told.put))
  | inr (inr (inr (inr first))) ↦ inr (inr (is_met told (first_status told.first) status first (first_at told)))
]

module _ (name : List ℕ) where
  put_counts : (old new : World) (told : Told) (end : Result Told Stop) → PutsImage name old told new end → GoesOn old new
  put_counts old new told (Ok t) did =
      back_same old new (shelf_counts (PutsBytes name (image_of told.state)) old new (put_answer did.put) did.does) (ap (λ (w : World). w.door.back) did.does.others)
  put_counts old new told (Err stop.NoMemory) did =
      back_same old new (shelf_counts (PutsBytes name (image_of told.state)) old new (Err stop.NoMemory) did) (ap (λ (w : World). w.door.back) did.others)
  put_counts old new told (Err e) did = absurd did

  abbrev ToldSo : World → Told → World → Told → Type 0
  ToldSo old told new t =
      ((statuses t ≡ statuses told) × Unfailed old new) ⊎ (HostWrites old new × Contains (statuses t) 4 × ((status : ℕ) → 1 ≤ status → Contains (statuses told) status → Contains (statuses t) status) × ((status : ℕ) → Contains (statuses t) status → (status ≡ 0) ⊎ ((status ≡ 4) ⊎ Contains (statuses told) status)))

  put_told : (old new : World) (told : Told) (put : Bool) → OnShelf (PutsBytes name (image_of told.state)) old new (put_answer put) → ToldSo old told new (with_put told put)
  put_told old new told true puts = inl (put_statuses told, shelf_unfailed (PutsBytes name (image_of told.state)) old new (Ok tt) tt puts)
  put_told old new told false puts = inr (inl puts.does.0, unput_at told, unput_keeps told, unput_only told)

  put_stops : (old new : World) (told : Told) (e : Stop) → PutsImage name old told new (Err e) → host_rules.stop e ≡ 7
  put_stops old new told stop.NoMemory did = refl
  put_stops old new told e did = absurd did

  pub put_honest : IsHonest host_rules (PutsImage name)
  put_honest =
      writing_honest host_rules are_rules (PutsImage name)
      (record {
        counts = put_counts;
        told_so = λ old new told t did. subst (λ (x : Told). ToldSo old told new x) (sym did.told_is) (put_told old new told did.put did.does);
        stops = put_stops;
      })

-- ---- all of it

-- before any link only refused rows were met
begun_few : (state : StateValue AuthorisedValue) (first : Option RefusedRow) (status : ℕ) → 2 ≤ status → IsUnmet (statuses (none_told state first)) status
begun_few state first status large at = elim (gave (none_told state first) status at) [
  | inl session ↦ omega (arith, session.1.1)
  | inr (inl behind) ↦ omega (arith, behind.1.1)
  | inr (inr (inl accept)) ↦ omega (arith, accept, large)
  | inr (inr (inr (inl put))) ↦ omega (arith, put, large)
  | inr (inr (inr (inr is))) ↦ let small = first_small first in omega (arith, is, small, large)
]

pub host_owes : (way : Way) (area : Area) (p : List ℕ → List ℕ → Party) (signers : List KeySigner) (draws : List (List ℕ)) (rows : ℕ) (name : List ℕ) (state : StateValue AuthorisedValue) (first : Option RefusedRow)
    → Owes host_rules (HostsLinks way area p signers draws rows name) (none_told state first)
host_owes way area p signers draws rows name state first =
    owes host_rules are_rules (HostsLinks way area p signers draws rows name) (behind_honest host_rules are_rules (RunsSessions way area p signers draws rows) (PutsImage name) (attend_honest way area p signers draws rows) (put_honest name))
    (none_told state first) (begun_few state first 3 (omega arith)) (begun_few state first 4 (omega arith))

-- where no session has it, nor what followed one, no status from 5 on was met
pub done_unmet : (t : Told) (status : ℕ) → 5 ≤ status → ((answer : Answer) → Contains t.answers answer → session_status (told_of answer) ≢ status) → ((tail : Tail) → Contains t.tails tail → tail_status (told_tail tail) ≢ status) → IsUnmet (statuses t) status
done_unmet t status large sessions tails at = elim (gave t status at) [
  | inl session ↦ sessions session.0 session.1 session.2
  | inr (inl behind) ↦ tails behind.0 behind.1 behind.2
  | inr (inr (inl accept)) ↦ elim (accept_few t.all_came status accept) [ inl none ↦ omega (arith, none, large) | inr three ↦ omega (arith, three, large) ]
  | inr (inr (inr (inl put))) ↦ elim (put_few t.put status put) [ inl none ↦ omega (arith, none, large) | inr four ↦ omega (arith, four, large) ]
  | inr (inr (inr (inr first))) ↦ let small = first_small t.first in omega (arith, first, small, large)
]
