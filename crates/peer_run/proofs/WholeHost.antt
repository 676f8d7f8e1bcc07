-- A run of `sync` or of `serve` kept to the headline.
use Rattle.std.proofs.Common.{◌≡◌, ◌≢◌, ◌∙◌, ◌⊎◌, ℕ, ◌≤◌, Bool, true, false, ◌&&◌, List, ◌++◌, Contains, Option, Some, None, length, map, inl, inr, refl, sym, subst, ap, arith}
use Rattle.std.specs.Prelude.{String, IsNone, IsSome, Result, Ok, Err}
use Rattle.std.specs.Global.{Vec}
use Rattle.std.specs.String.{string_bytes}
use Rattle.std.specs.declared.alloc.Global.{Global}
use Rattle.area_interest.specs.declared.interest.Interest.{Interest}
use Rattle.std.proofs.lemmas.List.Elements.{Contains-get_or}
use Rattle.willow_outside.specs.Facts.{BayFacts, ShelfFacts, DoorFacts, NoiseFacts}
use Rattle.willow_entry.specs.Row.{RowValue, live}
use Rattle.willow_entry.specs.declared.row.LogRow.{LogRow}
use Rattle.cap_codec.specs.Rows.{RawValue, row_of}
use Rattle.auth_entry.specs.Authorised.{AuthorisedValue}
use Rattle.ns_state.specs.Log.{IsLog}
use Rattle.lms_core.specs.Use.{peer_rules}
use Rattle.lms_core.specs.declared.scheme.PeerScheme.{PeerScheme}
use Rattle.mc_cap.specs.declared.refusal.RefusedRow.{RefusedRow}
use Rattle.mc_cap.specs.declared.refusal.RowRefusal.{RowRefusal}
use Rattle.auth_entry.specs.Rows.{entry_row}
use Rattle.session_end.specs.declared.end.SessionEnd.{SessionEnd}
use Rattle.session_end.specs.declared.end.SessionEnd.TheVariants as ending
use Rattle.sync_msg.specs.declared.role.Role.{Role}
use Rattle.sync_link.specs.Kept.{log_rows}
use Rattle.sync_link.specs.Plans.{planned}
use Rattle.sync_link.specs.Run.{Answer}
use Rattle.sync_link.specs.Sessions.{Party}
use Rattle.sync_link.specs.declared.plan.SessionPlan.{SessionPlan}
use Rattle.call_rules.specs.Told.{told_order}
use Rattle.call_rules.specs.Parts.{status_told}
use Rattle.call_rules.specs.Visits.{AreVisits}
use Rattle.call_rules.proofs.Elements.{contains_map}
use Rattle.call_rules.proofs.Told.{AreUnmet, small_unmet, zero_unmet, told_met}
use Rattle.peer_image.specs.Image.{image}
use Rattle.peer_make.specs.KeySigners.{AreSignersOf}
use Rattle.peer_make.specs.declared.key_signer.KeySigner.{KeySigner}
use Rattle.peer_make.specs.Making.{DrawsAll, TakesDraws}
use Rattle.peer_make.proofs.Many.{as_many}
use Rattle.peer_report.specs.Report.{Reports}
use Rattle.peer_rows.specs.Logged.{first_refused}
use Rattle.peer_stage.specs.Shelves.{PutsBytes}
use Rattle.peer_stage.specs.Status.{status_of, session_status, tail_status, end_status, accept_status, put_status, first_status}
use Rattle.peer_stage.specs.Steps.{OnNoise}
use Rattle.peer_stage.specs.World.{World}
use Rattle.peer_stage.specs.declared.outcome.Done.{Done}
use Rattle.peer_stage.specs.declared.outcome.Done.TheVariants as done
use Rattle.peer_stage.specs.declared.outcome.Hosted.{Hosted}
use Rattle.peer_stage.specs.declared.outcome.Stop.{Stop}
use Rattle.peer_stage.specs.declared.outcome.Stop.TheVariants as stop
use Rattle.peer_stage.proofs.Ends.{accept_few, put_few}
use Rattle.peer_words.specs.Alike.{AreAlike, AreSameSigner, AreSameTextIfAny}
use Rattle.mc_cap.specs.Grant.{granted}
use Rattle.peer_words.specs.Areas.{completed}
use Rattle.sub_hub.specs.Hubs.{HubValue}
use Rattle.willow_area.specs.declared.area.Area.{Area}
use Rattle.peer_words.specs.Commands.{IsWords}
use Rattle.peer_words.specs.declared.command.AreaWords.{AreaWords}
use Rattle.peer_words.specs.declared.command.Command.{Command}
use Rattle.peer_words.specs.declared.command.Command.TheVariants as cmd
use Rattle.peer_words.specs.declared.command.SignerWord.{SignerWord}
use Rattle.peer_words.proofs.OneCommand.{at_most_one}
use Rattle.peer_run.specs.Calling.{IsUnasked}
use Rattle.peer_run.specs.Closing.{image_of, put_answer}
use Rattle.peer_run.specs.Deeds.{deed_of}
use Rattle.peer_run.specs.Greeting.{own_hello, own_refusal}
use Rattle.peer_run.specs.Hearing.{HearsSessions, rows_behind}
use Rattle.peer_run.specs.HostHeadline.{AnswersOk, HasHosted, HasVisited, HostPromises, IsTailDone, IsUnhosted, IsWholeHost, KeepsButKeys, PutsOrFails, ServeHeadline, SyncHeadline}
use Rattle.peer_run.specs.Hosting.{DoesHost, HasFiled, HostsLinks, HostsWith, KeepsIn, PutsImage, calling_words, host_rules, plans_of, own_role, serving_words, way_of}
use Rattle.peer_run.specs.LogClosing.{GivesBack, filed_end, kept_told}
use Rattle.peer_run.specs.LogFiles.{FileState}
use Rattle.peer_run.specs.LogFiles.{Keeps as KeepsRows}
use Rattle.peer_run.specs.LogGiven.{AreFiled, HasOpeningRows, opening_rows}
use Rattle.peer_run.specs.LogKept.{HasKeptLog, KeepsLog}
use Rattle.peer_run.specs.LogOpening.{TellsRows}
use Rattle.peer_run.specs.PairDeeds.{HasImage, HoldsCapability}
use Rattle.peer_run.specs.Preparing.{no_nonce, nonce_of}
use Rattle.peer_run.specs.Run.{Run, RunsWords, before_report}
use Rattle.peer_run.specs.SideGiven.{SideGiven, AreSideGiven, party_of}
use Rattle.peer_run.specs.Telling.{TellsHosted, TellsJust, Told, none_told, first_with_tails, statuses, told_of, told_tail}
use Rattle.peer_run.specs.Visiting.{Visit, IsVisit, IsShared, AreBack, Accepts, StopsAttending, first_number}
use Rattle.peer_run.specs.declared.sessions.House as house
use Rattle.peer_run.specs.declared.sessions.HostWords.{HostWords}
use Rattle.peer_run.specs.declared.tails.Tail.{Tail}
use Rattle.peer_run.specs.declared.tails.Tail.TheVariants.{Nothing, Fed, Followed}
use Rattle.peer_run.proofs.AllNew.{filed_is, filed_raw, opening_is}
use Rattle.peer_run.proofs.Ends.{memory_end, own_seven, own_status}
use Rattle.peer_run.proofs.NeverStops.{Never, then_never}
use Rattle.peer_run.proofs.FiledEnds.{hosted_small, kept_same, put_stays}
use Rattle.peer_run.proofs.HeardBehind.{heard_front}
use Rattle.peer_run.proofs.HostAbove.{has_visited}
use Rattle.peer_run.proofs.StoredCounts.{log_counts}
use Rattle.peer_run.proofs.HostBegun.{HasHouse, has_house, plan_asks, keeps_as, opening_keeps, opening_never, reserved_keeps, signers_as}
use Rattle.peer_run.proofs.HostDeeds.{opening_keeps_door, status_is}
use Rattle.peer_run.proofs.KeptLogs.{keeps_none, keeps_some}
use Rattle.peer_run.proofs.HostParts.{accepted_at, first_at, gave, put_at, session_at, tail_at}
use Rattle.peer_run.proofs.WholeMeeting.{same_limits}

-- ---- what was done behind an opened house

puts_as : (name : List ℕ) (put : Bool) (n : List ℕ) (rows : List RowValue) (h h' : ShelfFacts) → PutsBytes name (image n rows) h h' (put_answer put) → PutsOrFails name put n rows h h'
puts_as name true n rows h h' puts = puts
puts_as name false n rows h h' puts = puts

module _ (words : HostWords) (file : Option FileState) (run : Run) (s : house.House) (began : World) (draws : Vec (List ℕ)) (drawn after : World) (t : Told) (told : Hosted)
    (opened : HasHouse (own_role words.awaited) words.image words.cap words.key words.links words.area words.limits words.log file run.old began s)
    (drew : OnNoise (DrawsAll words.links) began drawn (Ok draws))
    (hosts : HostsLinks (way_of words) s.plan.ask (plans_of s) s.signers.items draws.items s.opening.rows (string_bytes words.image) drawn (none_told s.opening.state s.opening.first) after (Ok t))
    (is_told : TellsJust words.awaited t told) (behind : before_report run ≡ record after { bay = run.new.bay }) where
  abbrev n : List ℕ
  n = opened.front.given.namespace

  abbrev rows : List RawValue
  rows = opened.front.given.rows.items

  abbrev given : SideGiven
  given = record { namespace = n; rows = rows; cap = opened.front.capability }

  abbrev opening : List (LogRow AuthorisedValue)
  opening = s.opening.state.log

  abbrev so_far : Told
  so_far = hosts.so_far

  abbrev visits : List Visit
  visits = hosts.given.does.visits

  -- ---- the sessions

  party_is : plans_of s ≡ party_of (own_role words.awaited) words.area words.limits given
  party_is =
      let by_namespace : List ℕ → List ℕ → List ℕ → Party = λ m draw. planned peer_rules m s.plan (nonce_of draw) in
      let by_plan : SessionPlan PeerScheme → List ℕ → List ℕ → Party = λ plan draw. planned peer_rules n plan (nonce_of draw) in
      ap by_namespace opened.front.opened.of_namespace ∙ ap by_plan (plan_asks (own_role words.awaited) words.image words.cap words.key words.links words.area words.limits words.log file run.old began s opened)

  are_visits : AreVisits (IsVisit words.awaited words.follow opening so_far.state.log (party_of (own_role words.awaited) words.area words.limits given)) (first_number words.awaited) s.signers.items draws.items visits
  are_visits = subst (λ (p : List ℕ → List ℕ → Party). AreVisits (IsVisit words.awaited words.follow opening so_far.state.log p) (first_number words.awaited) s.signers.items draws.items visits) party_is hosts.given.does.are_visits

  abbrev opens : HasOpeningRows words.log n rows run.old.bay opening
  opens = record {
    filed = opened.front.filed;
    read_out = filed_raw words.log file n run.old.bay opened.prepared.bay opened.front.filed opened.front.is_filed;
    are_filed = filed_is words.log file n run.old.bay opened.prepared.bay opened.front.filed opened.front.is_filed;
    are_rows = opening_is words.log file n rows run.old.bay opened.prepared.bay opened.front.filed s.opening opened.front.has_image.is_image.in_order opened.front.is_filed opened.front.opened;
  }

  -- the rows of the image and of the log file
  abbrev all_rows : List RawValue
  all_rows = rows ++ opened.front.filed

  -- the bay is as the log file was opened
  bay_is : after.bay ≡ opened.prepared.bay
  bay_is = ap (λ (w : World). w.bay) hosts.rest.does.others ∙ ap (λ (w : World). w.bay) hosts.given.others ∙ ap (λ (w : World). w.bay) drew.others ∙ opened.bay_is

  as_many_signers : length s.signers.items ≡ words.links
  as_many_signers = as_many words.key words.links run.old.shelf began.shelf s.signers.items opened.reserved

  -- ---- the objects

  door_before : drawn.door ≡ run.old.door
  door_before = ap (λ (w : World). w.door) drew.others ∙ ap (λ (w : World). w.door) opened.others

  door_after : hosts.between.door ≡ run.new.door
  door_after = sym (ap (λ (w : World). w.door) behind ∙ ap (λ (w : World). w.door) hosts.rest.does.others)

  -- what holds of the door round the sessions holds of it round the run
  at_run : (P : DoorFacts → DoorFacts → Type 0) → P drawn.door hosts.between.door → P run.old.door run.new.door
  at_run P holds = subst (λ (d : DoorFacts). P d run.new.door) door_before (subst (λ (d : DoorFacts). P drawn.door d) door_after holds)

  are_back : AreBack (string_bytes words.place) run.old.door run.new.door (map (λ (visit : Visit). visit.link) visits)
  are_back = at_run (λ (d d' : DoorFacts). AreBack (string_bytes words.place) d d' (map (λ (visit : Visit). visit.link) visits)) hosts.given.does.back

  accepts : Accepts words.awaited words.links (length visits) so_far.all_came run.old.door run.new.door
  accepts =
      subst (λ (links : ℕ). Accepts words.awaited links (length visits) so_far.all_came run.old.door run.new.door) as_many_signers
      (at_run (λ (d d' : DoorFacts). Accepts words.awaited (length s.signers.items) (length visits) so_far.all_came d d') hosts.given.does.accepts)

  noise_before : began.noise ≡ run.old.noise
  noise_before = ap (λ (w : World). w.noise) opened.others

  noise_after : drawn.noise ≡ run.new.noise
  noise_after = sym (ap (λ (w : World). w.noise) behind ∙ ap (λ (w : World). w.noise) hosts.rest.does.others ∙ ap (λ (w : World). w.noise) hosts.given.others)

  all_draws : TakesDraws run.old.noise run.new.noise draws.items
  all_draws =
      subst (λ (f : NoiseFacts). TakesDraws f run.new.noise draws.items) noise_before
      (subst (λ (f : NoiseFacts). TakesDraws began.noise f draws.items) noise_after drew.does.2)

  shelf_before : hosts.between.shelf ≡ began.shelf
  shelf_before = ap (λ (w : World). w.shelf) hosts.given.others ∙ ap (λ (w : World). w.shelf) drew.others

  namespace_is : so_far.state.namespace ≡ n
  namespace_is = hosts.given.does.of_namespace ∙ opened.front.opened.of_namespace

  is_put : PutsOrFails (string_bytes words.image) hosts.rest.put n (live (log_rows so_far.state.log)) began.shelf run.new.shelf
  is_put =
      let here =
      subst (λ (h : ShelfFacts). PutsBytes (string_bytes words.image) (image_of so_far.state) began.shelf h (put_answer hosts.rest.put)) (sym (ap (λ (w : World). w.shelf) behind))
      (subst (λ (h : ShelfFacts). PutsBytes (string_bytes words.image) (image_of so_far.state) h after.shelf (put_answer hosts.rest.put)) shelf_before hosts.rest.does.does) in
      puts_as (string_bytes words.image) hosts.rest.put n (live (log_rows so_far.state.log)) began.shelf run.new.shelf
      (subst (λ (m : List ℕ). PutsBytes (string_bytes words.image) (image m (live (log_rows so_far.state.log))) began.shelf run.new.shelf (put_answer hosts.rest.put)) namespace_is here)

  -- ---- those who watch

  area_is : s.plan.ask ≡ completed words.area (granted given.cap)
  area_is = ap (λ (plan : SessionPlan PeerScheme). plan.ask) (plan_asks (own_role words.awaited) words.image words.cap words.key words.links words.area words.limits words.log file run.old began s opened)

  hub_before : drawn.hub ≡ run.old.hub
  hub_before = ap (λ (w : World). w.hub) drew.others ∙ ap (λ (w : World). w.hub) opened.others

  hub_after : hosts.between.hub ≡ run.new.hub
  hub_after = sym (ap (λ (w : World). w.hub) behind ∙ ap (λ (w : World). w.hub) hosts.rest.does.others)

  told_watchers : HearsSessions words.awaited (completed words.area (granted given.cap)) n opening so_far.state.log run.old.hub run.new.hub so_far.left
  told_watchers =
      subst (λ (u : HubValue). HearsSessions words.awaited (completed words.area (granted given.cap)) n opening so_far.state.log run.old.hub u so_far.left) hub_after
      (subst (λ (u : HubValue). HearsSessions words.awaited (completed words.area (granted given.cap)) n opening so_far.state.log u hosts.between.hub so_far.left) hub_before
      (subst (λ (m : List ℕ). HearsSessions words.awaited (completed words.area (granted given.cap)) m opening so_far.state.log drawn.hub hosts.between.hub so_far.left) opened.front.opened.of_namespace
      (subst (λ (area : Area). HearsSessions words.awaited area s.opening.state.namespace opening so_far.state.log drawn.hub hosts.between.hub so_far.left) area_is hosts.given.heard)))

  -- ---- what is told

  first_is : so_far.first ≡ first_with_tails (length all_rows) (first_refused n all_rows) so_far.answers so_far.tails
  first_is =
      hosts.given.first_is
      ∙ ap (λ (f : Option RefusedRow). first_with_tails s.opening.rows f so_far.answers so_far.tails) opened.front.opened.first_is
      ∙ ap (λ (k : ℕ). first_with_tails k (first_refused n all_rows) so_far.answers so_far.tails) opened.front.opened.counted

  -- whatever was told before the put was that all is well
  told_put : record { answers = so_far.answers; tails = so_far.tails; all_came = so_far.all_came; first = so_far.first; left = so_far.left; put = hosts.rest.put; state = so_far.state } ≡ t
  told_put = ap (λ (put : Bool). record { answers = so_far.answers; tails = so_far.tails; all_came = so_far.all_came; first = so_far.first; left = so_far.left; put = put; state = so_far.state }) (by so_far.put hosts.rest.put hosts.given.put_is) ∙ sym hosts.rest.told_is where
    by : (before put : Bool) → before ≡ true → put ≡ (before && put)
    by true put is = refl
    by false put is = absurd cc

  -- ---- all of it

  pub has_hosted : (reported : Hosted) → KeepsLog words.log n (rows_behind opening so_far.state.log) run.old.bay run.new.bay told reported → Reports run.old.report run.new.report (Ok (done.Hosted reported)) run.status → HasHosted words run
  has_hosted reported keeps reports =
      record {
        given = given;
        are_given = record { image = opened.front.has_image; cap = opened.front.has_capability; passes = opened.front.passes };
        signers = s.signers.items;
        reserved = began.shelf;
        are_signers = opened.reserved;
        counted = opened.counted;
        draws = draws.items;
        are_draws = drew.does.1;
        drawn = all_draws;
        as_many = (as_many_signers, drew.does.0);
        told = record { answers = so_far.answers; tails = so_far.tails; all_came = so_far.all_came; first = so_far.first; left = so_far.left; put = hosts.rest.put; state = so_far.state };
        visits = visits;
        are_back = are_back;
        accepts = accepts;
        called = hosts.given.does.called;
        opening = opening;
        opens = opens;
        shared = hosts.given.does.shared;
        is_log = subst (λ (m : List ℕ). IsLog {R = AuthorisedValue} entry_row m so_far.state.log) opened.front.opened.of_namespace hosts.given.does.is_log;
        are_visits = are_visits;
        visited = λ p number signer draw visit of_visit. has_visited hosts.given.does.is_log.few of_visit;
        told_watchers = told_watchers;
        front = λ served. heard_front words.awaited (completed words.area (granted given.cap)) n opening so_far.state.log run.old.hub run.new.hub so_far.left served told_watchers;
        front_counts = λ served done. heard_front words.awaited (completed words.area (granted given.cap)) n opening so_far.state.log run.old.hub run.new.hub so_far.left served told_watchers
            ∙ log_counts words.awaited words.follow opening so_far.state.log (plans_of s) s.signers.items draws.items visits so_far.answers served hosts.given.does.shared hosts.given.does.are_visits hosts.given.does.ends done;
        is_put = is_put;
        answers_are = hosts.given.does.ends;
        tails_are = hosts.given.does.tailed;
        first_is = first_is;
        hosted = told;
        is_hosted = subst (λ (x : Told). TellsJust words.awaited x told) (sym told_put) is_told;
        reported = reported;
        keeps = keeps;
        reports = reports;
      }

-- ---- at 0 and 1

done_one : (t : Told) → AreUnmet (statuses t) → (answer : Answer) → Contains t.answers answer → AnswersOk answer
done_one t none (Ok report) at = tt
done_one t none (Err ending.NoMemory) at = absurd (none.seven (session_at t (Err ending.NoMemory) at))
done_one t none (Err ending.LinkRead) at = absurd (none.three (session_at t (Err ending.LinkRead) at))
done_one t none (Err ending.LinkWrite) at = absurd (none.four (session_at t (Err ending.LinkWrite) at))
done_one t none (Err (ending.LogFull missed)) at = absurd (none.eight (session_at t (Err (ending.LogFull missed)) at))
done_one t none (Err end) at = absurd (none.six (session_at t (Err end) at))

-- nor is there one that did not come to its end of what followed them
end_done : (t : Told) → AreUnmet (statuses t) → (end : SessionEnd) → ((k : ℕ) → end_status end ≡ k → Contains (statuses t) k) → ⊥
end_done t none ending.NoMemory at = none.seven (at 7 refl)
end_done t none ending.LinkRead at = none.three (at 3 refl)
end_done t none ending.LinkWrite at = none.four (at 4 refl)
end_done t none (ending.LogFull missed) at = none.eight (at 8 refl)
end_done t none end at = none.six (at 6 refl)

tail_one : (t : Told) → AreUnmet (statuses t) → (tail : Tail) → Contains t.tails tail → IsTailDone tail
tail_one t none (Fed (Err end)) at = absurd (end_done t none end (λ k is. subst (λ (n : ℕ). Contains (statuses t) n) is (tail_at t (Fed (Err end)) at)))
tail_one t none (Followed (Err end)) at = absurd (end_done t none end (λ k is. subst (λ (n : ℕ). Contains (statuses t) n) is (tail_at t (Followed (Err end)) at)))
tail_one t none (Fed (Ok fed)) at = tt
tail_one t none (Followed (Ok report)) at = tt
tail_one t none Nothing at = tt

end_large : (end : SessionEnd) → 3 ≤ end_status end
end_large ending.NoMemory = omega arith
end_large ending.LinkRead = omega arith
end_large ending.LinkWrite = omega arith
end_large (ending.LogFull missed) = omega arith
end_large end = omega arith

-- no session has status 1
not_one : (answer : Answer) → session_status (told_of answer) ≢ 1
not_one (Ok report) is = omega (arith, is)
not_one (Err end) is = let large = end_large end in omega (arith, is, large)

-- nor has what followed one
tail_not_one : (tail : Tail) → tail_status (told_tail tail) ≢ 1
tail_not_one (Fed (Err end)) is = let large = end_large end in omega (arith, is, large)
tail_not_one (Followed (Err end)) is = let large = end_large end in omega (arith, is, large)
tail_not_one (Fed (Ok fed)) is = omega (arith, is)
tail_not_one (Followed (Ok report)) is = omega (arith, is)
tail_not_one Nothing is = omega (arith, is)

is_some : (first : Option RefusedRow) → first_status first ≡ 1 → IsSome first
is_some None is = absurd (omega (arith, is))
is_some (Some row) is = refl

is_none : (first : Option RefusedRow) → first_status first ≢ 1 → IsNone first
is_none None other = refl
is_none (Some row) other = absurd (other refl)

module _ (words : HostWords) (run : Run) (hosted : HasHosted words run) (status : run.status ≡ status_told host_rules (Ok hosted.told)) (small : run.status ≤ 1) (kept : hosted.told.put ≡ true → hosted.reported.put ≡ true) where
  abbrev t : Told
  t = hosted.told

  none : AreUnmet (statuses t)
  none = small_unmet (statuses t) (subst (λ (k : ℕ). k ≤ 1) status small)

  came : (all_came : Bool) → t.all_came ≡ all_came → all_came ≡ true
  came true is = refl
  came false is = absurd (none.three (subst (λ (k : ℕ). Contains (statuses t) k) (ap accept_status is) (accepted_at t)))

  was_put : (put : Bool) → t.put ≡ put → put ≡ true
  was_put true is = refl
  was_put false is = absurd (none.four (subst (λ (k : ℕ). Contains (statuses t) k) (ap put_status is) (put_at t)))

  refused : run.status ≡ 1 → IsSome t.first
  refused is = elim (told_met told_order (statuses t)) [
    | inl zero_is ↦ absurd (omega (arith, zero_is, is, status))
    | inr at ↦ elim (gave t 1 (subst (λ (k : ℕ). Contains (statuses t) k) (sym status ∙ is) at)) [
      | inl session ↦ absurd (not_one session.0 session.2)
      | inr (inl behind) ↦ absurd (tail_not_one behind.0 behind.2)
      | inr (inr (inl accept)) ↦ elim (accept_few t.all_came 1 accept) [ inl none ↦ absurd (omega (arith, none)) | inr three ↦ absurd (omega (arith, three)) ]
      | inr (inr (inr (inl put))) ↦ elim (put_few t.put 1 put) [ inl none ↦ absurd (omega (arith, none)) | inr four ↦ absurd (omega (arith, four)) ]
      | inr (inr (inr (inr first))) ↦ is_some t.first first
    ]
  ]

  visit_done : (visit : Visit) → Contains hosted.visits visit → AnswersOk visit.answer
  visit_done visit at =
      done_one t none visit.answer
      (subst (λ (l : List Answer). Contains l visit.answer) (sym hosted.answers_are) (contains_map (λ (visit : Visit). visit.answer) hosted.visits visit at))

  visit_followed : (visit : Visit) → Contains hosted.visits visit → IsTailDone visit.tail
  visit_followed visit at =
      tail_one t none visit.tail (subst (λ (l : List Tail). Contains l visit.tail) (sym hosted.tails_are) (contains_map (λ (visit : Visit). visit.tail) hosted.visits visit at))

  pub is_whole : IsWholeHost words run
  is_whole =
      record {
        hosted = hosted;
        all_came = came t.all_came refl;
        all_done = λ k d within. visit_done _ (Contains-get_or hosted.visits k d within);
        all_followed = λ k d within. visit_followed _ (Contains-get_or hosted.visits k d within);
        put = was_put t.put refl;
        kept = kept (was_put t.put refl);
        all_authorised = λ zero_is. is_none t.first (λ one. zero_unmet (statuses t) (sym status ∙ zero_is) (subst (λ (k : ℕ). Contains (statuses t) k) one (first_at t)));
        some_refused = refused;
      }

-- ---- the ends of a command

-- A command that came so far: what it owes the headline where it put the image or tried to, and where it asked for no place.
pub record Keeps (words : HostWords) (run : Run) (end : Result Done Stop) : Type 0 where
  pub hosted : Reports run.old.report run.new.report end run.status → status_of end ≢ 7 → IsUnhosted words run ⊎ HasHosted words run
  pub whole : Reports run.old.report run.new.report end run.status → run.status ≡ status_of end → run.status ≤ 1 → IsWholeHost words run

-- A command that stopped, as it left the objects: it asked for no place, but for want of memory, and no status is small.
pub record Stops (words : HostWords) (old new : World) (e : Stop) : Type 0 where
  pub unasked : status_of (Err e) ≢ 7 → IsUnasked old.door new.door
  pub unput : status_of (Err e) ≢ 7 → KeepsButKeys words.key words.links old.shelf new.shelf
  pub large : status_of (Err e) ≤ 1 → ⊥

module _ (words : HostWords) (file : Option FileState) (old after : World) where
  abbrev role : Role
  role = own_role words.awaited

  -- the door was not asked, seen from behind steps that left it as it was
  unasked_before : (between : World) → between.door ≡ old.door → IsUnasked between.door after.door → IsUnasked old.door after.door
  unasked_before between same unasked = subst (λ (d : DoorFacts). IsUnasked d after.door) same unasked

  door_unasked : after.door ≡ old.door → IsUnasked old.door after.door
  door_unasked same = record { asked = ap (λ (d : DoorFacts). d.asked) same; out = ap (λ (d : DoorFacts). d.out) same; back = ap (λ (d : DoorFacts). d.back) same }

  -- no place was asked for
  unhosted : (e : Stop) → (status_of (Err e) ≤ 1 → ⊥) → IsUnasked old.door after.door → KeepsButKeys words.key words.links old.shelf after.shelf → Stops words old after e
  unhosted e large unasked unput = record { unasked = λ memory. unasked; unput = λ memory. unput; large = large }

  -- a stop with want of memory owes nothing
  wanting : Stops words old after stop.NoMemory
  wanting = record { unasked = λ memory. absurd (memory refl); unput = λ memory. absurd (memory refl); large = λ small. omega (arith, small) }

  never_refused : (refusal : RowRefusal) → Never (HostsWith words file) (stop.Refused refusal)
  never_refused refusal =
      then_never _ _ (stop.Refused refusal) (opening_never role words.image words.cap words.key words.links words.area words.limits words.log file refusal) (λ c.
      then_never _ _ (stop.Refused refusal) (record { never = λ old new s. s.does }) (λ draws. record { never = λ old new end. elim end [ inl s ↦ s.0 | inr q ↦ q.rest ] }))

  small_stop : (e : Stop) → HostsWith words file old after (Err e) → status_of (Err e) ≤ 1 → ⊥
  small_stop (stop.Refused refusal) hosts small = (never_refused refusal).never old after hosts
  small_stop e hosts small = omega (arith, small)

  -- a stop behind the reservation, of a step that left the shelf as it was
  behind_begun : (e : Stop) (s : house.House) (began : World) → HostsWith words file old after (Err e) → HasHouse role words.image words.cap words.key words.links words.area words.limits words.log file old began s → after.shelf ≡ began.shelf
      → IsUnasked old.door after.door → Stops words old after e
  behind_begun e s began hosts opened shelf unasked =
      unhosted e (small_stop e hosts) unasked (reserved_keeps words.key words.links old.shelf began.shelf after.shelf s.signers.items opened.reserved shelf)

  -- where no sessions are told, no place was asked for, but for want of memory
  run_stops : (e : Stop) (d : DoorFacts) → StopsAttending (way_of words) d after.door e → (IsUnasked d after.door → Stops words old after e) → Stops words old after e
  run_stops stop.ReadFault d s keep = keep s.0
  run_stops stop.NoMemory d s keep = wanting
  run_stops e d s keep = absurd s

  put_stops : (e : Stop) (name : List ℕ) (told : Told) (before new : World) → PutsImage name before told new (Err e) → Stops words old after e
  put_stops stop.NoMemory name told before new f = wanting
  put_stops e name told before new f = absurd f

  stopped : (e : Stop) → HostsWith words file old after (Err e) → Stops words old after e
  stopped e hosts =
      elim hosts [
        | inl s ↦
            unhosted e (small_stop e (inl s)) (door_unasked (opening_keeps_door role words.image words.cap words.key words.links words.area words.limits words.log file old after (Err e) s))
            (opening_keeps role words.image words.cap words.key words.links words.area words.limits words.log file old after e s)
        | inr p ↦
            let opened = has_house role words.image words.cap words.key words.links words.area words.limits words.log file old p.between p.value p.given in
            let door = ap (λ (w : World). w.door) opened.others in
            elim p.rest [
              | inl s ↦ behind_begun e p.value p.between (inr p) opened (ap (λ (w : World). w.shelf) s.others) (door_unasked (ap (λ (w : World). w.door) s.others ∙ door))
              | inr q ↦
                  let before = ap (λ (w : World). w.door) q.given.others ∙ door in
                  elim q.rest [
                    | inl s ↦
                        let shelf = ap (λ (w : World). w.shelf) s.1 ∙ ap (λ (w : World). w.shelf) q.given.others in
                        run_stops e q.between.door s.0 (λ unasked. behind_begun e p.value p.between (inr p) opened shelf (unasked_before q.between before unasked))
                    | inr r ↦ put_stops e (string_bytes words.image) r.so_far r.between after r.rest
                  ]
            ]
      ]

-- so the run that came to this stop owes the headline nothing more, whether a log file was open or not
stop_keeps : (words : HostWords) (run : Run) (after : World) (e : Stop) (end : Result Done Stop) → Stops words run.old after e → before_report run ≡ record after { bay = run.new.bay } → status_of end ≡ status_of (Err e) → Keeps words run end
stop_keeps words run after e end stops behind same =
    record {
      hosted = λ reports memory.
          let other : status_of (Err e) ≢ 7 = λ seven. memory (same ∙ seven) in
          inl (record {
            unasked = subst (λ (d : DoorFacts). IsUnasked run.old.door d) (sym (ap (λ (w : World). w.door) behind)) (stops.unasked other);
            unput = subst (λ (h : ShelfFacts). KeepsButKeys words.key words.links run.old.shelf h) (sym (ap (λ (w : World). w.shelf) behind)) (stops.unput other);
          });
      whole = λ reports status small. absurd (stops.large (omega (arith, same, status, small)));
    }

module _ (words : HostWords) (run : Run) where
  -- ---- without a log file

  same_bay : before_report run ≡ record (before_report run) { bay = run.new.bay }
  same_bay = refl

  plain_keeps : (end : Result Done Stop) → HostsWith words None run.old (before_report run) end → Keeps words run end
  unfolding has_hosted same_bay bay_is
  plain_keeps (Err e) hosts = stop_keeps words run (before_report run) e (Err e) (stopped words None run.old (before_report run) e hosts) same_bay refl
  plain_keeps (Ok d) p = by d p.rest.rest.0 p.rest.rest.1 p.rest.rest.2 where
    by : (d : Done) (t : Told) → HostsLinks (way_of words) p.value.plan.ask (plans_of p.value) p.value.signers.items p.rest.value.items p.value.opening.rows (string_bytes words.image) p.rest.between (none_told p.value.opening.state p.value.opening.first) (before_report run) (Ok t)
        → TellsHosted words.awaited t d → Keeps words run (Ok d)
    by (done.Hosted told) t hosts is_told =
        let opened = has_house (own_role words.awaited) words.image words.cap words.key words.links words.area words.limits words.log None run.old p.between p.value p.given in
        let keeps =
        keeps_none words.log opened.front.given.namespace (rows_behind p.value.opening.state.log hosts.so_far.state.log) opened.front.filed run.old.bay opened.prepared.bay run.new.bay told opened.front.is_filed
        (bay_is words None run p.value p.between p.rest.value p.rest.between (before_report run) t told opened p.rest.given hosts is_told same_bay) in
        let has = has_hosted words None run p.value p.between p.rest.value p.rest.between (before_report run) t told opened p.rest.given hosts is_told same_bay told keeps in
        record {
          hosted = λ reports memory. inr (has reports);
          whole = λ reports status small. is_whole words run (has reports) (status ∙ sym (status_is words.awaited (has reports).told (done.Hosted told) (has reports).is_hosted)) small (λ put. (has reports).is_hosted.put_is ∙ put);
        }
    by d t hosts is_told = absurd is_told

  -- ---- with one

  module _ {end : Result Done Stop} (x : HasFiled words run.old (before_report run) end) where
    filed_keeps : (reached : Result Done Stop) (hosts : HostsWith words (Some x.opened) run.old x.between reached) → KeepsIn words x.opened x.left run.old x.between reached hosts → Keeps words run (filed_end x.left reached)
    unfolding has_hosted bay_is
    filed_keeps (Err e) hosts keeps = stop_keeps words run x.between e (filed_end x.left (Err e)) (stopped words (Some x.opened) run.old x.between e hosts) x.others refl
    filed_keeps (Ok d) p keeps = by d p.rest.rest.0 p.rest.rest.1 p.rest.rest.2 keeps where
      by : (d : Done) (t : Told) (hosts : HostsLinks (way_of words) p.value.plan.ask (plans_of p.value) p.value.signers.items p.rest.value.items p.value.opening.rows (string_bytes words.image) p.rest.between (none_told p.value.opening.state p.value.opening.first) x.between (Ok t))
          → TellsHosted words.awaited t d → KeepsRows (rows_behind p.value.opening.state.log hosts.so_far.state.log) x.opened x.left → Keeps words run (filed_end x.left (Ok d))
      by (done.Hosted told) t hosts is_told keeps =
          let reported = kept_told x.left told in
          let opened = has_house (own_role words.awaited) words.image words.cap words.key words.links words.area words.limits words.log (Some x.opened) run.old p.between p.value p.given in
          let same = bay_is words (Some x.opened) run p.value p.between p.rest.value p.rest.between x.between t told opened p.rest.given hosts is_told x.others in
          let kept =
          keeps_some words.log opened.front.given.namespace (rows_behind p.value.opening.state.log hosts.so_far.state.log) opened.front.filed run.old.bay opened.prepared.bay run.new.bay x.opened x.left told opened.front.is_filed keeps
          (subst (λ (b : BayFacts). GivesBack (Some x.left) b run.new.bay) same x.back) in
          let has = has_hosted words (Some x.opened) run p.value p.between p.rest.value p.rest.between x.between t told opened p.rest.given hosts is_told x.others reported kept in
          record {
            hosted = λ reports memory. inr (has reports);
            whole = λ reports status small.
                let unbroken = hosted_small x.left told x.left.broken refl (subst (λ (k : ℕ). k ≤ 1) status small) in
                let plain = status ∙ kept_same x.left told unbroken in
                is_whole words run (has reports) (plain ∙ sym (status_is words.awaited (has reports).told (done.Hosted told) (has reports).is_hosted)) small
                (λ put. put_stays told.put x.left.broken unbroken ∙ ((has reports).is_hosted.put_is ∙ put));
          }
      by d t hosts is_told keeps = absurd is_told

  keeps_so : (end : Result Done Stop) → DoesHost words run.old (before_report run) end → Keeps words run end
  keeps_so end (inl hosts) = plain_keeps end hosts
  keeps_so end (inr x) = subst (λ (e : Result Done Stop). Keeps words run e) (sym x.told) (filed_keeps x x.reached x.hosts x.keeps)

-- ---- as the words tell it

-- the same texts, the same signer, as many links, the same area, and the same limits; and a feed follows in both or in neither
pub record AreSameWords (words other : HostWords) : Type 0 where
  pub awaited : words.awaited ≡ other.awaited
  pub image : string_bytes words.image ≡ string_bytes other.image
  pub cap : string_bytes words.cap ≡ string_bytes other.cap
  pub key : AreSameSigner words.key other.key
  pub place : string_bytes words.place ≡ string_bytes other.place
  pub links : words.links ≡ other.links
  pub area : words.area ≡ other.area
  pub limits : words.limits ≡ other.limits
  pub follow : words.follow ≡ other.follow
  pub log : AreSameTextIfAny words.log other.log

-- the same, told with other texts of the same bytes
given_as : (words other : HostWords) (g : SideGiven) (run : Run) → AreSameWords words other → AreSideGiven (string_bytes other.image) (string_bytes other.cap) other.area run.old.shelf.names g
    → AreSideGiven (string_bytes words.image) (string_bytes words.cap) words.area run.old.shelf.names g
given_as words other g run same are =
    record {
      image = subst (λ (name : List ℕ). HasImage run.old.shelf.names name g.namespace g.rows) (sym same.image) are.image;
      cap = subst (λ (name : List ℕ). HoldsCapability run.old.shelf.names name g.cap) (sym same.cap) are.cap;
      passes = subst (λ (area : AreaWords). own_refusal g.namespace (own_hello area g.cap no_nonce) ≡ None) (sym same.area) are.passes;
    }

-- of a log file, told with other texts of the same bytes
filed_as : (log other : Option (String Global)) → AreSameTextIfAny log other → (n : List ℕ) (bay : BayFacts) (filed : List RawValue) → AreFiled other n bay filed → AreFiled log n bay filed
filed_as None None same n bay filed are = are
filed_as (Some a) (Some b) same n bay filed are = subst (λ (name : List ℕ). TellsRows name n bay (map row_of filed)) (sym same) are
filed_as (Some a) None same n bay filed are = absurd same
filed_as None (Some b) same n bay filed are = absurd same

rows_as : (log other : Option (String Global)) → AreSameTextIfAny log other → (n : List ℕ) (rows filed : List RawValue) → opening_rows other n rows filed ≡ opening_rows log n rows filed
rows_as None None same n image filed = refl
rows_as (Some a) (Some b) same n image filed = refl
rows_as (Some a) None same n image filed = absurd same
rows_as None (Some b) same n image filed = absurd same

abbrev opens_as : (log other : Option (String Global)) → AreSameTextIfAny log other → (n : List ℕ) (rows : List RawValue) (bay : BayFacts) (opening : List (LogRow AuthorisedValue)) → HasOpeningRows other n rows bay opening → HasOpeningRows log n rows bay opening
opens_as log other same n image bay begun opens = record { filed = opens.filed; read_out = opens.read_out; are_filed = filed_as log other same n bay opens.filed opens.are_filed; are_rows = opens.are_rows ∙ rows_as log other same n image opens.filed }

log_as : (log other : Option (String Global)) → AreSameTextIfAny log other → (n : List ℕ) (rows : List RowValue) (old new : BayFacts) (hosted reported : Hosted) → KeepsLog other n rows old new hosted reported → KeepsLog log n rows old new hosted reported
log_as None None same n came old new hosted reported keeps = keeps
log_as (Some a) (Some b) same n came old new hosted reported keeps = subst (λ (name : List ℕ). HasKeptLog name n came old new hosted reported) (sym same) keeps
log_as (Some a) None same n came old new hosted reported keeps = absurd same
log_as None (Some b) same n came old new hosted reported keeps = absurd same

hosted_as : (words other : HostWords) (run : Run) → AreSameWords words other → HasHosted other run → HasHosted words run
hosted_as words other run same c =
    record {
      given = c.given;
      are_given = given_as words other c.given run same c.are_given;
      signers = c.signers;
      reserved = c.reserved;
      are_signers =
          subst (λ (links : ℕ). AreSignersOf words.key links run.old.shelf c.reserved c.signers) (sym same.links)
          (signers_as words.key other.key other.links run.old.shelf c.reserved c.signers same.key c.are_signers);
      counted = c.counted;
      draws = c.draws;
      are_draws = c.are_draws;
      drawn = c.drawn;
      as_many = (c.as_many.0 ∙ sym same.links, c.as_many.1 ∙ sym same.links);
      told = c.told;
      visits = c.visits;
      are_back = subst (λ (place : List ℕ). AreBack place run.old.door run.new.door (map (λ (visit : Visit). visit.link) c.visits)) (sym same.place) c.are_back;
      accepts =
          subst (λ (awaited : Bool). Accepts awaited words.links (length c.visits) c.told.all_came run.old.door run.new.door) (sym same.awaited)
          (subst (λ (links : ℕ). Accepts other.awaited links (length c.visits) c.told.all_came run.old.door run.new.door) (sym same.links) c.accepts);
      called = λ call. c.called (sym same.awaited ∙ call);
      opening = c.opening;
      opens = opens_as words.log other.log same.log c.given.namespace c.given.rows run.old.bay c.opening c.opens;
      shared = subst (λ (awaited : Bool). IsShared awaited c.opening c.told.state.log (length c.visits)) (sym same.awaited) c.shared;
      is_log = c.is_log;
      are_visits =
          subst (λ (awaited : Bool). AreVisits (IsVisit awaited words.follow c.opening c.told.state.log (party_of (own_role awaited) words.area words.limits c.given)) (first_number awaited) c.signers c.draws c.visits) (sym same.awaited)
          (subst (λ (follow : Bool). AreVisits (IsVisit other.awaited follow c.opening c.told.state.log (party_of (own_role other.awaited) words.area words.limits c.given)) (first_number other.awaited) c.signers c.draws c.visits) (sym same.follow)
          (subst (λ (limits : Interest). AreVisits (IsVisit other.awaited other.follow c.opening c.told.state.log (party_of (own_role other.awaited) words.area limits c.given)) (first_number other.awaited) c.signers c.draws c.visits) (sym same.limits)
          (subst (λ (area : AreaWords). AreVisits (IsVisit other.awaited other.follow c.opening c.told.state.log (party_of (own_role other.awaited) area other.limits c.given)) (first_number other.awaited) c.signers c.draws c.visits) (sym same.area) c.are_visits)));
      visited =
          subst (λ (awaited : Bool). (p : List ℕ → List ℕ → Party) (number : ℕ) (signer : KeySigner) (draw : List ℕ) (visit : Visit) (run : IsVisit awaited words.follow c.opening c.told.state.log p number signer draw visit) → HasVisited run) (sym same.awaited)
          (subst (λ (follow : Bool). (p : List ℕ → List ℕ → Party) (number : ℕ) (signer : KeySigner) (draw : List ℕ) (visit : Visit) (run : IsVisit other.awaited follow c.opening c.told.state.log p number signer draw visit) → HasVisited run) (sym same.follow) c.visited);
      told_watchers =
          subst (λ (awaited : Bool). HearsSessions awaited (completed words.area (granted c.given.cap)) c.given.namespace c.opening c.told.state.log run.old.hub run.new.hub c.told.left) (sym same.awaited)
          (subst (λ (area : AreaWords). HearsSessions other.awaited (completed area (granted c.given.cap)) c.given.namespace c.opening c.told.state.log run.old.hub run.new.hub c.told.left) (sym same.area) c.told_watchers);
      front = λ served. c.front (sym same.awaited ∙ served);
      front_counts = λ served. c.front_counts (sym same.awaited ∙ served);
      is_put = subst (λ (name : List ℕ). PutsOrFails name c.told.put c.given.namespace (live (log_rows c.told.state.log)) c.reserved run.new.shelf) (sym same.image) c.is_put;
      answers_are = c.answers_are;
      tails_are = c.tails_are;
      first_is = c.first_is;
      hosted = c.hosted;
      is_hosted = subst (λ (awaited : Bool). TellsJust awaited c.told c.hosted) (sym same.awaited) c.is_hosted;
      reported = c.reported;
      keeps = log_as words.log other.log same.log c.given.namespace (rows_behind c.opening c.told.state.log) run.old.bay run.new.bay c.hosted c.reported c.keeps;
      reports = c.reports;
    }

unhosted_as : (words other : HostWords) (run : Run) → AreSameWords words other → IsUnhosted other run → IsUnhosted words run
unhosted_as words other run same u =
    record {
      unasked = u.unasked;
      unput =
          subst (λ (links : ℕ). KeepsButKeys words.key links run.old.shelf run.new.shelf) (sym same.links)
          (keeps_as words.key other.key other.links run.old.shelf run.new.shelf same.key u.unput);
    }

promises : (words other : HostWords) (run : Run) (end : Result Done Stop) → AreSameWords words other → Keeps other run end → Reports run.old.report run.new.report end run.status → HostPromises words run
unfolding hosted_as
promises words other run end same keeps reports =
    record {
      hosted = λ memory. elim (keeps.hosted reports (λ seven. memory (own_seven _ _ end run.status reports seven))) [
        | inl u ↦ inl (unhosted_as words other run same u)
        | inr c ↦ inr (hosted_as words other run same c)
      ];
      whole = λ small.
          let is = own_status _ _ end run.status reports (λ e. omega (arith, e, small)) (λ e. omega (arith, e, small)) in
          let whole = keeps.whole reports is small in
          record {
            hosted = hosted_as words other run same whole.hosted;
            all_came = whole.all_came;
            all_done = whole.all_done;
            all_followed = whole.all_followed;
            put = whole.put;
            kept = whole.kept;
            all_authorised = whole.all_authorised;
            some_refused = whole.some_refused;
          };
    }

-- ---- as the command of the words

-- words that are this command are no other one, and a command with these words in other texts
pub record IsSameHost (words : HostWords) (c : Command) : Type 0 where
  pub other : HostWords
  pub meets : (old new : World) (end : Result Done Stop) → (deed_of c).meets old new end → DoesHost other old new end
  pub same : AreSameWords words other

sync_as : (image cap : String Global) (key : SignerWord) (to : String Global) (area : AreaWords) (limits : Interest) (follow : Bool) (c : Command)
    → AreAlike (cmd.Sync image cap key to area limits.newest limits.bytes follow) c → IsSameHost (calling_words image cap key to area limits follow) c
sync_as image cap key to area limits follow (cmd.Sync a b k d e n o s) same =
    let theirs : Interest = record { newest = n; bytes = o } in
    record {
      other = calling_words a b k d e theirs s;
      meets = λ old new end meets. meets;
      same = record { awaited = refl; image = same.0; cap = same.1; key = same.2; place = same.3; links = refl; area = same.4; limits = same_limits limits theirs same.5 same.6; follow = same.7; log = tt };
    }
sync_as image cap key to area limits follow c same = absurd same

serve_as : (image cap : String Global) (key : SignerWord) (at : String Global) (links : ℕ) (area : AreaWords) (limits : Interest) (follow : Bool) (log : Option (String Global)) (c : Command)
    → AreAlike (cmd.Serve image cap key at links area limits.newest limits.bytes follow log) c → IsSameHost (serving_words image cap key at links area limits follow log) c
serve_as image cap key at links area limits follow log (cmd.Serve a b k d e f n o s l) same =
    let theirs : Interest = record { newest = n; bytes = o } in
    record {
      other = serving_words a b k d e f theirs s l;
      meets = λ old new end meets. meets;
      same = record { awaited = refl; image = same.0; cap = same.1; key = same.2; place = same.3; links = same.4; area = same.5; limits = same_limits limits theirs same.6 same.7; follow = same.8; log = same.9 };
    }
serve_as image cap key at links area limits follow log c same = absurd same

host_promises : (run : Run) (words : HostWords) (command : Command) → ((c : Command) → AreAlike command c → IsSameHost words c) → RunsWords run → IsWords run.words command → HostPromises words run
host_promises run words command alike (inl runs) is_command =
    let found = alike runs.command (at_most_one run.words command runs.command is_command runs.is_words) in
    promises words found.other run runs.end found.same (keeps_so found.other run runs.end (found.meets run.old (before_report run) runs.end runs.meets)) runs.reports
host_promises run words command alike (inr (inl misused)) is_command = absurd (misused.no_command command is_command)
host_promises run words command alike (inr (inr unread)) is_command =
    let seven = memory_end _ _ run.status unread.reports in
    record { hosted = λ memory. absurd (memory seven); whole = λ small. absurd (omega (arith, seven, small)) }

pub sync_promises : (run : Run) → RunsWords run → SyncHeadline run
sync_promises run runs image cap key to area limits follow is_sync =
    host_promises run (calling_words image cap key to area limits follow) (cmd.Sync image cap key to area limits.newest limits.bytes follow) (sync_as image cap key to area limits follow) runs is_sync

pub serve_promises : (run : Run) → RunsWords run → ServeHeadline run
serve_promises run runs image cap key at links area limits follow log is_serve =
    host_promises run (serving_words image cap key at links area limits follow log) (cmd.Serve image cap key at links area limits.newest limits.bytes follow log) (serve_as image cap key at links area limits follow log) runs is_serve
