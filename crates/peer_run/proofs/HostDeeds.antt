-- What `sync` and `serve` owe as commands, but for their completeness.
use Rattle.std.proofs.Common.{◌≡◌, ◌≢◌, ◌⊎◌, ◌∙◌, ℕ, Bool, true, false, List, [], map, ◌++◌, ◌∷◌, Contains, Option, inl, inr, refl, sym, subst, ap, arith}
use Rattle.std.specs.Prelude.{Result, Ok, Err}
use Rattle.std.proofs.lemmas.List.Elements.{All-contains}
use Rattle.std.specs.String.{string_bytes}
use Rattle.std.specs.declared.string.String.{String}
use Rattle.std.specs.declared.alloc.Global.{Global}
use Rattle.mc_cap.specs.declared.refusal.RefusedRow.{RefusedRow}
use Rattle.willow_outside.specs.Counts.{Rose}
use Rattle.willow_outside.specs.Facts.{ShelfFacts, DoorFacts}
use Rattle.willow_outside.specs.Links.{list_with}
use Rattle.link_host.specs.Hosted.{list_with_all}
use Rattle.area_interest.specs.declared.interest.Interest.{Interest}
use Rattle.willow_area.specs.declared.area.Area.{Area}
use Rattle.auth_entry.specs.Authorised.{AuthorisedValue}
use Rattle.ns_state.specs.Log.{StateValue}
use Rattle.session_end.specs.declared.end.SessionEnd.{SessionEnd}
use Rattle.session_end.specs.declared.end.SessionEnd.TheVariants as ending
use Rattle.sync_msg.specs.declared.role.Role.{Role}
use Rattle.sync_link.specs.Run.{Answer}
use Rattle.sync_link.specs.Sessions.{Party}
use Rattle.call_rules.specs.Told.{first_met, told_order}
use Rattle.call_rules.specs.Parts.{Part, status_told}
use Rattle.call_rules.specs.Parts as parts
use Rattle.call_rules.proofs.Told.{told_met}
use Rattle.peer_words.specs.declared.command.AreaWords.{AreaWords}
use Rattle.peer_words.specs.declared.command.SignerWord.{SignerWord}
use Rattle.peer_words.specs.declared.command.SignerWord.TheVariants.{OpenKey, LmsFile}
use Rattle.peer_make.specs.KeySigners.{HandsSigners}
use Rattle.peer_make.specs.Making.{DrawsAll}
use Rattle.peer_make.specs.Signing.{StopsSigners}
use Rattle.peer_make.specs.declared.key_signer.KeySigner.{KeySigner}
use Rattle.peer_stage.specs.World.{World, NeverFall, Unfailed, UnfailedInside}
use Rattle.peer_stage.specs.Shelves.{PutsBytes}
use Rattle.peer_stage.specs.Status.{status_of, end_status, session_status, tail_status, accept_status, put_status, first_status}
use Rattle.peer_stage.specs.Steps.{Step, OnShelf, OnNoise}
use Rattle.peer_stage.specs.declared.outcome.Done.{Done}
use Rattle.peer_stage.specs.declared.outcome.Done.TheVariants as done
use Rattle.peer_stage.specs.declared.outcome.FollowCounts.{FollowCounts}
use Rattle.peer_stage.specs.declared.outcome.Hosted.{Hosted}
use Rattle.peer_stage.specs.declared.outcome.SessionCounts.{SessionCounts}
use Rattle.peer_stage.specs.declared.outcome.Stop.{Stop}
use Rattle.peer_stage.specs.declared.outcome.Stop.TheVariants as stop
use Rattle.peer_stage.proofs.Closing.{Closes, KeepsDoor, LastsAtDoor, LastsBehind, owes_more, inside_keeps, shelf_keeps, noise_keeps, then_keeps, then_closes}
use Rattle.peer_stage.proofs.Ends.{accept_few, put_few, first_small}
use Rattle.peer_stage.proofs.Owing.{Owes, then_owes, shelf_counts, shelf_unfailed, noise_counts, noise_unfailed, rose_behind, unfailed_on}
use Rattle.peer_run.specs.Closing.{IsForWant, image_of}
use Rattle.peer_run.specs.HostDeed.{WantsLater}
use Rattle.peer_run.specs.Hosting.{BayReads, BayWrites, HasAttended, HasPut, HostReads, HostWrites, HostsLinks, HostsWith, OpensHouse, PutsImage, RunsSessions, Tells, host_rules, plans_of, own_role, way_of}
use Rattle.peer_run.specs.LogFiles.{FileState}
use Rattle.peer_run.specs.Meet.{Yields}
use Rattle.peer_run.specs.Preparing.{plan_of}
use Rattle.peer_run.specs.Telling.{IsTailForWant, IsWant, TellsHosted, TellsJust, Told, none_told, statuses, told_of, told_tail}
use Rattle.peer_run.specs.Visiting.{Way}
use Rattle.peer_run.specs.declared.sessions.House as house
use Rattle.peer_run.specs.declared.sessions.HostWords.{HostWords}
use Rattle.peer_run.specs.declared.tails.Tail.{Tail}
use Rattle.peer_run.specs.declared.tails.Tail.TheVariants.{Nothing as NoTail, Fed, Followed}
use Rattle.peer_run.proofs.HostParts.{attend_counts, attend_stood, door_stood, gave, host_owes}
use Rattle.peer_run.proofs.FileDeeds.{Either, preparing_owes, then_closes_less, then_owes_less}
use Rattle.peer_run.proofs.SideDeeds.{Nothing, GotReads, GotWrites, got_reads_last, got_writes_last, inside_owes, preparing_keeps_door}

-- ---- what rose behind

-- behind steps that left the door as it was
reads_last : LastsAtDoor HostReads
reads_last old between new counts same (inl rose) = inl (rose_behind _ _ _ counts.shelf_reads rose)
reads_last old between new counts same (inr (inl rose)) = inr (inl (rose_behind _ _ _ counts.noise_faults rose))
reads_last old between new counts same (inr (inr (inl rose))) = inr (inr (inl (rose_behind _ _ _ counts.door_faults rose)))
reads_last old between new counts same (inr (inr (inr failed))) =
    inr (inr (inr (record { links = failed.links; back = failed.back ∙ ap (λ (d : DoorFacts). list_with_all failed.links d.back) same; link = failed.link; among = failed.among; rose = failed.rose })))

writes_last : LastsAtDoor HostWrites
writes_last old between new counts same (inl rose) = inl (rose_behind _ _ _ counts.shelf_writes rose)
writes_last old between new counts same (inr failed) =
    inr (record { links = failed.links; back = failed.back ∙ ap (λ (d : DoorFacts). list_with_all failed.links d.back) same; link = failed.link; among = failed.among; rose = failed.rose })

wants_last : (way : Way) → LastsBehind (WantsLater way)
wants_last way old between new stood same later = record {
  awaited = later.awaited;
  inside = record {
    shelf_reads = later.inside.shelf_reads ∙ stood.shelf_reads;
    shelf_writes = later.inside.shelf_writes ∙ stood.shelf_writes;
    input = later.inside.input ∙ stood.input;
    output = later.inside.output ∙ stood.output;
    report = later.inside.report ∙ stood.report;
    door = omega (arith, later.inside.door, stood.door);
    noise = later.inside.noise ∙ stood.noise;
    bay = later.inside.bay ∙ stood.bay;
  };
  asked = later.asked ∙ ap (λ (d : DoorFacts). list_with way.place d.asked) same;
}

-- ---- signers and draws

signers_rose : (key : SignerWord) (count : ℕ) (h h' : ShelfFacts) → StopsSigners key count h h' stop.ReadFault → Rose h.read_faults h'.read_faults
signers_rose (OpenKey key) count h h' s = absurd s
signers_rose (LmsFile name) count h h' s = s.0

signers_wrote : (key : SignerWord) (count : ℕ) (h h' : ShelfFacts) → StopsSigners key count h h' stop.WriteFault → Rose h.write_faults h'.write_faults
signers_wrote (OpenKey key) count h h' s = absurd s
signers_wrote (LmsFile name) count h h' s = s.1.rose

no_usage : (key : SignerWord) (count : ℕ) (h h' : ShelfFacts) → StopsSigners key count h h' stop.Usage → ⊥
no_usage (OpenKey key) count h h' s = s
no_usage (LmsFile name) count h h' s = s

reserving_owes : (key : SignerWord) (count : ℕ) → Owes GotReads GotWrites Nothing (λ signers. Nothing) (OnShelf (HandsSigners key count))
reserving_owes key count =
    record {
      counts = shelf_counts (HandsSigners key count);
      unfailed = shelf_unfailed (HandsSigners key count);
      read_fault = λ old new s. signers_rose key count old.shelf new.shelf s.does;
      write_fault = λ old new s. signers_wrote key count old.shelf new.shelf s.does;
      usage = λ old new s. no_usage key count old.shelf new.shelf s.does;
      stops = λ old new e need condition s. need;
      goes_on = λ old new signers need s. need;
    }

drawing_owes : (count : ℕ) → Owes HostReads HostWrites Nothing (λ draws. Nothing) (OnNoise (DrawsAll count))
drawing_owes count =
    record {
      counts = noise_counts (DrawsAll count);
      unfailed = noise_unfailed (DrawsAll count);
      read_fault = λ old new s. inr (inl s.does.1);
      write_fault = λ old new s. absurd s.does;
      usage = λ old new s. s.does;
      stops = λ old new e need condition s. need;
      goes_on = λ old new draws need s. need;
    }

module _ (role : Role) (image cap : String Global) (key : SignerWord) (links : ℕ) (area : AreaWords) (limits : Interest) (log : Option (String Global)) (file : Option FileState) where
  opening_owes : Owes (Either GotReads BayReads) (Either GotWrites BayWrites) Nothing (λ s. Nothing) (OpensHouse role image cap key links area limits log file)
  opening_owes =
      then_owes_less GotReads GotWrites BayReads BayWrites _ _ got_reads_last got_writes_last (preparing_owes image cap area log file)
      (λ r. then_owes GotReads GotWrites Nothing (λ signers. Nothing) (λ s. Nothing) _ _ got_reads_last got_writes_last (reserving_owes key links)
      (λ signers. inside_owes (Yields (record { opening = r.opening; plan = plan_of role r.hello limits; signers = signers })) (λ h. h) (λ h. h) (λ h. h)))

  pub opening_keeps_door : KeepsDoor (OpensHouse role image cap key links area limits log file)
  opening_keeps_door =
      then_keeps _ _ (preparing_keeps_door image cap area log file) (λ r.
      then_keeps _ _ (shelf_keeps (HandsSigners key links)) (λ signers. inside_keeps (Yields (record { opening = r.opening; plan = plan_of role r.hello limits; signers = signers }))))

-- ---- the sessions and the put, by the status

-- the end tells what was met
met_told : (awaited : Bool) (t : Told) (s : Hosted) → TellsJust awaited t s → status_told host_rules (Ok t) ≡ status_of (Ok (done.Hosted s))
met_told awaited t s told =
    let by : List (Result SessionCounts SessionEnd) → List (Option (Result FollowCounts SessionEnd)) → Bool → Bool → Option RefusedRow → ℕ =
    λ sessions tails all_came put first. first_met told_order (map session_status sessions ++ (map tail_status tails ++ (accept_status all_came ∷ (put_status put ∷ (first_status first ∷ []))))) in
    sym (ap (λ sessions. by sessions s.tails.items s.all_came s.put s.first) told.sessions
    ∙ ap (λ tails. by (map told_of t.answers) tails s.all_came s.put s.first) told.tails
    ∙ ap (λ all_came. by (map told_of t.answers) (map told_tail t.tails) all_came s.put s.first) told.accepted_is
    ∙ ap (λ put. by (map told_of t.answers) (map told_tail t.tails) t.all_came put s.first) told.put_is
    ∙ ap (λ first. by (map told_of t.answers) (map told_tail t.tails) t.all_came t.put first) told.first_is)

pub status_is : (awaited : Bool) (t : Told) (d : Done) → TellsHosted awaited t d → status_told host_rules (Ok t) ≡ status_of (Ok d)
status_is awaited t (done.Hosted s) told = met_told awaited t s told
status_is awaited t d told = absurd told

-- what has 7 is want of memory
is_for_want : (answer : Answer) → session_status (told_of answer) ≡ 7 → IsForWant answer
is_for_want (Ok report) is = absurd (omega (arith, is))
is_for_want (Err ending.NoMemory) is = tt
is_for_want (Err ending.LinkRead) is = absurd (omega (arith, is))
is_for_want (Err ending.LinkWrite) is = absurd (omega (arith, is))
is_for_want (Err (ending.LogFull missed)) is = absurd (omega (arith, is))
is_for_want (Err e) is = absurd (omega (arith, is))

end_for_want : (end : SessionEnd) → end_status end ≡ 7 → IsWant end
end_for_want ending.NoMemory is = tt
end_for_want ending.LinkRead is = absurd (omega (arith, is))
end_for_want ending.LinkWrite is = absurd (omega (arith, is))
end_for_want (ending.LogFull missed) is = absurd (omega (arith, is))
end_for_want e is = absurd (omega (arith, is))

-- so is it of what followed
tail_for_want : (tail : Tail) → tail_status (told_tail tail) ≡ 7 → IsTailForWant tail
tail_for_want (Fed (Ok fed)) is = absurd (omega (arith, is))
tail_for_want (Fed (Err end)) is = end_for_want end is
tail_for_want (Followed (Ok report)) is = absurd (omega (arith, is))
tail_for_want (Followed (Err end)) is = end_for_want end is
tail_for_want NoTail is = absurd (omega (arith, is))

-- no session that is told, and nothing that followed one, was one for which memory was wanting
none_wanted : (name : List ℕ) (old new : World) (told t : Told) → HasPut name old told new t → status_told host_rules (Ok t) ≢ 7
none_wanted name old new told t put seven = elim (gave t 7 (seven_met t seven)) [
  | inl session ↦
      let answers : t.answers ≡ told.answers = ap (λ (x : Told). x.answers) put.told_is in
      All-contains (λ (answer : Answer). IsForWant answer → ⊥) told.answers session.0 put.wanted_none (subst (λ (l : List Answer). Contains l session.0) answers session.1) (is_for_want session.0 session.2)
  | inr (inl behind) ↦
      let tails : t.tails ≡ told.tails = ap (λ (x : Told). x.tails) put.told_is in
      All-contains (λ (tail : Tail). IsTailForWant tail → ⊥) told.tails behind.0 put.none_behind (subst (λ (l : List Tail). Contains l behind.0) tails behind.1) (tail_for_want behind.0 behind.2)
  | inr (inr (inl accept)) ↦ elim (accept_few t.all_came 7 accept) [ inl none ↦ omega (arith, none) | inr three ↦ omega (arith, three) ]
  | inr (inr (inr (inl unput))) ↦ elim (put_few t.put 7 unput) [ inl none ↦ omega (arith, none) | inr four ↦ omega (arith, four) ]
  | inr (inr (inr (inr first))) ↦ let small = first_small t.first in omega (arith, first, small)
]
  where
    seven_met : (t : Told) → status_told host_rules (Ok t) ≡ 7 → Contains (statuses t) 7
    seven_met t is = elim (told_met told_order (statuses t)) [ inl none ↦ absurd (omega (arith, none, is)) | inr at ↦ subst (λ (k : ℕ). Contains (statuses t) k) is at ]

module _ (way : Way) (area : Area) (p : List ℕ → List ℕ → Party) (signers : List KeySigner) (draws : List (List ℕ)) (rows : ℕ) (name : List ℕ) (start : Told) where
  abbrev Run : Part World Told Stop
  Run = RunsSessions way area p signers draws rows

  -- the door may have counted faults behind a place that was listened at
  went : (old between new : World) (t : Told) → HasAttended way area p signers draws rows old start between t → Unfailed between new → new.door ≡ between.door → Unfailed old new ⊎ WantsLater way old new
  went old between new t did stood same = by way.awaited refl where
    inside : UnfailedInside old new
    inside =
        let others = did.others in
        record {
          shelf_reads = stood.shelf_reads ∙ ap (λ (w : World). w.shelf.read_faults) others;
          shelf_writes = stood.shelf_writes ∙ ap (λ (w : World). w.shelf.write_faults) others;
          input = stood.input ∙ ap (λ (w : World). w.input.faults) others;
          output = stood.output ∙ ap (λ (w : World). w.output.faults) others;
          report = stood.report ∙ ap (λ (w : World). w.report.faults) others;
          door = omega (arith, (attend_counts way area p signers draws rows old between start (Ok t) did).counts.door_faults, ap (λ (d : DoorFacts). d.faults) same);
          noise = stood.noise ∙ ap (λ (w : World). w.noise.faults) others;
          bay = stood.bay ∙ ap (λ (w : World). w.bay.faults) others;
        }

    by : (awaited : Bool) → way.awaited ≡ awaited → Unfailed old new ⊎ WantsLater way old new
    by true is = inr (record { awaited = is; inside = inside; asked = ap (λ (d : DoorFacts). d.asked) same ∙ did.does.back.asked })
    by false is = inl (unfailed_on old between new (attend_stood way area p signers draws rows old between start t did (did.does.called is).came) stood)

  run_want : (old new : World) (e : Stop) → Run old start new (Err e) → host_rules.stop e ≡ 7 → Unfailed old new
  run_want old new stop.NoMemory s seven = door_stood old new s.0.1 s.1
  run_want old new stop.ReadFault s seven = absurd (omega (arith, seven))
  run_want old new e s seven = absurd s.0

  put_want : (old between new : World) (t : Told) (e : Stop) → HasAttended way area p signers draws rows old start between t → PutsImage name between t new (Err e) → Unfailed old new ⊎ WantsLater way old new
  put_want old between new t stop.NoMemory did f =
      went old between new t did (shelf_unfailed (PutsBytes name (image_of t.state)) between new (Err stop.NoMemory) tt f) (ap (λ (w : World). w.door) f.others)
  put_want old between new t e did f = absurd f

  -- want of memory hides no fault but those of a door that was listened at
  host_want : (old new : World) (e : Stop) → HostsLinks way area p signers draws rows name old start new (Err e) → host_rules.stop e ≡ 7 → Unfailed old new ⊎ WantsLater way old new
  host_want old new e (inl s) seven = inl (run_want old new e s seven)
  host_want old new e (inr q) seven = put_want old q.between new q.so_far e q.given q.rest

-- ---- as the last step of a command

module _ (awaited : Bool) (way : Way) (area : Area) (p : List ℕ → List ℕ → Party) (signers : List KeySigner) (draws : List (List ℕ)) (rows : ℕ) (name : List ℕ) (state : StateValue AuthorisedValue) (first : Option RefusedRow) where
  abbrev All : Step Done
  All = Tells (HostsLinks way area p signers draws rows name) (none_told state first) (TellsHosted awaited)

  owed : parts.Owes host_rules (HostsLinks way area p signers draws rows name) (none_told state first)
  owed = host_owes way area p signers draws rows name state first

  all_counts : (old new : World) (end : Result Done Stop) → All old new end → NeverFall old new
  all_counts old new (Ok d) did = (owed.counts old new (Ok did.0) did.1).counts
  all_counts old new (Err e) did = (owed.counts old new (Err e) did).counts

  all_unfailed : (old new : World) (end : Result Done Stop) → All old new end → status_of end ≢ 3 → status_of end ≢ 4 → status_of end ≢ 7 → Unfailed old new
  all_unfailed old new (Ok d) did three four seven =
      let is = status_is awaited did.0 d did.2 in owed.unfailed old new (Ok did.0) did.1 (λ e. three (sym is ∙ e)) (λ e. four (sym is ∙ e)) (λ e. seven (sym is ∙ e))
  all_unfailed old new (Err e) did three four seven = owed.unfailed old new (Err e) did three four seven

  all_want : (old new : World) (end : Result Done Stop) → All old new end → status_of end ≡ 7 → Unfailed old new ⊎ WantsLater way old new
  all_want old new (Ok d) did seven = absurd (none_wanted name did.1.between new did.1.so_far did.0 did.1.rest (status_is awaited did.0 d did.2 ∙ seven))
  all_want old new (Err e) did seven = host_want way area p signers draws rows name (none_told state first) old new e did seven

  all_usage : (old new : World) (end : Result Done Stop) → All old new end → status_of end ≡ 2 → ⊥
  all_usage old new (Ok d) did is = owed.usage old new (Ok did.0) did.1 (status_is awaited did.0 d did.2 ∙ is)
  all_usage old new (Err e) did is = owed.usage old new (Err e) did is

  all_read : (old new : World) (end : Result Done Stop) → All old new end → status_of end ≡ 3 → HostReads old new
  all_read old new (Ok d) did is = owed.read_fault old new (Ok did.0) did.1 (status_is awaited did.0 d did.2 ∙ is)
  all_read old new (Err e) did is = owed.read_fault old new (Err e) did is

  all_write : (old new : World) (end : Result Done Stop) → All old new end → status_of end ≡ 4 → HostWrites old new
  all_write old new (Ok d) did is = owed.write_fault old new (Ok did.0) did.1 (status_is awaited did.0 d did.2 ∙ is)
  all_write old new (Err e) did is = owed.write_fault old new (Err e) did is

  all_closes : Closes HostReads HostWrites (WantsLater way) All
  all_closes = record { counts = all_counts; unfailed = all_unfailed; want = all_want; usage = all_usage; read_fault = all_read; write_fault = all_write }

-- ---- the command

module _ (words : HostWords) (file : Option FileState) where
  abbrev way : Way
  way = way_of words

  abbrev Open : Step house.House
  Open = OpensHouse (own_role words.awaited) words.image words.cap words.key words.links words.area words.limits words.log file

  opened : Owes (Either HostReads BayReads) (Either HostWrites BayWrites) Nothing (λ s. Nothing) Open
  opened =
      owes_more (Either GotReads BayReads) (Either GotWrites BayWrites) (Either HostReads BayReads) (Either HostWrites BayWrites) Nothing (λ s. Nothing) Open more_read more_written
      (opening_owes (own_role words.awaited) words.image words.cap words.key words.links words.area words.limits words.log file)
    where
      more_read : (old new : World) → Either GotReads BayReads old new → Either HostReads BayReads old new
      more_read old new (inl rose) = inl (inl rose)
      more_read old new (inr rose) = inr rose

      more_written : (old new : World) → Either GotWrites BayWrites old new → Either HostWrites BayWrites old new
      more_written old new (inl rose) = inl (inl rose)
      more_written old new (inr rose) = inr rose

  pub with_closes : Closes (Either HostReads BayReads) (Either HostWrites BayWrites) (WantsLater way) (HostsWith words file)
  with_closes =
      then_closes_less HostReads HostWrites BayReads BayWrites (WantsLater way) Open _ reads_last writes_last (wants_last way) opened
      (opening_keeps_door (own_role words.awaited) words.image words.cap words.key words.links words.area words.limits words.log file)
      (λ s. then_closes HostReads HostWrites (WantsLater way) Nothing (λ draws. Nothing) (OnNoise (DrawsAll words.links)) _ reads_last writes_last (wants_last way) (drawing_owes words.links) (noise_keeps (DrawsAll words.links))
      (λ draws. all_closes words.awaited way s.plan.ask (plans_of s) s.signers.items draws.items s.opening.rows (string_bytes words.image) s.opening.state s.opening.first))
