-- `sync` and `serve` come to their end where they are ready.
use Rattle.std.proofs.Common.{◌≡◌, ◌≢◌, ◌∙◌, ℕ, ◌+◌, ◌≤◌, ◌<◌, Bool, true, false, List, map, Contains, Option, None, Some, inl, inr, refl, sym, subst, ap, arith}
use Rattle.std.specs.Prelude.{Result, Ok, Err}
use Rattle.std.specs.Global.{Vec}
use Rattle.std.specs.String.{string_bytes}
use Rattle.std.proofs.lemmas.List.Elements.{All-contains}
use Rattle.willow_outside.specs.Counts.{Rose}
use Rattle.willow_outside.specs.Facts.{DoorFacts, LinkFacts, ShelfFacts}
use Rattle.lms_core.specs.Accepts.{leaves}
use Rattle.lms_core.specs.Key.{Key, key_file}
use Rattle.lms_core.proofs.Files.{file_once}
use Rattle.sync_link.specs.Ran.{IsFaultless}
use Rattle.session_end.specs.declared.end.SessionEnd.TheVariants.{LogFull}
use Rattle.sync_link.specs.Run.{Answer}
use Rattle.sync_link.specs.Sessions.{Party}
use Rattle.sync_link.specs.declared.plan.SessionReport.{SessionReport}
use Rattle.call_rules.specs.Told.{IsUnmet}
use Rattle.call_rules.specs.Parts.{status_told}
use Rattle.call_rules.proofs.Elements.{contains_map, contains_from_map}
use Rattle.call_rules.proofs.Told.{told_known}
use Rattle.peer_words.specs.declared.command.SignerWord.{SignerWord}
use Rattle.peer_words.specs.declared.command.SignerWord.TheVariants.{OpenKey, LmsFile}
use Rattle.peer_make.specs.Making.{DrawsAll}
use Rattle.peer_make.specs.Signing.{StopsSigners}
use Rattle.peer_make.proofs.Signers.{given}
use Rattle.peer_stage.specs.Deed.{IsLawful}
use Rattle.peer_stage.specs.Status.{status_of, session_status}
use Rattle.peer_stage.specs.Shelves.{PutsBytes}
use Rattle.peer_stage.specs.Steps.{Step, OnNoise, OnShelf}
use Rattle.peer_stage.specs.World.{World}
use Rattle.peer_stage.specs.declared.outcome.Done.{Done}
use Rattle.peer_stage.specs.declared.outcome.Stop.{Stop}
use Rattle.peer_stage.specs.declared.outcome.Stop.TheVariants as stop
use Rattle.peer_stage.proofs.Ends.{IsCondition}
use Rattle.peer_run.specs.Closing.{IsForWant, image_of, put_answer}
use Rattle.peer_run.specs.HostDeed.{CanHost, CanSignAll, HadSessions, host_deed}
use Rattle.peer_run.specs.Hosting.{BayReads, BayWrites, DoesHost, HasFiled, HostReads, HostWrites, HostsLinks, HostsWith, OpensHouse, PutsImage, host_rules, plans_of, own_role, way_of}
use Rattle.peer_run.specs.LogFiles.{FileState}
use Rattle.peer_run.specs.Preparing.{Prepares}
use Rattle.peer_run.specs.SideGiven.{SideGiven, party_of}
use Rattle.peer_run.specs.Telling.{AreNotForWant, AreTailsNotForWant, IsTailForWant, Told, none_told, statuses, told_of}
use Rattle.peer_run.specs.Visiting.{Visit, StopsAttending, first_number, ran_of}
use Rattle.peer_run.specs.declared.preparing.Prepared.{Prepared}
use Rattle.peer_run.specs.declared.sessions.House as house
use Rattle.peer_run.specs.declared.sessions.HostWords.{HostWords}
use Rattle.peer_run.specs.declared.tails.Tail.{Tail}
use Rattle.peer_run.specs.declared.tails.Tail.TheVariants.{Followed}
use Rattle.peer_run.proofs.AnsweredLinks.{has_other}
use Rattle.peer_run.proofs.DoneSessions.{done_so}
use Rattle.peer_run.proofs.FewLinks.{few_back}
use Rattle.peer_run.proofs.FollowedEnds.{IsFull, IsRefused, ended_so, never_refused, tail_met}
use Rattle.peer_run.proofs.FollowedUp.{followed_up}
use Rattle.peer_run.proofs.HostBegun.{has_house}
use Rattle.peer_run.proofs.FileDeeds.{Either}
use Rattle.peer_run.proofs.FiledDeeds.{host_closes, reads_still, writes_still}
use Rattle.peer_run.proofs.FiledEnds.{known_filed}
use Rattle.peer_run.proofs.HostDeeds.{status_is, with_closes}
use Rattle.peer_run.proofs.HostHad.{HadSo, had_sessions}
use Rattle.peer_run.proofs.HostParts.{done_unmet, host_owes}
use Rattle.peer_run.proofs.HostRules.{rose_before}
use Rattle.peer_run.proofs.SideBegun.{HasPrepared, has_prepared}
use Rattle.peer_run.proofs.SideDeeds.{from_none}
use Rattle.peer_run.proofs.SideEnds.{given_is, prepares_free}
use Rattle.peer_run.proofs.VisitedLinks.{IsAnsweredVisit, answered_visit}

-- a signer that can sign as often meets no condition
signers_ready : (key : SignerWord) (count : ℕ) (h h' : ShelfFacts) (e : Stop) → CanSignAll key count h → IsCondition e → StopsSigners key count h h' e → ⊥
signers_ready (OpenKey key) count h h' stop.NoMemory can condition fails = condition
signers_ready (OpenKey key) count h h' e can condition fails = fails
signers_ready (LmsFile name) count h h' (stop.Missing other) can condition fails =
    let none : None ≡ Some (key_file can.key) = sym (given h.names can.names (string_bytes name) None can.told fails.1) ∙ can.file in
    absurd cc
signers_ready (LmsFile name) count h h' (stop.BadInput from at) can condition fails =
    let some : Some fails.2.bytes ≡ Some (key_file can.key) = sym (given h.names can.names (string_bytes name) (Some fails.2.bytes) can.told fails.2.no_key.held) ∙ can.file in
    let same : fails.2.bytes ≡ key_file can.key = cc in
    fails.2.no_key.no_key can.key can.is_key same
signers_ready (LmsFile name) count h h' stop.KeySpent can condition fails =
    let some : Some (key_file fails.key) ≡ Some (key_file can.key) = sym (given h.names can.names (string_bytes name) (Some (key_file fails.key)) can.told fails.spent.held.file) ∙ can.file in
    let file : key_file fails.key ≡ key_file can.key = cc in
    let same = file_once fails.key can.key fails.spent.held.key can.is_key file in
    let short = subst (λ (k : Key). leaves k.height < k.next + count) same fails.spent.short in
    omega (arith, short, can.room)
signers_ready (LmsFile name) count h h' stop.ReadFault can condition fails = condition
signers_ready (LmsFile name) count h h' stop.WriteFault can condition fails = condition
signers_ready (LmsFile name) count h h' stop.NoMemory can condition fails = condition
signers_ready (LmsFile name) count h h' e can condition fails = fails

module _ (words : HostWords) (file : Option FileState) (old new : World) (can : CanHost words old new) where
  -- ---- nothing keeps a side from what it opens

  abbrev Opens : Step house.House
  Opens = OpensHouse (own_role words.awaited) words.image words.cap words.key words.links words.area words.limits words.log file

  prepared : (w : World) (r : Prepared) → Prepares words.image words.cap words.area words.log file old w (Ok r) → HasPrepared words.image words.cap words.area words.log file old w r
  prepared w r p = has_prepared words.image words.cap words.area words.log file old w r p

  opens_free : (w : World) (e : Stop) → IsCondition e → Opens old w (Err e) → ⊥
  opens_free w e condition opens =
      elim opens [
        | inl s ↦ prepares_free old can.names can.given words.image words.cap words.area can.are_told can.are_given words.log file can.can_open w e condition s
        | inr p ↦ elim p.rest [
          | inl s ↦ signers_ready words.key words.links p.between.shelf w.shelf e (subst (λ (h : ShelfFacts). CanSignAll words.key words.links h) (sym (ap (λ (u : World). u.shelf) (prepared p.between p.value p.given).same)) can.can_sign) condition s.does
          | inr q ↦ q.rest.0
        ]
      ]

  -- ---- nor from its sessions

  draws_free : (count : ℕ) (v w : World) (e : Stop) → IsCondition e → OnNoise (DrawsAll count) v w (Err e) → ⊥
  draws_free count v w stop.ReadFault condition s = condition
  draws_free count v w stop.NoMemory condition s = condition
  draws_free count v w e condition s = s.does

  attends_free : (d d' : DoorFacts) (e : Stop) → IsCondition e → StopsAttending (way_of words) d d' e → ⊥
  attends_free d d' stop.ReadFault condition s = condition
  attends_free d d' stop.NoMemory condition s = condition
  attends_free d d' e condition s = s

  puts_free : (name : List ℕ) (v w : World) (told : Told) (e : Stop) → IsCondition e → PutsImage name v told w (Err e) → ⊥
  puts_free name v w told stop.NoMemory condition f = condition
  puts_free name v w told e condition f = f

  hosts_free : (e : Stop) → IsCondition e → HostsWith words file old new (Err e) → ⊥
  hosts_free e condition hosts =
      elim hosts [
        | inl s ↦ opens_free new e condition s
        | inr p ↦ elim p.rest [
          | inl s ↦ draws_free words.links p.between new e condition s
          | inr q ↦ elim q.rest [ inl s ↦ attends_free q.between.door new.door e condition s.0 | inr r ↦ puts_free (string_bytes words.image) r.between new r.so_far e condition r.rest ]
        ]
      ]

  module _ (no_read : Either HostReads BayReads old new → ⊥) (no_write : Either HostWrites BayWrites old new → ⊥) where
    -- ---- each session is done

    module _ (answers : List Answer) (tails : List Tail) (so : HadSo words old new answers tails can.given) (wants : AreNotForWant answers) (no_tail : AreTailsNotForWant tails) where
      abbrev had : HadSessions words can.given old new
      had = so.had

      abbrev links : List LinkFacts
      links = map (λ (visit : Visit). visit.link) had.visits

      abbrev answered : (visit : Visit) → Contains had.visits visit → IsAnsweredVisit words.awaited words.follow had.opening had.log (party_of (own_role words.awaited) words.area words.limits can.given) can.given.cap visit
      answered visit at =
          answered_visit words.awaited words.follow had.opening had.log (party_of (own_role words.awaited) words.area words.limits can.given) can.given.cap (first_number words.awaited) had.signers had.draws had.visits had.are_visits
          (can.signs had.signers had.reserved had.are_signers) (can.answered had) visit at

      -- no read of a link failed, and no write
      no_reads : (visit : Visit) → Contains had.visits visit → Rose 0 visit.link.read_faults → ⊥
      no_reads visit at rose = no_read (inl (inr (inr (inr (record { links = links; back = had.back; link = visit.link; among = contains_map (λ (visit : Visit). visit.link) had.visits visit at; rose = rose })))))

      no_writes : (visit : Visit) → Contains had.visits visit → Rose 0 visit.link.write_faults → ⊥
      no_writes visit at rose = no_write (inl (inr (record { links = links; back = had.back; link = visit.link; among = contains_map (λ (visit : Visit). visit.link) had.visits visit at; rose = rose })))

      visit_done : (visit : Visit) → Contains had.visits visit → (report : SessionReport) × (visit.answer ≡ Ok report)
      visit_done visit at =
          let one = answered visit at in
          let party = party_of (own_role words.awaited) words.area words.limits can.given one.draw one.is_visit.ran.signature in
          let ran = ran_of one.is_visit in
          let up = followed_up words.awaited words.follow party.rules party.namespace had.log one.number visit one.is_visit.followed in
          let faultless : IsFaultless ran =
          record {
            reads = λ risen. no_reads visit at (rose_before 0 _ _ (from_none _ _ one.is_visit.fresh.0 risen.rose) up.reads);
            writes = λ risen. no_writes visit at (rose_before 0 _ _ (from_none _ _ one.is_visit.fresh.1 risen.rose) up.writes);
            signs = λ risen. omega (arith, risen.rose);
          } in
          let not_wanted = All-contains (λ (answer : Answer). IsForWant answer → ⊥) (map (λ (visit : Visit). visit.answer) had.visits) visit.answer (subst (λ (all : List Answer). AreNotForWant all) so.ends wants) (contains_map (λ (visit : Visit). visit.answer) had.visits visit at) in
          done_so ran one.answered.other one.answered.rows (has_other ran one.is_visit.fresh one.answered) one.signs faultless visit.answer refl (λ missed. (can.unfilled had visit at missed).0) not_wanted

      session_done : (answer : Answer) → Contains answers answer → session_status (told_of answer) ≡ 0
      session_done answer at =
          let of = contains_from_map (λ (visit : Visit). visit.answer) had.visits answer (subst (λ (l : List Answer). Contains l answer) so.ends at) in
          let over = visit_done of.0 of.1 in
          ap (λ (a : Answer). session_status (told_of a)) (sym of.2 ∙ over.1)

      -- ---- and what followed it

      visit_fed : (visit : Visit) → Contains had.visits visit → tail_met visit.tail ≡ 0
      visit_fed visit at = by (tail_met visit.tail) refl where
        one : IsAnsweredVisit words.awaited words.follow had.opening had.log (party_of (own_role words.awaited) words.area words.limits can.given) can.given.cap visit
        one = answered visit at

        party : Party
        party = party_of (own_role words.awaited) words.area words.limits can.given one.draw one.is_visit.ran.signature

        full : (tail : Tail) → visit.tail ≡ tail → IsFull tail → ⊥
        full (Followed (Err (LogFull missed))) same is = (can.unfilled had visit at missed).1 same
        full tail same is = absurd is

        wanted : IsTailForWant visit.tail → ⊥
        wanted = All-contains (λ (tail : Tail). IsTailForWant tail → ⊥) (map (λ (visit : Visit). visit.tail) had.visits) visit.tail (subst (λ (all : List Tail). AreTailsNotForWant all) so.tailed no_tail) (contains_map (λ (visit : Visit). visit.tail) had.visits visit at)

        refused : IsRefused visit.tail → ⊥
        refused = never_refused words.awaited words.follow party.rules party.namespace had.log one.number visit one.is_visit.followed (λ called area is. can.fed called had visit at area is)

        by : (k : ℕ) → tail_met visit.tail ≡ k → tail_met visit.tail ≡ 0
        by k is = elim (ended_so words.awaited words.follow party.rules party.namespace had.log one.number visit one.is_visit.followed k is) [
          | inl none ↦ is ∙ none
          | inr (inl three) ↦ absurd (no_reads visit at three.1)
          | inr (inr (inl four)) ↦ absurd (no_writes visit at four.1)
          | inr (inr (inr (inl six))) ↦ absurd (refused six.1)
          | inr (inr (inr (inr (inl seven)))) ↦ absurd (wanted seven.1)
          | inr (inr (inr (inr (inr eight)))) ↦ absurd (full visit.tail refl eight.1)
        ]

      tail_done : (tail : Tail) → Contains tails tail → tail_met tail ≡ 0
      tail_done tail at =
          let of = contains_from_map (λ (visit : Visit). visit.tail) had.visits tail (subst (λ (l : List Tail). Contains l tail) so.tailed at) in
          ap tail_met (sym of.2) ∙ visit_fed of.0 of.1

    -- ---- the image was put

    is_put : (name bytes : List ℕ) (put : Bool) (behind : World) → behind.shelf.write_faults ≡ old.shelf.write_faults → OnShelf (PutsBytes name bytes) behind new (put_answer put) → OnShelf (PutsBytes name bytes) behind new (Ok tt)
    is_put name bytes true behind same puts = puts
    is_put name bytes false behind same puts = absurd (no_write (inl (inl (subst (λ (count : ℕ). Rose count new.shelf.write_faults) same puts.does.0))))

    -- ---- so it comes to its end

    module _ (s : house.House) (began : World) (opens : Opens old began (Ok s)) (draws : Vec (List ℕ)) (drawn : World) (drew : OnNoise (DrawsAll words.links) began drawn (Ok draws)) (t : Told)
        (hosts : HostsLinks (way_of words) s.plan.ask (plans_of s) s.signers.items draws.items s.opening.rows (string_bytes words.image) drawn (none_told s.opening.state s.opening.first) new (Ok t)) where
      had_so : HadSo words old new hosts.so_far.answers hosts.so_far.tails can.given
      had_so =
          let opened = has_house (own_role words.awaited) words.image words.cap words.key words.links words.area words.limits words.log file old began s opens in
          let given = given_is old can.names can.given words.image words.cap words.area can.are_told can.are_given words.log file opened.prepared (record { opening = s.opening; hello = opened.hello }) opened.front in
          let same_shelf : hosts.between.shelf ≡ began.shelf = ap (λ (w : World). w.shelf) hosts.given.others ∙ ap (λ (w : World). w.shelf) drew.others in
          let all_put = is_put (string_bytes words.image) (image_of hosts.so_far.state) hosts.rest.put hosts.between (ap (λ (h : ShelfFacts). h.write_faults) same_shelf ∙ opened.counted) hosts.rest.does in
          subst (λ (g : SideGiven). HadSo words old new hosts.so_far.answers hosts.so_far.tails g) given (had_sessions words file old new s began draws drawn hosts.so_far hosts.between opened drew hosts.given all_put)

      zero : (answer : Answer) → Contains t.answers answer → session_status (told_of answer) ≡ 0
      zero answer at =
          session_done hosts.so_far.answers hosts.so_far.tails had_so hosts.rest.wanted_none hosts.rest.none_behind answer (subst (λ (l : List Answer). Contains l answer) (ap (λ (x : Told). x.answers) hosts.rest.told_is) at)

      zero_behind : (tail : Tail) → Contains t.tails tail → tail_met tail ≡ 0
      zero_behind tail at =
          tail_done hosts.so_far.answers hosts.so_far.tails had_so hosts.rest.wanted_none hosts.rest.none_behind tail (subst (λ (l : List Tail). Contains l tail) (ap (λ (x : Told). x.tails) hosts.rest.told_is) at)

      unmet : (status : ℕ) → 5 ≤ status → IsUnmet (statuses t) status
      unmet status large =
          done_unmet t status large (λ answer at is. let none = zero answer at in omega (arith, none, is, large)) (λ tail at is. let none = zero_behind tail at in omega (arith, none, is, large))

      told_small : status_told host_rules (Ok t) ≢ 3 → status_told host_rules (Ok t) ≢ 4 → status_told host_rules (Ok t) ≢ 7 → status_told host_rules (Ok t) ≤ 1
      told_small three four seven =
          let met = (host_owes (way_of words) s.plan.ask (plans_of s) s.signers.items draws.items s.opening.rows (string_bytes words.image) s.opening.state s.opening.first).was_met t in
          (told_known (statuses t)).above three four (λ is. unmet 6 (omega arith) (met 6 is (omega arith))) (λ is. unmet 8 (omega arith) (met 8 is (omega arith))) seven

    small : (end : Result Done Stop) → HostsWith words file old new end → status_of end ≢ 7 → status_of end ≤ 1
    small (Ok d) p memory =
        let q = p.rest in
        let is = status_is words.awaited q.rest.0 d q.rest.2 in
        let no_three = λ (three : status_of (Ok d) ≡ 3). no_read ((with_closes words file).read_fault old new (Ok d) p three) in
        let no_four = λ (four : status_of (Ok d) ≡ 4). no_write ((with_closes words file).write_fault old new (Ok d) p four) in
        subst (λ (k : ℕ). k ≤ 1) is (told_small p.value p.between p.given q.value q.between q.given q.rest.0 q.rest.1 (λ three. no_three (sym is ∙ three)) (λ four. no_four (sym is ∙ four)) (λ seven. memory (sym is ∙ seven)))
    small (Err (stop.Refused refusal)) hosts memory = omega arith
    small (Err stop.ReadFault) hosts memory = absurd (no_read ((with_closes words file).read_fault old new (Err stop.ReadFault) hosts refl))
    small (Err stop.WriteFault) hosts memory = absurd (no_write ((with_closes words file).write_fault old new (Err stop.WriteFault) hosts refl))
    small (Err stop.NoMemory) hosts memory = absurd (memory refl)
    small (Err e) hosts memory = absurd (hosts_free e tt hosts)

-- ---- with a log file

module _ (words : HostWords) (old new : World) (end : Result Done Stop) (x : HasFiled words old new end) where
  abbrev behind : World
  behind = record x.between { bay = new.bay }

  -- what is ready by what stands behind is ready by what stood before the disk was given back
  had_before : (given : SideGiven) → HadSessions words given old x.between → HadSessions words given old behind
  had_before given had =
      record {
        signers = had.signers;
        reserved = had.reserved;
        are_signers = had.are_signers;
        draws = had.draws;
        drawn = had.drawn;
        many = had.many;
        visits = had.visits;
        back = had.back;
        opening = had.opening;
        log = had.log;
        opens = had.opens;
        shared = had.shared;
        alone = had.alone;
        is_log = had.is_log;
        are_visits = had.are_visits;
        is_put = had.is_put;
      }

  can_before : CanHost words old behind → CanHost words old x.between
  unfolding had_before
  can_before can =
      record {
        names = can.names;
        are_told = can.are_told;
        given = can.given;
        are_given = can.are_given;
        can_open = can.can_open;
        can_sign = can.can_sign;
        signs = can.signs;
        answered = λ had. can.answered (had_before can.given had);
        fed = λ call had visit at area follows. can.fed call (had_before can.given had) visit at area follows;
        unfilled = λ had visit at missed. can.unfilled (had_before can.given had) visit at missed;
      }

  filed_small : CanHost words old new → (Either HostReads BayReads old new → ⊥) → (Either HostWrites BayWrites old new → ⊥) → status_of end ≢ 7 → status_of end ≤ 1
  filed_small can no_read no_write memory =
      let told = ap status_of (sym x.told) in
      let no_three = λ (three : status_of end ≡ 3). no_read ((host_closes words).read_fault old new end (inr x) three) in
      let no_four = λ (four : status_of end ≡ 4). no_write ((host_closes words).write_fault old new end (inr x) four) in
      let same = known_filed x.left x.reached (λ e. no_three (sym told ∙ e)) (λ e. no_four (sym told ∙ e)) (λ e. memory (sym told ∙ e)) ∙ told in
      subst (λ (k : ℕ). k ≤ 1) same
      (small words (Some x.opened) old x.between (can_before (subst (λ (w : World). CanHost words old w) x.others can)) (λ rose. no_read (reads_still words old new end x rose)) (λ rose. no_write (writes_still words old new end x rose))
      x.reached x.hosts (λ seven. memory (sym same ∙ seven)))

all_small : (words : HostWords) (old new : World) → CanHost words old new → (Either HostReads BayReads old new → ⊥) → (Either HostWrites BayWrites old new → ⊥) → (end : Result Done Stop) → DoesHost words old new end → status_of end ≢ 7 → status_of end ≤ 1
all_small words old new can no_read no_write end (inl hosts) memory = small words None old new can no_read no_write end hosts memory
all_small words old new can no_read no_write end (inr x) memory = filed_small words old new end x can no_read no_write memory

-- ---- the command

pub host_is_lawful : (words : HostWords) → IsLawful (host_deed words)
host_is_lawful words =
    let closes = host_closes words in
    let few = few_back words in
    record {
      counts = closes.counts;
      unfailed = closes.unfailed;
      want = closes.want;
      usage = λ old new end meets is. absurd (closes.usage old new end meets is);
      no_run = λ old new end meets unbuilt. absurd unbuilt;
      read_fault = λ old new end meets is. (closes.read_fault old new end meets is, few old new end meets (λ seven. omega (arith, is, seven)));
      write_fault = λ old new end meets is. (closes.write_fault old new end meets is, few old new end meets (λ seven. omega (arith, is, seven)));
      ends = λ old new end meets can no_read no_write memory.
          let back = few old new end meets memory in
          all_small words old new can (λ rose. no_read (rose, back)) (λ rose. no_write (rose, back)) end meets memory;
    }
