-- How a session that is under way ends.
use Rattle.std.proofs.Common.{◌≡◌, ◌⊎◌, inl, inr, ℕ, ◌<◌, ◌≤◌, ◌^◌, ◌==◌, length-append, List, [], length, All, Option, None, Some, Ok, Err, IfOk, refl, sym, ap, ◌∙◌, subst, arith, append-nil}
use Rattle.std.specs.Io.KnownBytes.{Consumes, Keeps}
use Rattle.willow_outside.specs.Told.{Extends}
use Rattle.std.proofs.lemmas.List.{length-map}
use Rattle.std.proofs.lemmas.List.Sums.{length-filter, count_by-le-length}
use Rattle.log_rule.specs.Views.{rows_of_pass}
use Rattle.std.proofs.KnownBytes.{Consumes-trans}
use Rattle.willow_outside.proofs.Extended.{extends-none, extends-trans}
use Rattle.std.proofs.lemmas.List.Elements.{All-from_recursion}
use Rattle.willow_outside.specs.Counts.{HasRisen}
use Rattle.willow_outside.specs.Facts.{LinkFacts}
use Rattle.willow_area.specs.declared.area.Area.{Area}
use Rattle.willow_entry.specs.Row.{RowValue, HasCovering, live}
use Rattle.willow_entry.specs.declared.row.LogRow.{LogRow}
use Rattle.auth_entry.specs.Authorised.{AuthorisedValue}
use Rattle.session_end.specs.declared.end.SessionEnd.TheVariants as ends
use Rattle.session_end.specs.declared.refusal.HelloRefusal.{HelloRefusal}
use Rattle.sync_msg.specs.declared.refusal.CoreRefusal.{CoreRefusal}
use Rattle.session_rules.specs.Reading.{Stand, Waits, Over, Broken, Refused, ending_of}
use Rattle.session_rules.specs.Reading as reading
use Rattle.session_rules.specs.Reading.{run}
use Rattle.session_rules.specs.Session.{InGreeting, InTalk}
use Rattle.session_rules.specs.Rounds.{IsFront}
use Rattle.session_rules.proofs.Growing.{front_self}
use Rattle.sync_link.specs.Sessions.{Party, SessionStage, SessionCause, ending}
use Rattle.sync_link.specs.Progress.{AgreesOn, GoesWell, standing_as}
use Rattle.sync_link.specs.declared.side.standing.Standing.TheVariants as standings
use Rattle.auth_entry.specs.Rows.{entry_row, authorised_rows}
use Rattle.sync_link.specs.Kept.{log_rows}
use Rattle.row_intake.specs.Kept.{CoversOrIsFull}
use Rattle.row_intake.specs.Answers.{Covers}
use Rattle.sync_link.specs.Run.{Answer, CanEndUnread, Counts, Ends, KeptFirst, OwesProof, Reports, StopsInTime}
use Rattle.sync_link.specs.UnderWay.{Start, Now, WasOpen, brought, IsUnderWay, EndsInTime, EndsSo}
use Rattle.sync_link.specs.declared.plan.SessionReport.{SessionReport}
use Rattle.sync_link.proofs.Agreeing.{talks_done}
use Rattle.row_intake.proofs.CoveredRows.{covered_all}
use Rattle.sync_link.proofs.Reaching.{chosen, ending_is, may_chosen, has_read}
use Rattle.sync_link.proofs.Outcomes.{complete, cut_short, kept_here}
use Rattle.sync_link.proofs.Offered.{offered_kept}

pub keeps_none : (old new : Option (List ℕ)) → Keeps old new → Consumes old new []
keeps_none None new h = tt
keeps_none (Some xs) None h = absurd h
keeps_none (Some xs) (Some ys) h = sym h

-- what a failed read left as it was, as what grew by nothing
pub still : (old new : Option (List ℕ)) → new ≡ old → Extends old new []
still old new same = same ∙ extends-none old

-- ---- how a session stands, as it is told

pub as_more : (e : reading.Ending SessionCause) → standings.More ≡ standing_as e → e ≡ reading.More
as_more reading.Done h = cc
as_more reading.More h = refl
as_more (reading.BadMessage at) h = cc
as_more (reading.Refusal (InGreeting cause)) h = cc
as_more (reading.Refusal (InTalk cause)) h = cc

pub as_done : (e : reading.Ending SessionCause) → standings.Done ≡ standing_as e → e ≡ reading.Done
as_done reading.Done h = refl
as_done reading.More h = cc
as_done (reading.BadMessage at) h = cc
as_done (reading.Refusal (InGreeting cause)) h = cc
as_done (reading.Refusal (InTalk cause)) h = cc

pub as_bad : (e : reading.Ending SessionCause) (at : ℕ) → standings.BadMessage at ≡ standing_as e → e ≡ reading.BadMessage at
as_bad reading.Done at h = cc
as_bad reading.More at h = cc
as_bad (reading.BadMessage other) at h = cc
as_bad (reading.Refusal (InGreeting cause)) at h = cc
as_bad (reading.Refusal (InTalk cause)) at h = cc

pub as_hello : (e : reading.Ending SessionCause) (cause : HelloRefusal) → standings.Hello cause ≡ standing_as e → e ≡ reading.Refusal (InGreeting cause)
as_hello reading.Done cause h = cc
as_hello reading.More cause h = cc
as_hello (reading.BadMessage other) cause h = cc
as_hello (reading.Refusal (InGreeting other)) cause h = cc
as_hello (reading.Refusal (InTalk other)) cause h = cc

pub as_core : (e : reading.Ending SessionCause) (cause : CoreRefusal) → standings.Core cause ≡ standing_as e → e ≡ reading.Refusal (InTalk cause)
as_core reading.Done cause h = cc
as_core reading.More cause h = cc
as_core (reading.BadMessage other) cause h = cc
as_core (reading.Refusal (InGreeting other)) cause h = cc
as_core (reading.Refusal (InTalk other)) cause h = cc

of_pass_few : (number : ℕ) (log : List (LogRow AuthorisedValue)) → length (rows_of_pass number log) ≤ length log
of_pass_few number log = omega (arith, length-filter (λ (l : LogRow AuthorisedValue). number == l.pass) log, count_by-le-length (λ (l : LogRow AuthorisedValue). number == l.pass) log)

-- a session that read nothing is open
first_open : (p : Party) (rows : List RowValue) → ending p rows [] ≡ reading.More
unfolding run
first_open p rows = refl

over_not_more : ◌≡◌ {A = reading.Ending SessionCause} reading.Done reading.More → ⊥
over_not_more e = cc

bad_not_more : (at : ℕ) → ◌≡◌ {A = reading.Ending SessionCause} (reading.BadMessage at) reading.More → ⊥
bad_not_more at e = cc

refused_not_more : (cause : SessionCause) → ◌≡◌ {A = reading.Ending SessionCause} (reading.Refusal cause) reading.More → ⊥
refused_not_more cause e = cc

module _ (start : Start) (now : Now) (u : IsUnderWay start now) where
  abbrev covering : List RowValue
  covering = log_rows now.pass.seen

  abbrev rows : List RowValue
  rows = authorised_rows start.rules start.namespace u.rows

  rows_long : length covering ≡ length now.pass.seen
  rows_long = length-map now.pass.seen (λ (l : LogRow AuthorisedValue). entry_row l.row)

  all_covered : now.tally.missed ≡ 0 → All (HasCovering covering) rows
  all_covered none = All-from_recursion (HasCovering covering) rows (covered_all covering rows (sym u.tally.counts.missed ∙ none))

  covers : CoversOrIsFull covering rows
  covers = offered_kept start.rules start.namespace start.pass u.rows now.pass now.tally u.tally

  -- and what was written is due to the bytes with which they came
  all_kept : (written : List ℕ) → IsFront written u.written → KeptFirst (brought start (chosen now.progress.side.signature)) (live (log_rows start.log)) u.bytes written now.pass.seen
  all_kept written front =
      kept_here start now.progress u.bytes u.written u.rows u.reached u.opens now.pass now.link now.faults u.opening u.turn u.tally.has_grown written front covers

  -- its signature
  abbrev signed : List ℕ
  signed = chosen now.progress.side.signature

  abbrev Stops : Answer → Type 0
  Stops answer = (CanEndUnread answer × (u.bytes ≡ [])) ⊎ StopsInTime (brought start signed) (live (log_rows start.log)) start.most u.bytes u.written

  -- where nothing was read it may answer so
  open_stops : (answer : Answer) → CanEndUnread answer → Stops answer
  open_stops answer can = by_case u.was_open
    where
      by_case : WasOpen start now.progress.side.signature u.bytes u.written → Stops answer
      by_case (inl none) = inl (can, none)
      by_case (inr was) = inr (was signed (may_chosen now.progress.side.signature))

  -- behind its end something was read
  over_stops : (answer : Answer) → (ending_of now.progress.side.stand ≡ reading.More → ⊥) → Stops answer
  over_stops answer over = by_case u.was_open
    where
      by_case : WasOpen start now.progress.side.signature u.bytes u.written → Stops answer
      by_case (inl none) =
          absurd (over (sym (ending_is start now.progress u.bytes u.written u.rows u.reached signed (may_chosen now.progress.side.signature))
          ∙ ap (ending (brought start signed) (live (log_rows start.log))) none
          ∙ first_open (brought start signed) (live (log_rows start.log))))
      by_case (inr was) = inr (was signed (may_chosen now.progress.side.signature))

  module _ (still : Type 0) (asked : still ⊎ OwesProof (brought start) (live (log_rows start.log)) u.bytes) where
    -- the link gave no more
    module _ (link : LinkFacts) (left : Consumes now.link.left link.left []) (taken : Extends now.link.taken link.taken []) (held : link.held ≡ now.link.held) where
      taken_still : Consumes start.link.left link.left u.bytes × Extends start.link.taken link.taken u.bytes
      taken_still =
          subst (λ l. Consumes start.link.left link.left l × Extends start.link.taken link.taken l) (append-nil u.bytes)
          (Consumes-trans start.link.left now.link.left link.left u.bytes [] u.taken.0 left, extends-trans start.link.taken now.link.taken link.taken u.bytes [] u.taken.1 taken)

      held_still : Extends start.link.held link.held u.written
      held_still = subst (λ h. Extends start.link.held h u.written) (sym held) u.held

      pub closed_early : ending_of now.progress.side.stand ≡ reading.More → link.read_faults ≡ now.link.read_faults → link.write_faults ≡ now.link.write_faults → HasRisen now.link.ends link.ends → EndsSo start now.pass link now.faults still (ends.ClosedEarly now.count)
      closed_early more reads writes rose = record {
        did =
            complete start now.progress u.bytes u.written u.rows u.reached u.opens now.pass link now.faults u.opening u.turn u.tally.has_grown covers
            (Err (ends.ClosedEarly now.count)) taken_still held_still (more, u.count) covers tt
            (record { reads = reads ∙ u.reads; writes = writes ∙ u.writes; ends = subst (λ n. HasRisen n link.ends) u.ends rose; signs = u.faults });
        asked = asked;
        stops = open_stops (Err (ends.ClosedEarly now.count)) tt;
      }

      pub read_failed : ending_of now.progress.side.stand ≡ reading.More → HasRisen now.link.read_faults link.read_faults → link.write_faults ≡ now.link.write_faults → link.ends ≡ now.link.ends → EndsSo start now.pass link now.faults still ends.LinkRead
      read_failed more rose writes same = record {
        did =
            complete start now.progress u.bytes u.written u.rows u.reached u.opens now.pass link now.faults u.opening u.turn u.tally.has_grown covers
            (Err ends.LinkRead) taken_still held_still more covers tt
            (record { reads = subst (λ n. HasRisen n link.read_faults) u.reads rose; writes = writes ∙ u.writes; ends = same ∙ u.ends; signs = u.faults });
        asked = asked;
        stops = open_stops (Err ends.LinkRead) tt;
      }

      pub read_unkept : link.read_faults ≡ now.link.read_faults → link.write_faults ≡ now.link.write_faults → link.ends ≡ now.link.ends → EndsSo start now.pass link now.faults still ends.NoMemory
      read_unkept reads writes same = record {
        did =
            cut_short start now.progress u.bytes u.written u.rows u.reached u.opens now.pass link now.faults u.opening u.turn u.tally.has_grown
            u.written (all_kept u.written (front_self u.written)) ends.NoMemory tt (front_self u.written) taken_still held_still
            (record { reads = reads ∙ u.reads; writes = writes ∙ u.writes; ends = same ∙ u.ends; signs = u.faults });
        asked = asked;
        stops = open_stops (Err ends.NoMemory) tt;
      }

    pub unkept_room : EndsSo start now.pass now.link now.faults still ends.NoMemory
    unkept_room = record {
      did =
          cut_short start now.progress u.bytes u.written u.rows u.reached u.opens now.pass now.link now.faults u.opening u.turn u.tally.has_grown
          u.written (all_kept u.written (front_self u.written)) ends.NoMemory tt (front_self u.written) u.taken u.held
          (record { reads = u.reads; writes = u.writes; ends = u.ends; signs = u.faults });
      asked = asked;
      stops = open_stops (Err ends.NoMemory) tt;
    }

    -- ---- behind the end

    ended : (answer : Answer) → (ending_of now.progress.side.stand ≡ reading.More → ⊥) → Ends (ending_of now.progress.side.stand) (length u.bytes) answer → Covers covering rows answer
        → IfOk answer (Reports (brought start signed) start.log u.bytes u.rows (length u.tally.has_grown.grew.grown) (length now.pass.seen)) → Counts start.link now.link start.faults now.faults answer
        → EndsInTime start now.pass now.link now.faults still answer
    ended answer over ends all reported counts = record {
      did =
          complete start now.progress u.bytes u.written u.rows u.reached u.opens now.pass now.link now.faults u.opening u.turn u.tally.has_grown covers
          answer u.taken u.held ends all reported counts;
      asked = asked;
      stops = over_stops answer over;
    }

    pub bad_message : (at : ℕ) → ending_of now.progress.side.stand ≡ reading.BadMessage at → EndsSo start now.pass now.link now.faults still (ends.BadMessage at)
    bad_message at e = ended (Err (ends.BadMessage at)) (λ more. bad_not_more at (sym e ∙ more)) e covers tt (record { reads = u.reads; writes = u.writes; ends = u.ends; signs = u.faults })

    pub hello_refused : (cause : HelloRefusal) → ending_of now.progress.side.stand ≡ reading.Refusal (InGreeting cause) → EndsSo start now.pass now.link now.faults still (ends.Hello cause)
    hello_refused cause e =
        ended (Err (ends.Hello cause)) (λ more. refused_not_more (InGreeting cause) (sym e ∙ more)) e covers tt (record { reads = u.reads; writes = u.writes; ends = u.ends; signs = u.faults })

    pub item_refused : (cause : CoreRefusal) → ending_of now.progress.side.stand ≡ reading.Refusal (InTalk cause) → EndsSo start now.pass now.link now.faults still (ends.Core cause)
    item_refused cause e =
        ended (Err (ends.Core cause)) (λ more. refused_not_more (InTalk cause) (sym e ∙ more)) e covers tt (record { reads = u.reads; writes = u.writes; ends = u.ends; signs = u.faults })

    pub log_full : ending_of now.progress.side.stand ≡ reading.Done → 0 < now.tally.missed → EndsSo start now.pass now.link now.faults still (ends.LogFull now.tally.missed)
    log_full e some =
        ended (Err (ends.LogFull now.tally.missed)) (λ more. over_not_more (sym e ∙ more)) e (record { full = rows_long ∙ u.tally.counts.full some; counted = u.tally.counts.missed; some = omega arith }) tt
        (record { reads = u.reads; writes = u.writes; ends = u.ends; signs = u.faults })

    went_well : (q : Stand SessionStage SessionCause) → ending_of q ≡ reading.Done → GoesWell q
    went_well (Waits s at held) e = tt
    went_well Over e = tt
    went_well (Broken at) e = cc
    went_well (Refused cause) e = cc

    pub done : (report : SessionReport) → ending_of now.progress.side.stand ≡ reading.Done → now.tally.missed ≡ 0
        → report.opened ≡ length start.log → report.closed ≡ length now.pass.seen → report.stored ≡ now.tally.stored → report.kept ≡ now.tally.kept → report.refused ≡ now.tally.refused → report.first ≡ now.tally.first
        → report.sent ≡ now.progress.sent → report.read ≡ now.progress.read → report.area ≡ now.progress.area
        → EndsInTime start now.pass now.link now.faults still (Ok report)
    done report e none opened closed stored kept refused first sent read area =
        let h = has_read start now.progress u.bytes u.written u.rows u.reached signed (may_chosen now.progress.side.signature) in
        let well = went_well now.progress.side.stand e in
        ended (Ok report) (λ more. over_not_more (sym e ∙ more)) e (all_covered none)
        (record {
          opened = opened;
          closed_at = closed;
          stored = stored ∙ u.tally.counts.stored;
          kept = omega (arith, stored, kept, u.tally.counts.kept, none);
          refused = omega (arith, refused, u.tally.counts.refused);
          first = first ∙ u.tally.counts.first_is;
          sent = sent ∙ h.sent well;
          read = read ∙ h.read well;
          area = subst (λ (x : Option Area). AgreesOn (brought start signed) u.bytes x) (sym area) (h.agreed (talks_done now.progress.side.stand e));
        })
        (record { reads = u.reads; writes = u.writes; ends = u.ends; signs = u.faults })

  -- a row that is stored stands in the log that the pass has seen
  pub stored_few : now.tally.stored < 2 ^ 32
  stored_few =
      omega (
        arith,
        u.tally.counts.stored,
        ap length u.tally.has_grown.grew.own_is,
        length-append start.pass.own u.tally.has_grown.grew.grown,
        ap length u.tally.pass.own,
        of_pass_few now.pass.number now.pass.seen,
        u.tally.pass.log.few,
      )
