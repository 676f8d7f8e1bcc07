-- A feed that is under way: how it goes on, and how it ends.
use Rattle.std.proofs.Common.{◌≡◌, inl, inr, ℕ, ◌+◌, ◌<◌, ◌≤◌, List, [], ◌++◌, map, length, All, Option, Some, None, Ok, Err, IfOk, refl, sym, ap, ◌∙◌, subst, arith, append-nil, length-append}
use Rattle.std.specs.Prelude.{option_map}
use Rattle.std.proofs.lemmas.List.{length-map, map-append}
use Rattle.std.proofs.lemmas.List.Elements.{All-append, All-from_recursion}
use Rattle.std.specs.Io.KnownBytes.{Consumes, Keeps}
use Rattle.std.proofs.KnownBytes.{Consumes-nil, Consumes-trans}
use Rattle.spelling.specs.Form.{AreBytes}
use Rattle.spelling.proofs.Lists.{All-append as bytes_append}
use Rattle.willow_outside.specs.Counts.{HasRisen}
use Rattle.willow_outside.specs.Facts.{LinkFacts}
use Rattle.willow_outside.specs.Told.{Extends}
use Rattle.willow_outside.proofs.Extended.{extends-none, extends-trans}
use Rattle.willow_entry.specs.Row.{RowValue, HasCovering}
use Rattle.willow_entry.specs.declared.row.LogRow.{LogRow}
use Rattle.cap_codec.specs.Rows.{RawValue, IsRaw, row_of}
use Rattle.auth_entry.specs.Authorised.{AuthorisedValue}
use Rattle.auth_entry.specs.Rows.{entry_row, authorised_rows, first_refused}
use Rattle.ns_cell.specs.Passes.{PassValue, IsPass}
use Rattle.session_end.specs.declared.end.SessionEnd.TheVariants.{LinkRead, ClosedEarly, BadMessage, Core, LogFull, NoMemory}
use Rattle.sync_msg.specs.declared.refusal.CoreRefusal.{CoreRefusal}
use Rattle.sync_msg.specs.declared.refusal.CoreRefusal.TheVariants.{EntryOutside}
use Rattle.session_rules.specs.Machine.{Machine}
use Rattle.session_rules.specs.Reading.{Stand, Waits, Over, Broken, Refused, More, Done, ending_of, then, move, run, read}
use Rattle.session_rules.specs.Reading as reading
use Rattle.session_rules.specs.Rounds.{IsFront}
use Rattle.session_rules.proofs.Growing.{front_self, got_grows}
use Rattle.session_rules.proofs.Runs.{run_append}
use Rattle.row_intake.specs.Answers.{Covers, CountsReads, CountsEnds}
use Rattle.row_intake.specs.Kept.{CoversOrIsFull}
use Rattle.row_intake.specs.Links.{GaveBytes, WritesNothing}
use Rattle.row_intake.specs.declared.tally.Tally.{Tally}
use Rattle.row_intake.proofs.CoveredRows.{covered_all}
use Rattle.row_intake.proofs.Outcomes.{are_all}
use Rattle.row_intake.proofs.Tallying.{tally_keeps}
use Rattle.sync_follow.specs.Grammar.{FeedMessage}
use Rattle.sync_follow.specs.Following.{EndsFeed, feed_of, feed_ending, rows_fed}
use Rattle.sync_follow.specs.Tallies.{log_rows, HasGrown, IsTally}
use Rattle.sync_follow.specs.Follows.{FollowAnswer, ReportsFeed, StopsInTime, told_first}
use Rattle.sync_follow.specs.UnderWay.{Start, Now, first_now, IsUnderWay, EndsAs}
use Rattle.sync_follow.specs.declared.report.FollowReport.{FollowReport}
use Rattle.sync_follow.proofs.Offered.{none_offered, later_self}

-- what a failed read left as it was, as what was taken of it
pub keeps_none : (old new : Option (List ℕ)) → Keeps old new → Consumes old new []
keeps_none None new h = tt
keeps_none (Some xs) None h = absurd h
keeps_none (Some xs) (Some ys) h = sym h

pub still : (old new : Option (List ℕ)) → new ≡ old → Extends old new []
still old new same = same ∙ extends-none old

-- ---- before anything was read

pub begun : (start : Start) → IsPass entry_row start.pass
    → IsUnderWay start (first_now start)
unfolding run
begun start is_pass = record {
  bytes = [];
  rows = [];
  are_bytes = tt;
  reads = refl;
  read_out = λ k d within. absurd (omega arith);
  count = refl;
  taken = (Consumes-nil start.link.left, extends-none start.link.taken);
  unwritten = record { held = refl; faults = refl };
  was_due = inl refl;
  tally = none_offered start.rules start.namespace start.pass start.pass (later_self start.pass) refl is_pass;
  faults = refl;
  ends = refl;
}

module _ (start : Start) (now : Now) (u : IsUnderWay start now) where
  abbrev here : Machine ℕ FeedMessage FeedMessage RowValue CoreRefusal
  here = feed_of start.area

  abbrev due : List RowValue
  due = authorised_rows start.rules start.namespace u.rows

  ending_is : feed_ending start.area u.bytes ≡ ending_of now.stand
  ending_is = ap (λ m. ending_of m.stand) u.reads

  rows_are : rows_fed start.area u.bytes ≡ map row_of u.rows
  rows_are = ap (λ m. m.rows) u.reads

  -- the log has the rows that came so far
  keeps : CoversOrIsFull (log_rows now.pass.seen) due
  keeps = tally_keeps entry_row due (length u.rows) (first_refused start.rules start.namespace u.rows) (length u.tally.has_grown.grew.grown) now.pass.seen now.tally u.tally.counts

  -- ---- ends

  -- all that was read was taken in
  abbrev ends_so : (link : LinkFacts) (answer : FollowAnswer) → Consumes start.link.left link.left u.bytes × Extends start.link.taken link.taken u.bytes → WritesNothing start.link link
      → EndsFeed (ending_of now.stand) (length u.bytes) answer → Covers (log_rows now.pass.seen) due answer
      → IfOk answer (ReportsFeed start.rules start.namespace u.rows (length u.tally.has_grown.grew.grown)) → CountsReads start.link.read_faults link.read_faults answer → CountsEnds start.link.ends link.ends answer
      → EndsAs start now.pass link answer
  ends_so link answer taken unwritten ended covers reported reads ends = record {
    bytes = u.bytes;
    rows = u.rows;
    grown = u.tally.has_grown.grew.grown;
    later = u.tally.has_grown.later;
    are_bytes = u.are_bytes;
    taken = taken;
    unwritten = unwritten;
    ended = subst (λ e. EndsFeed e (length u.bytes) answer) (sym ending_is) ended;
    stops = u.was_due;
    sent = are_all (rows_fed start.area u.bytes) (map row_of u.rows) answer (sym rows_are);
    read_out = u.read_out;
    grew = (u.tally.has_grown.grew.own_is, u.tally.has_grown.grew.part);
    covers = covers;
    reported = reported;
    reads = reads;
    ends = ends;
  }

  -- what is no message
  pub ends_bad : (at : ℕ) → now.stand ≡ Broken at → EndsAs start now.pass now.link (Err (BadMessage at))
  ends_bad at is = ends_so now.link (Err (BadMessage at)) u.taken u.unwritten (ap ending_of is) keeps tt u.faults u.ends

  -- a row outside of the area
  pub ends_outside : now.stand ≡ Refused EntryOutside → EndsAs start now.pass now.link (Err (Core EntryOutside))
  ends_outside is = ends_so now.link (Err (Core EntryOutside)) u.taken u.unwritten (ap ending_of is) keeps tt u.faults u.ends

  -- the log has no room for some
  pub ends_full : now.stand ≡ Over → 0 < now.tally.missed → EndsAs start now.pass now.link (Err (LogFull now.tally.missed))
  ends_full is some =
      ends_so now.link (Err (LogFull now.tally.missed)) u.taken u.unwritten (ap ending_of is)
      (record { full = length-map now.pass.seen (λ (l : LogRow AuthorisedValue). entry_row l.row) ∙ u.tally.counts.full some; counted = u.tally.counts.missed; some = omega (arith, some) }) tt u.faults u.ends

  -- the feed was read whole, and the log has all of it
  pub ends_done : now.stand ≡ Over → now.tally.missed ≡ 0 → (report : FollowReport) → report.read ≡ now.tally.rows → report.stored ≡ now.tally.stored → report.kept ≡ now.tally.kept → report.refused ≡ now.tally.refused → report.first ≡ option_map told_first now.tally.first
      → EndsAs start now.pass now.link (Ok report)
  ends_done is none report read stored kept refused first =
      let t = u.tally.counts in
      ends_so now.link (Ok report) u.taken u.unwritten (ap ending_of is)
      (All-from_recursion (HasCovering (log_rows now.pass.seen)) due (covered_all (log_rows now.pass.seen) due (sym t.missed ∙ none)))
      (record {
        read = read ∙ t.all;
        stored = stored ∙ t.stored;
        kept = omega (arith, stored, kept, none, t.kept);
        refused = omega (arith, refused, t.refused);
        first = first ∙ ap (option_map told_first) t.first_is;
      })
      u.faults u.ends

  -- ---- reads that give nothing

  module _ (link : LinkFacts) (left : Consumes now.link.left link.left []) (taken : Extends now.link.taken link.taken []) (held : link.held ≡ now.link.held) (writes : link.write_faults ≡ now.link.write_faults) (still : ending_of now.stand ≡ More) where
    taken_as : Consumes start.link.left link.left u.bytes × Extends start.link.taken link.taken u.bytes
    taken_as =
        subst (λ l. Consumes start.link.left link.left l × Extends start.link.taken link.taken l) (append-nil u.bytes)
        (Consumes-trans start.link.left now.link.left link.left u.bytes [] u.taken.0 left, extends-trans start.link.taken now.link.taken link.taken u.bytes [] u.taken.1 taken)

    unwritten_as : WritesNothing start.link link
    unwritten_as = record { held = held ∙ u.unwritten.held; faults = writes ∙ u.unwritten.faults }

    -- a read failed
    pub ends_failed : HasRisen now.link.read_faults link.read_faults → link.ends ≡ now.link.ends → EndsAs start now.pass link (Err LinkRead)
    ends_failed rose same = ends_so link (Err LinkRead) taken_as unwritten_as still keeps tt (subst (λ n. HasRisen n link.read_faults) u.faults rose) (same ∙ u.ends)

    -- the other side ended too early
    pub ends_early : link.read_faults ≡ now.link.read_faults → HasRisen now.link.ends link.ends → EndsAs start now.pass link (Err (ClosedEarly now.count))
    ends_early same rose = ends_so link (Err (ClosedEarly now.count)) taken_as unwritten_as (still, u.count) keeps tt (same ∙ u.faults) (subst (λ n. HasRisen n link.ends) u.ends rose)

    -- memory was wanting for the read
    pub ends_unread : link.read_faults ≡ now.link.read_faults → link.ends ≡ now.link.ends → EndsAs start now.pass link (Err NoMemory)
    ends_unread same ended = ends_so link (Err NoMemory) taken_as unwritten_as tt tt tt (same ∙ u.faults) (ended ∙ u.ends)

  -- ---- memory was wanting before anything more was read
  pub ends_wanting : EndsAs start now.pass now.link (Err NoMemory)
  ends_wanting = ends_so now.link (Err NoMemory) u.taken u.unwritten tt tt tt u.faults u.ends

  -- ---- a piece

  module _ (mid : LinkFacts) (piece : List ℕ) (gives : GaveBytes now.link mid piece) (are : AreBytes piece) (some : 1 ≤ length piece) (few : length piece ≤ start.most) (due_still : ending_of now.stand ≡ More) where
    taken_on : Consumes start.link.left mid.left (u.bytes ++ piece) × Extends start.link.taken mid.taken (u.bytes ++ piece)
    taken_on = (Consumes-trans start.link.left now.link.left mid.left u.bytes piece u.taken.0 gives.left, extends-trans start.link.taken now.link.taken mid.taken u.bytes piece u.taken.1 gives.taken)

    unwritten_on : WritesNothing start.link mid
    unwritten_on = record { held = gives.held ∙ u.unwritten.held; faults = gives.writes ∙ u.unwritten.faults }

    bytes_on : AreBytes (u.bytes ++ piece)
    bytes_on = bytes_append _ u.bytes piece u.are_bytes are

    stops_on : StopsInTime start.area start.most (u.bytes ++ piece)
    stops_on = record { front = u.bytes; last = piece; joined = refl; some = some; few = few; goes_on = ending_is ∙ due_still }

    -- memory was wanting before it was taken in
    pub unheard : EndsAs start now.pass mid (Err NoMemory)
    unheard = record {
      bytes = u.bytes ++ piece;
      rows = u.rows;
      grown = u.tally.has_grown.grew.grown;
      later = u.tally.has_grown.later;
      are_bytes = bytes_on;
      taken = taken_on;
      unwritten = unwritten_on;
      ended = tt;
      stops = inr stops_on;
      sent = subst (λ l. IsFront l (rows_fed start.area (u.bytes ++ piece))) rows_are (got_grows here u.bytes piece);
      read_out = u.read_out;
      grew = (u.tally.has_grown.grew.own_is, u.tally.has_grown.grew.part);
      covers = tt;
      reported = tt;
      reads = gives.reads ∙ u.faults;
      ends = gives.ends ∙ u.ends;
    }

    module _ (to : Stand ℕ CoreRefusal) (came : List RawValue) (hears : read here now.stand piece ≡ record { stand = to; says = []; rows = map row_of came }) (raw : All IsRaw came) where
      reads_on : read here (reading.start here) (u.bytes ++ piece) ≡ record { stand = to; says = []; rows = map row_of (u.rows ++ came) }
      reads_on =
          run_append (move here) (reading.start here) u.bytes piece
          ∙ ap (λ m. then m (read here m.stand piece)) u.reads
          ∙ ap (λ m. then (record { stand = now.stand; says = []; rows = map row_of u.rows }) m) hears
          ∙ ap (λ rows. record { stand = to; says = []; rows = rows }) (sym (map-append row_of u.rows came))

      raw_on : All IsRaw (u.rows ++ came)
      raw_on = All-append IsRaw u.rows came u.read_out raw

      -- memory was wanting for its rows
      pub unkept : (pass : PassValue AuthorisedValue) → HasGrown start.rules start.namespace start.pass (u.rows ++ came) pass → EndsAs start pass mid (Err NoMemory)
      unkept pass h = record {
        bytes = u.bytes ++ piece;
        rows = u.rows ++ came;
        grown = h.grew.grown;
        later = h.later;
        are_bytes = bytes_on;
        taken = taken_on;
        unwritten = unwritten_on;
        ended = tt;
        stops = inr stops_on;
        sent = subst (λ l. IsFront (map row_of (u.rows ++ came)) l) (sym (ap (λ m. m.rows) reads_on)) (front_self (map row_of (u.rows ++ came)));
        read_out = raw_on;
        grew = (h.grew.own_is, h.grew.part);
        covers = tt;
        reported = tt;
        reads = gives.reads ∙ u.faults;
        ends = gives.ends ∙ u.ends;
      }

      pub goes_on : (pass : PassValue AuthorisedValue) (tally : Tally) (count : ℕ) → count ≡ now.count + length piece → IsTally start.rules start.namespace start.pass (u.rows ++ came) pass tally
          → IsUnderWay start (record { stand = to; tally = tally; count = count; pass = pass; link = mid })
      goes_on pass tally count counted t = record {
        bytes = u.bytes ++ piece;
        rows = u.rows ++ came;
        are_bytes = bytes_on;
        reads = reads_on;
        read_out = raw_on;
        count = omega (arith, counted, u.count, length-append u.bytes piece);
        taken = taken_on;
        unwritten = unwritten_on;
        was_due = inr stops_on;
        tally = t;
        faults = gives.reads ∙ u.faults;
        ends = gives.ends ∙ u.ends;
      }
