-- What a session did, by what its side has come to.
use Rattle.std.proofs.Common.{◌⊎◌, inl, inr, ℕ, List, [], ◌++◌, map, length, Err, IfOk, refl, sym, subst, append-nil}
use Rattle.std.specs.Io.KnownBytes.{Consumes}
use Rattle.spelling.specs.Form.{AreBytes}
use Rattle.spelling.proofs.Lists.{All-append}
use Rattle.willow_outside.specs.Told.{Extends}
use mathlib.Core.List.{IsPrefix}
use Rattle.willow_outside.specs.Facts.{LinkFacts}
use Rattle.willow_entry.specs.Row.{RowValue, live}
use Rattle.cap_codec.specs.Rows.{RawValue, row_of}
use Rattle.auth_entry.specs.Authorised.{AuthorisedValue}
use Rattle.log_rule.proofs.Prefixes.{prefix_self}
use Rattle.ns_cell.specs.Passes.{PassValue, FirstFound}
use Rattle.session_end.specs.declared.end.SessionEnd.{SessionEnd}
use Rattle.session_end.specs.declared.end.SessionEnd.TheVariants.{LinkRead, LinkWrite, ClosedEarly, BadMessage, Hello, Core, SignFault, LogFull, NoMemory}
use Rattle.sync_hello.specs.HelloForm.{hello_spelling}
use Rattle.session_rules.specs.Reading as reading
use Rattle.session_rules.specs.Reading.{ending_of}
use Rattle.session_rules.specs.Rounds.{IsFront}
use Rattle.session_rules.proofs.Growing.{front_by, front_self, front_is, out_grows, got_grows}
use Rattle.sync_link.specs.Sessions.{SessionCause, session_of, out, got, ending}
use Rattle.sync_link.specs.Settling.{IsOpening}
use Rattle.sync_link.specs.Progress.{Progress}
use Rattle.auth_entry.specs.Rows.{authorised_rows}
use Rattle.sync_link.specs.Kept.{log_rows}
use Rattle.sync_link.specs.Tallies.{HasGrown}
use Rattle.row_intake.specs.Answers.{IsAllOf, Covers}
use Rattle.row_intake.specs.Kept.{CoversOrIsFull}
use Rattle.sync_link.specs.Run.{Answer, Ends, KeptFirst, Counts, Reports, IsProofOf, Runs}
use Rattle.sync_link.specs.UnderWay.{Start, brought, Reached}
use Rattle.sync_link.specs.declared.plan.SessionReport.{SessionReport}
use Rattle.row_intake.proofs.Outcomes.{IsCut, is_all, are_all, cut_all, cut_came, cut_covers}
use Rattle.sync_link.proofs.Reaching.{chosen, may_chosen, front_trans, has_read, ending_is, proof_fits, signed_or_quiet}

-- how a session ends that was cut off
pub cut_ends : (end : reading.Ending SessionCause) (n : ℕ) (why : SessionEnd) → IsCut why → Ends end n (Err why)
cut_ends end n LinkWrite cut = absurd cut
cut_ends end n SignFault cut = tt
cut_ends end n NoMemory cut = tt
cut_ends end n LinkRead cut = absurd cut
cut_ends end n (ClosedEarly at) cut = absurd cut
cut_ends end n (BadMessage at) cut = absurd cut
cut_ends end n (Hello cause) cut = absurd cut
cut_ends end n (Core cause) cut = absurd cut
cut_ends end n (LogFull missed) cut = absurd cut

module _ (start : Start) (side : Progress) (bytes all : List ℕ) (raws : List RawValue) (r : Reached start side bytes all raws)
    (opens : IsOpening start.namespace (live (log_rows start.log)))
    (pass : PassValue AuthorisedValue) (link : LinkFacts) (faults : ℕ) (opening : IsPrefix start.pass.seen start.log × IsPrefix start.log pass.seen) (turn : FirstFound start.pass start.log pass)
    (grew : HasGrown start.rules start.namespace start.pass raws pass) where
  abbrev signature : List ℕ
  signature = chosen side.side.signature

  abbrev rows : List RowValue
  rows = live (log_rows start.log)

  abbrev Did : Answer → Type 0
  Did answer = Runs (brought start) start.gives start.pass pass start.link link start.faults faults answer

  pub shorter : (written more : List ℕ) → IsFront written all → IsProofOf (brought start signature) start.gives (bytes ++ more) ⊎ IsFront all (hello_spelling start.hello)
      → IsProofOf (brought start signature) start.gives (bytes ++ more) ⊎ IsFront written (hello_spelling start.hello)
  shorter written more front (inl p) = inl p
  shorter written more front (inr q) = inr (front_trans written all (hello_spelling start.hello) front q)

  -- all rows that came are in the log, and no more was written than is due to what came with them
  pub kept_first : (more written : List ℕ) → IsFront written all → CoversOrIsFull (log_rows pass.seen) (authorised_rows start.rules start.namespace raws) → KeptFirst (brought start signature) rows (bytes ++ more) written pass.seen
  kept_first more written front kept =
      let h = has_read start side bytes all raws r signature (may_chosen side.side.signature) in
      record {
        front = bytes;
        rows = raws;
        log = pass.seen;
        of_bytes = front_by bytes (bytes ++ more) more refl;
        due = front_is written all (out (brought start signature) rows bytes) h.wrote front;
        came = h.took;
        of_seen = prefix_self pass.seen;
        covers = kept;
      }

  -- the same where no more was read
  pub kept_here : (written : List ℕ) → IsFront written all → CoversOrIsFull (log_rows pass.seen) (authorised_rows start.rules start.namespace raws) → KeptFirst (brought start signature) rows bytes written pass.seen
  kept_here written front kept = subst (λ l. KeptFirst (brought start signature) rows l written pass.seen) (append-nil bytes) (kept_first [] written front kept)

  -- what is due was written, or a front of it
  abbrev pub written_as : (answer : Answer) (written : List ℕ) → IsFront written all → KeptFirst (brought start signature) rows bytes written pass.seen
      → Consumes start.link.left link.left bytes × Extends start.link.taken link.taken bytes → Extends start.link.held link.held written
      → IsAllOf (out (brought start signature) rows bytes) written answer → Ends (ending (brought start signature) rows bytes) (length bytes) answer → Covers (log_rows pass.seen) (authorised_rows start.rules start.namespace raws) answer
      → IfOk answer (Reports (brought start signature) start.log bytes raws (length grew.grew.grown) (length pass.seen)) → Counts start.link link start.faults faults answer → Did answer
  written_as answer written front first taken held wrote ended covers reported counts =
      let h = has_read start side bytes all raws r signature (may_chosen side.side.signature) in
      record {
        signature = signature;
        log = start.log;
        bytes = bytes;
        written = written;
        rows = raws;
        grown = grew.grew.grown;
        proof_fits = proof_fits start side bytes all raws r;
        own_fits = start.own_fits;
        own_passes = start.own_passes;
        later = grew.later;
        opening = opening;
        turn = inl turn;
        opens = λ some. opens;
        begun = inl opens;
        are_bytes = r.are_bytes;
        taken = taken;
        held = held;
        signed = subst (λ l. IsProofOf (brought start signature) start.gives l ⊎ IsFront written (hello_spelling start.hello)) (append-nil bytes) (shorter written [] front (signed_or_quiet start side bytes all raws r []));
        wrote = wrote;
        ended = ended;
        sent = are_all (got (brought start signature) rows bytes) (map row_of raws) answer h.took;
        read_out = r.read_out;
        grew = (grew.grew.own_is, grew.grew.part);
        covers = covers;
        kept_first = first;
        reported = reported;
        counted_faults = counts;
      }

  -- all that is due was written
  abbrev pub complete : CoversOrIsFull (log_rows pass.seen) (authorised_rows start.rules start.namespace raws) → (answer : Answer) → Consumes start.link.left link.left bytes × Extends start.link.taken link.taken bytes → Extends start.link.held link.held all
      → Ends (ending_of side.side.stand) (length bytes) answer → Covers (log_rows pass.seen) (authorised_rows start.rules start.namespace raws) answer
      → IfOk answer (Reports (brought start signature) start.log bytes raws (length grew.grew.grown) (length pass.seen)) → Counts start.link link start.faults faults answer → Did answer
  complete kept answer taken held ends covers reported counts =
      let h = has_read start side bytes all raws r signature (may_chosen side.side.signature) in
      written_as answer all (front_self all) (kept_here all (front_self all) kept) taken held (is_all (out (brought start signature) rows bytes) all answer h.wrote)
      (subst (λ e. Ends e (length bytes) answer) (sym (ending_is start side bytes all raws r signature (may_chosen side.side.signature))) ends) covers reported counts

  -- a write failed
  abbrev pub unsent : CoversOrIsFull (log_rows pass.seen) (authorised_rows start.rules start.namespace raws) → (written : List ℕ) → IsFront written all
      → Consumes start.link.left link.left bytes × Extends start.link.taken link.taken bytes → Extends start.link.held link.held written
      → Counts start.link link start.faults faults (Err LinkWrite) → Did (Err LinkWrite)
  unsent kept written front taken held counts =
      let h = has_read start side bytes all raws r signature (may_chosen side.side.signature) in
      written_as (Err LinkWrite) written front (kept_here written front kept) taken held (front_is written all (out (brought start signature) rows bytes) h.wrote front) tt kept tt counts

  -- it was cut off, and a front of what is due was written
  abbrev pub cut_short : (written : List ℕ) → KeptFirst (brought start signature) rows bytes written pass.seen → (why : SessionEnd) → IsCut why → IsFront written all
      → Consumes start.link.left link.left bytes × Extends start.link.taken link.taken bytes → Extends start.link.held link.held written
      → Counts start.link link start.faults faults (Err why) → Did (Err why)
  cut_short written first why cut front taken held counts =
      let h = has_read start side bytes all raws r signature (may_chosen side.side.signature) in
      written_as (Err why) written front first taken held
      (cut_all SessionReport (out (brought start signature) rows bytes) written why cut (front_is written all (out (brought start signature) rows bytes) h.wrote front))
      (cut_ends (ending (brought start signature) rows bytes) (length bytes) why cut) (cut_covers SessionReport (log_rows pass.seen) (authorised_rows start.rules start.namespace raws) why cut) tt counts

  -- the same, and more was read
  abbrev pub cut_off : CoversOrIsFull (log_rows pass.seen) (authorised_rows start.rules start.namespace raws) → (more written : List ℕ) (why : SessionEnd) → IsCut why → AreBytes more → IsFront written all
      → Consumes start.link.left link.left (bytes ++ more) × Extends start.link.taken link.taken (bytes ++ more) → Extends start.link.held link.held written
      → Counts start.link link start.faults faults (Err why) → Did (Err why)
  cut_off kept more written why cut are front taken held counts =
      let h = has_read start side bytes all raws r signature (may_chosen side.side.signature) in
      let machine = session_of (brought start signature) rows in
      record {
        signature = signature;
        log = start.log;
        bytes = bytes ++ more;
        written = written;
        rows = raws;
        grown = grew.grew.grown;
        proof_fits = proof_fits start side bytes all raws r;
        own_fits = start.own_fits;
        own_passes = start.own_passes;
        later = grew.later;
        opening = opening;
        turn = inl turn;
        opens = λ some. opens;
        begun = inl opens;
        are_bytes = All-append _ bytes more r.are_bytes are;
        taken = taken;
        held = held;
        signed = shorter written more front (signed_or_quiet start side bytes all raws r more);
        wrote = cut_all SessionReport (out (brought start signature) rows (bytes ++ more)) written why cut
            (front_trans written (out (brought start signature) rows bytes) (out (brought start signature) rows (bytes ++ more)) (front_is written all (out (brought start signature) rows bytes) h.wrote front) (out_grows machine bytes more));
        ended = cut_ends (ending (brought start signature) rows (bytes ++ more)) (length (bytes ++ more)) why cut;
        sent = cut_came SessionReport (got (brought start signature) rows (bytes ++ more)) (map row_of raws) why cut
            (subst (λ l. IsFront l (got (brought start signature) rows (bytes ++ more))) (sym h.took) (got_grows machine bytes more));
        read_out = r.read_out;
        grew = (grew.grew.own_is, grew.grew.part);
        covers = cut_covers SessionReport (log_rows pass.seen) (authorised_rows start.rules start.namespace raws) why cut;
        kept_first = kept_first more written front kept;
        reported = tt;
        counted_faults = counts;
      }
