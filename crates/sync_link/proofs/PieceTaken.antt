-- A piece that a session takes in: how it goes on, and how it is cut off.
use Rattle.std.proofs.Common.{◌≡◌, ◌⊎◌, inl, inr, ℕ, ◌+◌, ◌≤◌, List, [], ◌∷◌, ◌++◌, map, length, take, drop, All, None, Some, Err, refl, sym, ap, ◌∙◌, subst, arith, append_assoc, length-append}
use Rattle.std.specs.Prelude.{IfSome}
use Rattle.std.proofs.lemmas.List.{take-append-drop}
use Rattle.std.specs.Io.KnownBytes.{Consumes}
use Rattle.spelling.specs.Form.{AreBytes}
use Rattle.willow_outside.specs.Told.{Extends}
use Rattle.std.proofs.KnownBytes.{Consumes-trans}
use Rattle.willow_outside.proofs.Extended.{extends-trans}
use mathlib.Core.List.{IsPrefix}
use Rattle.scheme_core.specs.Rules.{Rules}
use Rattle.willow_outside.specs.Counts.{HasRisen}
use Rattle.willow_outside.specs.Facts.{LinkFacts}
use Rattle.willow_entry.specs.Row.{RowValue, live}
use Rattle.mc_cap.specs.Signature.{IsSignature}
use Rattle.cap_codec.specs.Rows.{RawValue, IsRaw, row_of}
use Rattle.auth_entry.specs.Authorised.{AuthorisedValue}
use Rattle.auth_entry.specs.Rows.{authorised_rows}
use Rattle.log_rule.proofs.Prefixes.{prefix_trans}
use Rattle.ns_cell.specs.Passes.{PassValue, FirstFound, IsLater}
use Rattle.session_end.specs.declared.end.SessionEnd.{SessionEnd}
use Rattle.session_end.specs.declared.end.SessionEnd.TheVariants as ends
use Rattle.session_rules.specs.Reading.{More, ending_of}
use Rattle.session_rules.specs.Rounds.{IsFront}
use Rattle.session_rules.proofs.Growing.{front_by, front_is, front_self}
use Rattle.sync_link.specs.Sessions.{out}
use Rattle.sync_link.specs.Standing.{Side, MayBe, ReadsPiece}
use Rattle.sync_link.specs.Asking.{CanFail, FailsSign}
use Rattle.sync_link.specs.Progress.{Progress, CountsOn}
use Rattle.sync_link.specs.Signing.{SaysProof, SignsTo}
use Rattle.sync_link.specs.Tallies.{HasGrown, IsTally}
use Rattle.sync_link.specs.Kept.{log_rows}
use Rattle.row_intake.specs.Kept.{CoversOrIsFull}
use Rattle.sync_link.specs.Run.{Counts, KeptFirst, OwesProof, StopsInTime}
use Rattle.row_intake.specs.Links.{GaveBytes, ReadsNothing}
use Rattle.sync_link.specs.Writing.{CountsWrite}
use Rattle.sync_link.specs.UnderWay.{Start, Now, brought, Reached, IsUnderWay, EndsSo}
use Rattle.row_intake.specs.declared.tally.Tally.{Tally}
use Rattle.sync_link.proofs.Reaching.{chosen, ending_is, has_read, may_chosen, reached_on}
use Rattle.sync_link.proofs.Outcomes.{cut_off, cut_short, kept_here, unsent}
use Rattle.sync_link.proofs.Offered.{offered_kept}

-- where nothing was to be written and no row had come
pub piece_read_none : (old new : Side) (piece out said : List ℕ) (rows came : List RawValue) → out ≡ [] → rows ≡ [] → ReadsPiece old new piece out said (map row_of rows) (map row_of came) → ReadsPiece old new piece [] said [] (map row_of came)
piece_read_none old new piece out said rows came e h f =
    subst (λ l. ReadsPiece old new piece l said [] (map row_of came)) e (subst (λ l. ReadsPiece old new piece out said (map row_of l) (map row_of came)) h f)

-- by equal rules and in equal namespaces
pub tally_as : (r r' : Rules) (n n' : List ℕ) (start : PassValue AuthorisedValue) (rows : List RawValue) (pass : PassValue AuthorisedValue) (tally : Tally) → r ≡ r' → n ≡ n' → IsTally r n start rows pass tally → IsTally r' n' start rows pass tally
tally_as r r' n n' start rows pass tally e f t = subst (λ x. IsTally x n' start rows pass tally) e (subst (λ y. IsTally r y start rows pass tally) f t)

pub grown_as : (r r' : Rules) (n n' : List ℕ) (start : PassValue AuthorisedValue) (rows : List RawValue) (pass : PassValue AuthorisedValue) → r ≡ r' → n ≡ n' → HasGrown r n start rows pass → HasGrown r' n' start rows pass
grown_as r r' n n' start rows pass e f t = subst (λ x. HasGrown x n' start rows pass) e (subst (λ y. HasGrown r y start rows pass) f t)

module _ (start : Start) (now : Now) (u : IsUnderWay start now) (mid : LinkFacts) (piece : List ℕ) (given : GaveBytes now.link mid piece) (are_bytes : AreBytes piece)
    (some : 1 ≤ length piece) (few : length piece ≤ start.most) (more_due : ending_of now.progress.side.stand ≡ More) where
  abbrev opening_rows : List RowValue
  opening_rows = live (log_rows start.log)

  taken_on : Consumes start.link.left mid.left (u.bytes ++ piece) × Extends start.link.taken mid.taken (u.bytes ++ piece)
  taken_on = (Consumes-trans start.link.left now.link.left mid.left u.bytes piece u.taken.0 given.left, extends-trans start.link.taken now.link.taken mid.taken u.bytes piece u.taken.1 given.taken)

  held_on : Extends start.link.held mid.held u.written
  held_on = subst (λ h. Extends start.link.held h u.written) (sym given.held) u.held

  -- the link as it stands behind the read
  reads_same : mid.read_faults ≡ start.link.read_faults
  reads_same = given.reads ∙ u.reads

  writes_same : mid.write_faults ≡ start.link.write_faults
  writes_same = given.writes ∙ u.writes

  ends_same : mid.ends ≡ start.link.ends
  ends_same = given.ends ∙ u.ends

  memory_counts : (faults : ℕ) → faults ≡ now.faults → Counts start.link mid start.faults faults (Err ends.NoMemory)
  memory_counts faults more = record { reads = reads_same; writes = writes_same; ends = ends_same; signs = more ∙ u.faults }

  -- the log has the rows that came so far
  kept_so : CoversOrIsFull (log_rows now.pass.seen) (authorised_rows start.rules start.namespace u.rows)
  kept_so = offered_kept start.rules start.namespace start.pass u.rows now.pass now.tally u.tally

  -- and what was written is due to the bytes with which they came
  kept_before : (signature : List ℕ) → MayBe now.progress.side.signature signature → (pass : PassValue AuthorisedValue) → IsLater now.pass pass → KeptFirst (brought start signature) opening_rows (u.bytes ++ piece) u.written pass.seen
  kept_before signature may pass later =
      let h = has_read start now.progress u.bytes u.written u.rows u.reached signature may in
      record {
        front = u.bytes;
        rows = u.rows;
        log = now.pass.seen;
        of_bytes = front_by u.bytes (u.bytes ++ piece) piece refl;
        due = front_is u.written u.written (out (brought start signature) opening_rows u.bytes) h.wrote (front_self u.written);
        came = h.took;
        of_seen = later.seen;
        covers = kept_so;
      }

  -- the session was open before the piece, and had written all that was due
  stops_with : (signature : List ℕ) → MayBe now.progress.side.signature signature → (written : List ℕ) → IsFront u.written written → StopsInTime (brought start signature) opening_rows start.most (u.bytes ++ piece) written
  stops_with signature may written front =
      let h = has_read start now.progress u.bytes u.written u.rows u.reached signature may in
      record {
        front = u.bytes;
        last = piece;
        joined = refl;
        some = some;
        few = few;
        goes_on = ending_is start now.progress u.bytes u.written u.rows u.reached signature may ∙ more_due;
        answered = subst (λ l. IsFront l written) h.wrote front;
      }

  -- ---- it was cut off before the piece was taken in

  module _ (still : Type 0) (asked : still ⊎ OwesProof (brought start) opening_rows (u.bytes ++ piece)) (faults : ℕ) where
    -- memory was wanting
    pub not_taken_in : faults ≡ now.faults → EndsSo start now.pass mid faults still ends.NoMemory
    not_taken_in more = record {
      did =
          cut_off start now.progress u.bytes u.written u.rows u.reached u.opens now.pass mid faults u.opening u.turn u.tally.has_grown kept_so
          piece u.written ends.NoMemory tt are_bytes (front_self u.written) taken_on held_on (memory_counts faults more);
      asked = asked;
      stops = inr (stops_with (chosen now.progress.side.signature) (may_chosen now.progress.side.signature) u.written (front_self u.written));
    }

    -- the signer failed
    pub unsigned : 1 ≤ start.left → FailsSign now.progress.side.signature now.left now.faults faults → EndsSo start now.pass mid faults still ends.SignFault
    unsigned left fails = record {
      did =
          cut_off start now.progress u.bytes u.written u.rows u.reached u.opens now.pass mid faults u.opening u.turn u.tally.has_grown kept_so
          piece u.written ends.SignFault tt are_bytes (front_self u.written) taken_on held_on
          (record { reads = reads_same; writes = writes_same; ends = ends_same; signs = rises fails.1 });
      asked = asked;
      stops = inr (stops_with (chosen now.progress.side.signature) (may_chosen now.progress.side.signature) u.written (front_self u.written));
    }
      where
        rises : CanFail now.left now.faults faults → HasRisen start.faults faults
        rises (inl none) = absurd (omega (arith, u.unsigned fails.0))
        rises (inr rose) = subst (λ n. HasRisen n faults) u.faults rose

  -- ---- behind that

  module _ (new : Progress) (said : List ℕ) (came : List RawValue) (are : All IsRaw came) (f : ReadsPiece now.progress.side new.side piece [] said [] (map row_of came)) (counts : CountsOn now.progress new piece) (signs : SignsTo start.gives now.progress.side new.side piece)
      (fits : IfSome new.side.signature IsSignature) (due : (signature : List ℕ) → new.side.signature ≡ Some signature → (now.progress.side.signature ≡ Some signature) ⊎ SaysProof now.progress.side piece signature) where
    reached : Reached start new (u.bytes ++ piece) (u.written ++ said) (u.rows ++ came)
    reached = reached_on start now.progress u.bytes u.written u.rows u.reached new piece said came are_bytes are f counts signs fits due

    -- its signature
    abbrev signed : List ℕ
    signed = chosen new.side.signature

    opening_later : (pass : PassValue AuthorisedValue) → IsLater now.pass pass → IsPrefix start.pass.seen start.log × IsPrefix start.log pass.seen
    opening_later pass later = (u.opening.0, prefix_trans start.log now.pass.seen pass.seen u.opening.1 later.seen)

    turn_later : (pass : PassValue AuthorisedValue) → IsLater now.pass pass → FirstFound start.pass start.log pass
    turn_later pass later = prefix_trans (start.pass.turns ++ start.log ∷ []) now.pass.turns pass.turns u.turn later.turns

    stops_here : (written : List ℕ) → IsFront u.written written → StopsInTime (brought start signed) opening_rows start.most (u.bytes ++ piece) written
    stops_here written front = stops_with signed (f.signed_once signed (may_chosen new.side.signature)) written front

    module _ (still : Type 0) (asked : still ⊎ OwesProof (brought start) opening_rows (u.bytes ++ piece)) (pass : PassValue AuthorisedValue) (faults : ℕ) (later : IsLater now.pass pass) (more : faults ≡ now.faults) where
      -- memory was wanting for the rows
      pub unkept : HasGrown start.rules start.namespace start.pass (u.rows ++ came) pass → EndsSo start pass mid faults still ends.NoMemory
      unkept grew = record {
        did =
            cut_short start new (u.bytes ++ piece) (u.written ++ said) (u.rows ++ came) reached u.opens pass mid faults (opening_later pass later) (turn_later pass later) grew
            u.written (kept_before signed (f.signed_once signed (may_chosen new.side.signature)) pass later) ends.NoMemory tt (front_by u.written (u.written ++ said) said refl)
            taken_on held_on (memory_counts faults more);
        asked = asked;
        stops = inr (stops_here u.written (front_self u.written));
      }

      module _ (tally : Tally) (t : IsTally start.rules start.namespace start.pass (u.rows ++ came) pass tally) (link : LinkFacts) (rest : ReadsNothing mid link) where
        taken_then : Consumes start.link.left link.left (u.bytes ++ piece) × Extends start.link.taken link.taken (u.bytes ++ piece)
        taken_then = (subst (λ l. Consumes start.link.left l (u.bytes ++ piece)) (sym rest.left) taken_on.0, subst (λ l. Extends start.link.taken l (u.bytes ++ piece)) (sym rest.taken) taken_on.1)

        kept : CoversOrIsFull (log_rows pass.seen) (authorised_rows start.rules start.namespace (u.rows ++ came))
        kept = offered_kept start.rules start.namespace start.pass (u.rows ++ came) pass tally t

        front : (k : ℕ) → IsFront (u.written ++ take k said) (u.written ++ said)
        front k = front_by (u.written ++ take k said) (u.written ++ said) (drop k said) (ap (λ l. u.written ++ l) (sym (take-append-drop k said)) ∙ sym (append_assoc u.written (take k said) (drop k said)))

        stops_behind : (more : List ℕ) → StopsInTime (brought start signed) opening_rows start.most (u.bytes ++ piece) (u.written ++ more)
        stops_behind more = stops_here (u.written ++ more) (front_by u.written (u.written ++ more) more refl)

        -- a write failed, or memory was wanting for it
        pub unsent_so : (end : SessionEnd) → ((k : ℕ) × Extends mid.held link.held (take k said)) → CountsWrite {A = Unit {0}} mid.write_faults link.write_faults (Err end) → EndsSo start pass link faults still end
        unsent_so ends.LinkRead all h = absurd h
        unsent_so ends.LinkWrite all rose = record {
          did =
              unsent start new (u.bytes ++ piece) (u.written ++ said) (u.rows ++ came) reached u.opens pass link faults (opening_later pass later) (turn_later pass later) t.has_grown kept
              (u.written ++ take all.0 said) (front all.0) taken_then (extends-trans start.link.held mid.held link.held u.written (take all.0 said) held_on all.1)
              (record { reads = rest.faults ∙ reads_same; writes = subst (λ n. HasRisen n link.write_faults) writes_same rose; ends = rest.ends ∙ ends_same; signs = more ∙ u.faults });
          asked = asked;
          stops = inr (stops_behind (take all.0 said));
        }
        unsent_so (ends.ClosedEarly at) all h = absurd h
        unsent_so (ends.BadMessage at) all h = absurd h
        unsent_so (ends.Hello cause) all h = absurd h
        unsent_so (ends.Core cause) all h = absurd h
        unsent_so ends.SignFault all h = absurd h
        unsent_so (ends.LogFull missed) all h = absurd h
        unsent_so ends.NoMemory all same = record {
          did =
              cut_short start new (u.bytes ++ piece) (u.written ++ said) (u.rows ++ came) reached u.opens pass link faults (opening_later pass later) (turn_later pass later) t.has_grown
              (u.written ++ take all.0 said)
              (kept_here start new (u.bytes ++ piece) (u.written ++ said) (u.rows ++ came) reached u.opens pass link faults (opening_later pass later) (turn_later pass later) t.has_grown (u.written ++ take all.0 said) (front all.0) kept) ends.NoMemory tt (front all.0)
              taken_then (extends-trans start.link.held mid.held link.held u.written (take all.0 said) held_on all.1)
              (record { reads = rest.faults ∙ reads_same; writes = same ∙ writes_same; ends = rest.ends ∙ ends_same; signs = more ∙ u.faults });
          asked = asked;
          stops = inr (stops_behind (take all.0 said));
        }

        pub goes_on : (count left : ℕ) → count ≡ now.count + length piece → (new.side.signature ≡ None → (now.progress.side.signature ≡ None) × (left ≡ now.left)) → Extends mid.held link.held said → link.write_faults ≡ mid.write_faults
            → IsUnderWay start (record { progress = new; tally = tally; count = count; pass = pass; link = link; left = left; faults = faults })
        goes_on count left counted asks appends writes = record {
          bytes = u.bytes ++ piece;
          written = u.written ++ said;
          rows = u.rows ++ came;
          reached = reached;
          opens = u.opens;
          opening = opening_later pass later;
          turn = turn_later pass later;
          taken = taken_then;
          held = extends-trans start.link.held mid.held link.held u.written said held_on appends;
          count = omega (arith, counted, u.count, length-append u.bytes piece);
          was_open = inr (λ signature may. stops_with signature (f.signed_once signature may) (u.written ++ said) (front_by u.written (u.written ++ said) said refl));
          unsigned = λ none. (asks none).1 ∙ u.unsigned (asks none).0;
          tally = t;
          reads = rest.faults ∙ reads_same;
          writes = writes ∙ writes_same;
          ends = rest.ends ∙ ends_same;
          faults = more ∙ u.faults;
        }
