-- A session that has read nothing yet.
use Rattle.std.proofs.Common.{◌≡◌, inl, inr, ℕ, List, [], ◌∷◌, ◌++◌, take, drop, Option, None, Some, Err, refl, sym, ap, ◌∙◌, subst, arith, append-nil}
use Rattle.std.proofs.lemmas.List.{take-append-drop}
use Rattle.std.specs.Io.KnownBytes.{Consumes}
use Rattle.willow_outside.specs.Told.{Extends}
use Rattle.willow_outside.proofs.Extended.{extends-none}
use mathlib.Core.List.{IsPrefix}
use Rattle.scheme_core.specs.Rules.{Rules}
use Rattle.willow_outside.specs.Facts.{LinkFacts}
use Rattle.willow_entry.specs.Row.{RowValue, live}
use Rattle.willow_entry.specs.declared.row.LogRow.{LogRow}
use Rattle.auth_entry.specs.Authorised.{AuthorisedValue}
use Rattle.log_rule.proofs.Prefixes.{prefix_self}
use Rattle.ns_cell.specs.Passes.{PassValue, FirstFound, HadTurn, IsLater}
use Rattle.session_end.specs.declared.end.SessionEnd.{SessionEnd}
use Rattle.session_end.specs.declared.end.SessionEnd.TheVariants as ends
use Rattle.session_rules.specs.Rounds.{IsFront}
use Rattle.session_rules.proofs.Growing.{front_by, front_none}
use Rattle.sync_hello.specs.HelloForm.{hello_spelling}
use Rattle.sync_link.specs.Sessions.{out, got}
use Rattle.sync_link.specs.Settling.{IsOpening}
use Rattle.sync_link.specs.Progress.{Progress, begun, progress_in, first_bytes}
use Rattle.auth_entry.specs.Rows.{authorised_rows}
use Rattle.sync_link.specs.Kept.{log_rows}
use Rattle.row_intake.specs.Kept.{CoversOrIsFull}
use Rattle.sync_link.specs.Tallies.{HasGrown}
use Rattle.row_intake.specs.Links.{ReadsNothing}
use Rattle.sync_link.specs.Run.{KeptFirst, Runs}
use Rattle.sync_link.specs.Writing.{CountsWrite}
use Rattle.sync_link.specs.UnderWay.{Start, brought, IsReady, Reached, IsUnderWay, EndsSo}
use Rattle.sync_link.proofs.ReadOn.{begun_read}
use Rattle.sync_link.proofs.Offered.{none_offered}
use Rattle.sync_link.proofs.Outcomes.{cut_short, kept_here, unsent}

none_is_some : (signature : List ℕ) → None ≡ Some signature → ⊥
none_is_some signature e = cc

pub consumes_none : (known : Option (List ℕ)) → Consumes known known []
consumes_none None = tt
consumes_none (Some xs) = refl

-- where no row came, none is wanting in the log
pub none_came : (rules : Rules) (namespace : List ℕ) (pass : PassValue AuthorisedValue) → CoversOrIsFull (log_rows pass.seen) (authorised_rows rules namespace [])
none_came rules namespace pass = inl (λ k d within. absurd (omega arith))

-- the one turn that a pass had since is its first
first_found : {R : Type 0} (before : PassValue R) (log : List (LogRow R)) (after : PassValue R) → HadTurn before after → after.seen ≡ log → FirstFound before log after
first_found {R} before log after turn seen =
    subst (λ (turns : List (List (LogRow R))). IsPrefix (before.turns ++ log ∷ []) turns) (sym turn) (subst (λ (l : List (LogRow R)). IsPrefix (before.turns ++ l ∷ []) (before.turns ++ after.seen ∷ [])) seen (prefix_self (before.turns ++ after.seen ∷ [])))

module _ (start : Start) (rows : List RowValue) (pass : PassValue AuthorisedValue) (ready : IsReady start rows pass) where
  abbrev first : Progress
  first = progress_in start.rules (begun start.namespace start.role start.hello start.interest rows)

  abbrev due : List ℕ
  due = first_bytes start.role start.hello

  reached : Reached start first [] due []
  reached = record {
    side_is = ap (λ (l : List RowValue). (progress_in start.rules (begun start.namespace start.role start.hello start.interest l)).side) ready.rows_are;
    are_bytes = tt;
    read = begun_read start.rules start.namespace start.role start.hello start.interest rows;
    read_out = λ k d within. absurd (omega arith);
    signed = λ signature e. absurd (none_is_some signature e);
    owes = λ signature e. absurd (none_is_some signature e);
  }

  opens : IsOpening start.namespace (live (log_rows start.log))
  opens = subst (IsOpening start.namespace) ready.rows_are ready.opens

  opening : IsPrefix start.pass.seen start.log × IsPrefix start.log pass.seen
  opening = (subst (IsPrefix start.pass.seen) ready.seen ready.later.seen, subst (λ l. IsPrefix start.log l) (sym ready.seen) (prefix_self start.log))

  turn : FirstFound start.pass start.log pass
  turn = first_found start.pass start.log pass ready.turn ready.seen

  grew : HasGrown start.rules start.namespace start.pass [] pass
  grew = record { grew = record { grown = []; own_is = ready.own ∙ sym (append-nil start.pass.own); part = tt }; later = ready.later }

  module _ (link : LinkFacts) (rest : ReadsNothing start.link link) where
    taken : Consumes start.link.left link.left [] × Extends start.link.taken link.taken []
    taken = (subst (λ l. Consumes start.link.left l []) (sym rest.left) (consumes_none start.link.left), subst (λ l. Extends start.link.taken l []) (sym rest.taken) (extends-none start.link.taken))

    pub begins : Extends start.link.held link.held due → link.write_faults ≡ start.link.write_faults
        → IsUnderWay start (record { progress = first; tally = record { rows = 0; stored = 0; kept = 0; missed = 0; refused = 0; first = None }; count = 0; pass = pass; link = link; left = start.left; faults = start.faults })
    begins held writes = record {
      bytes = [];
      written = due;
      rows = [];
      reached = reached;
      opens = opens;
      opening = opening;
      turn = turn;
      taken = taken;
      held = held;
      count = refl;
      was_open = inl refl;
      unsigned = λ none. refl;
      tally = none_offered start.rules start.namespace start.pass pass ready.later ready.own ready.pass;
      reads = rest.faults;
      writes = writes;
      ends = rest.ends;
      faults = refl;
    }

    front : (k : ℕ) → IsFront (take k due) due
    front k = front_by (take k due) due (drop k due) (sym (take-append-drop k due))

    kept_so : (written : List ℕ) → IsFront written due → KeptFirst (brought start []) (live (log_rows start.log)) [] written pass.seen
    kept_so written short = kept_here start first [] due [] reached opens pass link start.faults opening turn grew written short (none_came start.rules start.namespace pass)

    cut_off : (written : List ℕ) → IsFront written due → Extends start.link.held link.held written → link.write_faults ≡ start.link.write_faults → EndsSo start pass link start.faults (Unit {0}) ends.NoMemory
    cut_off written short held same = record {
      did =
          cut_short start first [] due [] reached opens pass link start.faults opening turn grew written (kept_so written short) ends.NoMemory tt short taken held
          (record { reads = rest.faults; writes = same; ends = rest.ends; signs = refl });
      asked = inl tt;
      stops = inl (tt, refl);
    }

    -- what is due first was not written, or a front of it
    pub unwritten : (end : SessionEnd) → ((k : ℕ) × Extends start.link.held link.held (take k due)) → CountsWrite {A = Unit {0}} start.link.write_faults link.write_faults (Err end) → EndsSo start pass link start.faults (Unit {0}) end
    unwritten ends.LinkRead held h = absurd h
    unwritten ends.LinkWrite held rose = record {
      did =
          unsent start first [] due [] reached opens pass link start.faults opening turn grew (none_came start.rules start.namespace pass) (take held.0 due) (front held.0) taken held.1
          (record { reads = rest.faults; writes = rose; ends = rest.ends; signs = refl });
      asked = inl tt;
      stops = inl (tt, refl);
    }
    unwritten (ends.ClosedEarly at) held h = absurd h
    unwritten (ends.BadMessage at) held h = absurd h
    unwritten (ends.Hello cause) held h = absurd h
    unwritten (ends.Core cause) held h = absurd h
    unwritten ends.SignFault held h = absurd h
    unwritten (ends.LogFull missed) held h = absurd h
    unwritten ends.NoMemory held same = cut_off (take held.0 due) (front held.0) held.1 same

  nothing_read : ReadsNothing start.link start.link
  nothing_read = record { left = refl; taken = refl; faults = refl; ends = refl }

  pub unbegun : EndsSo start pass start.link start.faults (Unit {0}) ends.NoMemory
  unbegun = cut_off start.link nothing_read [] (front_none due) (extends-none start.link.held) refl

-- ---- no snapshot was had

abbrev pub no_snapshot : (start : Start) (pass : PassValue AuthorisedValue) → IsLater start.pass pass → pass.own ≡ start.pass.own
    → Runs (brought start) start.gives start.pass pass start.link start.link start.faults start.faults (Err ends.NoMemory)
no_snapshot start pass later own = record {
  signature = [];
  log = pass.seen;
  bytes = [];
  written = [];
  rows = [];
  grown = [];
  proof_fits = (omega arith, tt);
  own_fits = start.own_fits;
  own_passes = start.own_passes;
  later = later;
  opening = (later.seen, prefix_self pass.seen);
  turn = inr (refl, (refl, refl));
  opens = λ some. absurd (some refl);
  begun = inr (refl, refl);
  are_bytes = tt;
  taken = ((consumes_none start.link.left), (extends-none start.link.taken));
  held = (extends-none start.link.held);
  signed = inr (front_none (hello_spelling start.hello));
  wrote = front_none (out (brought start []) (live (log_rows pass.seen)) []);
  ended = tt;
  sent = front_none (got (brought start []) (live (log_rows pass.seen)) []);
  read_out = λ k d within. absurd (omega arith);
  grew = (own ∙ sym (append-nil start.pass.own), tt);
  covers = tt;
  kept_first = record {
    front = [];
    rows = [];
    log = pass.seen;
    of_bytes = front_none [];
    due = front_none (out (brought start []) (live (log_rows pass.seen)) []);
    came = (begun_read start.rules start.namespace start.role start.hello start.interest (live (log_rows pass.seen)) [] tt).took;
    of_seen = prefix_self pass.seen;
    covers = none_came start.rules start.namespace pass;
  };
  reported = tt;
  counted_faults = record { reads = refl; writes = refl; ends = refl; signs = refl };
}

pub unopened : (start : Start) (pass : PassValue AuthorisedValue) → IsLater start.pass pass → pass.own ≡ start.pass.own → EndsSo start pass start.link start.faults (Unit {0}) ends.NoMemory
unopened start pass later own = record { did = no_snapshot start pass later own; asked = inl tt; stops = inl (tt, refl) }
