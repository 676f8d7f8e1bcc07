-- Messages that are taken one after the other.
use Rattle.std.proofs.Common.{◌≡◌, ◌⊎◌, inl, inr, ℕ, ◌+◌, ◌-◌, ◌≤◌, ◌<◌, Bool, true, List, [], length, map, take, drop, append-nil, Option, Some, None, Result, Err, refl, sym, ap, ◌∙◌, subst, arith}
use Rattle.std.proofs.lemmas.List.{length-drop, take-append-drop}
use Rattle.std.proofs.lemmas.List.{take_all as take_whole}
use Rattle.std.proofs.Math.Seq.{take-add}
use Rattle.scheme_core.specs.Rules.{Rules}
use Rattle.willow_entry.specs.Row.{RowValue}
use Rattle.sync_msg.specs.declared.role.Role.{Role}
use Rattle.sync_hello.specs.declared.hello.Hello.{Hello}
use Rattle.session_rules.specs.Reading.{Over, move, run}
use Rattle.session_rules.specs.Reading as reading
use Rattle.session_rules.proofs.Runs.{run_idle}
use Rattle.sync_link.specs.Sessions.{session_of}
use Rattle.sync_link.specs.Standing.{MayBe, ReadsPiece, party_of}
use Rattle.sync_link.specs.Awaited.{stand_of}
use Rattle.sync_link.specs.Progress.{CountsOn, counted, noting}
use Rattle.sync_link.specs.Held.{CountsStep, progress_with, read_of, sent_of}
use Rattle.sync_link.specs.Talking.{Keeps, SignsBy, own_message}
use Rattle.sync_link.specs.Taking.{Fits, Holds, IsOpen, Steps, read_by, taken_of, waiting_side}
use Rattle.sync_link.specs.TakingAll.{TakesAll, TakesFront}
use Rattle.sync_link.specs.declared.side.awaited.Cause.TheVariants as causes
use Rattle.sync_link.specs.declared.side.awaited.Awaited.{Awaited}
use Rattle.sync_link.specs.declared.side.awaited.Awaited.TheVariants as awaited
use Rattle.sync_link.specs.declared.side.participant.Participant.{Participant}
use Rattle.sync_link.proofs.Agreeing.{talks_still}
use Rattle.sync_link.proofs.PieceReads.{closed_reads, closed_holds, over_by, taken_on, taken_last}
use Rattle.sync_link.proofs.Tally.{counts_append}

module _ {R S : Type 0} (rules : Rules) (value : R → RowValue) where
  -- ---- nothing is taken

  pub front_none : (participant : Participant R S) (due : Awaited R) (bytes out : List ℕ) (rows : List RowValue) → Fits participant.role participant.signature due → TakesFront rules value participant participant due due bytes 0 out out rows rows
  unfolding run
  front_none participant due bytes out rows fits = record {
    keeps = refl;
    within = omega arith;
    reads_piece = λ at.
        subst (λ n. ReadsPiece (waiting_side rules value participant due at []) (waiting_side rules value participant due n []) [] out out rows rows) (same at)
        (record {
          written = [];
          taken = [];
          wrote = sym (append-nil out);
          got = sym (append-nil rows);
          kept = refl;
          signed_once = λ s h. h;
          reads = λ s h. record { stands = refl; writes = refl; takes = refl };
        });
    counts = λ at.
        subst (λ n. CountsOn (progress_with rules value participant due at []) (progress_with rules value participant due n []) []) (same at)
        (λ well signature may. record { sent = omega arith; read = omega arith; agreed = λ talks. inl (talks, refl) });
    fits = fits;
    read = omega arith;
  }
    where
      same : (at : ℕ) → at ≡ at + 0
      same at = omega arith

  module _ (first old new : Participant R S) (due_first due next : Awaited R) (bytes : List ℕ) (taken : ℕ) (out_first out_old out_new : List ℕ) (rows_first rows_old rows_new : List RowValue)
      (front : TakesFront rules value first old due_first due bytes taken out_first out_old rows_first rows_old) where
    -- ---- one more

    pub front_on : (more : ℕ) → Keeps old new → ((at : ℕ) → Steps (waiting_side rules value old due) (waiting_side rules value new next) at (drop taken bytes) (Some more) out_old out_new rows_old rows_new)
        → ((at : ℕ) → CountsStep (progress_with rules value old due) (progress_with rules value new next) at (drop taken bytes) (Some more))
        → Fits old.role new.signature next → read_by next ≤ read_by due + more
        → TakesFront rules value first new due_first next bytes (taken + more) out_first out_new rows_first rows_new
    front_on more keeps steps counts fits read = record {
      keeps = keeps ∙ ap {A = Participant R S} (λ t. record t { signature = new.signature }) front.keeps;
      within = omega (arith, front.within, (steps 0).1.0, length-drop taken bytes);
      reads_piece = taken_on rules value first old new due_first due next bytes taken out_first out_old out_new rows_first rows_old rows_new more front.reads_piece steps;
      counts = λ at.
          let both = counts_append (progress_with rules value first due_first at []) (progress_with rules value old due (at + taken) []) (progress_with rules value new next (at + taken + more) []) (take taken bytes) (take more (drop taken bytes))
          out_first out_old out_new rows_first rows_old rows_new (front.reads_piece at) (steps (at + taken)).1.1 (front.counts at) (counts (at + taken)) in
          let there : at + taken + more ≡ at + (taken + more) = omega arith in
          subst (λ n. CountsOn (progress_with rules value first due_first at []) (progress_with rules value new next n []) (take (taken + more) bytes)) there
          (subst (λ l. CountsOn (progress_with rules value first due_first at []) (progress_with rules value new next (at + taken + more) []) l) (sym (take-add taken more bytes)) both);
      fits = subst (λ role. Fits role new.signature next) (ap (λ t. t.role) front.keeps) fits;
      read = omega (arith, front.read, read);
    }

    -- ---- the last

    with_rest : ((at : ℕ) → ReadsPiece (waiting_side rules value old due at []) (waiting_side rules value new next at (drop taken bytes)) (drop taken bytes) out_old out_new rows_old rows_new)
        → ((at : ℕ) → CountsOn (progress_with rules value old due at []) (progress_with rules value new next at (drop taken bytes)) (drop taken bytes))
        → Fits first.role new.signature next → read_by next ≤ read_by due → Holds rules value new next (drop taken bytes)
        → TakesAll rules value first new due_first next bytes taken out_first out_new rows_first rows_new
    with_rest reads_piece counts fits read holds = record {
      within = front.within;
      reads_piece = taken_last rules value first old new due_first due next bytes taken out_first out_old out_new rows_first rows_old rows_new front.reads_piece reads_piece;
      counts = λ at.
          subst (λ l. CountsOn (progress_with rules value first due_first at []) (progress_with rules value new next (at + taken) (drop taken bytes)) l) (take-append-drop taken bytes)
          (counts_append (progress_with rules value first due_first at []) (progress_with rules value old due (at + taken) []) (progress_with rules value new next (at + taken) (drop taken bytes)) (take taken bytes) (drop taken bytes)
          out_first out_old out_new rows_first rows_old rows_new (front.reads_piece at) (reads_piece (at + taken)) (front.counts at) (counts (at + taken)));
      fits = fits;
      read = omega (arith, front.read, read);
      holds = holds;
    }

    -- a part of a message is left, or what is none
    pub front_last : ((at : ℕ) → Steps (waiting_side rules value old due) (waiting_side rules value new next) at (drop taken bytes) None out_old out_new rows_old rows_new)
        → ((at : ℕ) → CountsStep (progress_with rules value old due) (progress_with rules value new next) at (drop taken bytes) None)
        → Fits old.role new.signature next → read_by next ≤ read_by due + 0 → Holds rules value new next (drop taken bytes)
        → TakesAll rules value first new due_first next bytes taken out_first out_new rows_first rows_new
    front_last steps counts fits read holds = with_rest steps counts (subst (λ role. Fits role new.signature next) (ap (λ t. t.role) front.keeps) fits) (omega (arith, read)) holds

    -- ---- by an answer

    module _ (rest : List ℕ) (answer : Option ℕ) (left : rest ≡ drop taken bytes) (keeps : Keeps old new)
        (steps : (at : ℕ) → Steps (waiting_side rules value old due) (waiting_side rules value new next) at rest answer out_old out_new rows_old rows_new)
        (counts : (at : ℕ) → CountsStep (progress_with rules value old due) (progress_with rules value new next) at rest answer)
        (fits : Fits old.role new.signature next) (read : read_by next ≤ read_by due + taken_of answer) where
      steps_as : (other : Option ℕ) → answer ≡ other → (at : ℕ) → Steps (waiting_side rules value old due) (waiting_side rules value new next) at (drop taken bytes) other out_old out_new rows_old rows_new
      steps_as other is at =
          subst (λ l. Steps (waiting_side rules value old due) (waiting_side rules value new next) at l other out_old out_new rows_old rows_new) left
          (subst (λ o. Steps (waiting_side rules value old due) (waiting_side rules value new next) at rest o out_old out_new rows_old rows_new) is (steps at))

      counts_as : (other : Option ℕ) → answer ≡ other → (at : ℕ) → CountsStep (progress_with rules value old due) (progress_with rules value new next) at (drop taken bytes) other
      counts_as other is at =
          subst (λ l. CountsStep (progress_with rules value old due) (progress_with rules value new next) at l other) left
          (subst (λ o. CountsStep (progress_with rules value old due) (progress_with rules value new next) at rest o) is (counts at))

      pub front_by : (more : ℕ) → answer ≡ Some more → TakesFront rules value first new due_first next bytes (taken + more) out_first out_new rows_first rows_new
      front_by more is = front_on more keeps (steps_as (Some more) is) (counts_as (Some more) is) fits (subst (λ o. read_by next ≤ read_by due + taken_of o) is read)

      -- some bytes, and no more than there are
      pub more_taken : (more : ℕ) → answer ≡ Some more → (0 < more) × (taken + more ≤ length bytes)
      more_taken more is = let step = steps_as (Some more) is 0 in (step.0, omega (arith, front.within, step.1.0, length-drop taken bytes))

      pub front_end : answer ≡ None → Holds rules value new next rest → TakesAll rules value first new due_first next bytes taken out_first out_new rows_first rows_new
      front_end is holds = front_last (steps_as None is) (counts_as None is) fits (subst (λ o. read_by next ≤ read_by due + taken_of o) is read) (subst (λ l. Holds rules value new next l) left holds)

      once_from : (o : Option ℕ) → Steps (waiting_side rules value old due) (waiting_side rules value new next) 0 rest o out_old out_new rows_old rows_new → (signature : List ℕ) → MayBe new.signature signature → MayBe old.signature signature
      once_from None h = h.signed_once
      once_from (Some more) h = h.1.1.signed_once

      pub once_by : (signature : List ℕ) → MayBe new.signature signature → MayBe old.signature signature
      once_by = once_from answer (steps 0)

  -- ---- nothing is due

  over_counts : (participant : Participant R S) (due : Awaited R) (at : ℕ) (rest : List ℕ) → stand_of due at [] ≡ Over → CountsOn (progress_with rules value participant due at []) (progress_with rules value participant due at rest) rest
  over_counts participant due at rest over well signature may =
      let p = party_of (waiting_side rules value participant due at []) signature in
      let here = session_of p (map value participant.snapshot) in
      record {
        sent = sym (ap (λ q. sent_of due + counted (reading.read here q rest).says) over ∙ ap (λ m. sent_of due + counted m.says) (run_idle (move here) Over (λ b. refl) rest) ∙ omega arith);
        read = sym (ap (λ q. read_of due + counted (reading.read (noting here) q rest).rows) over ∙ ap (λ m. read_of due + counted m.rows) (run_idle (move (noting here)) Over (λ b. refl) rest) ∙ omega arith);
        agreed = λ talks. inl (talks_still due at at rest [] talks, refl);
      }

  closed_counts : (participant : Participant R S) (role : Role) (made : Option (List ℕ)) (due : Awaited R) (at : ℕ) (rest : List ℕ) → Fits role made due → (IsOpen due → ⊥) → CountsOn (progress_with rules value participant due at []) (progress_with rules value participant due at rest) rest
  closed_counts participant role made awaited.Hello at rest fits closed = absurd (closed tt)
  closed_counts participant role made (awaited.Proof other) at rest fits closed = absurd (closed tt)
  closed_counts participant role made (awaited.Items exchange) at rest fits closed = over_counts participant (awaited.Items exchange) at rest (over_by exchange fits closed at [])
  closed_counts participant role made (awaited.Nothing causes.Bad) at rest fits closed = λ well. absurd well
  closed_counts participant role made (awaited.Nothing (causes.Hello cause)) at rest fits closed = λ well. absurd well
  closed_counts participant role made (awaited.Nothing (causes.Core cause)) at rest fits closed = λ well. absurd well

  pub front_closed : (first old : Participant R S) (due_first due : Awaited R) (bytes : List ℕ) (taken : ℕ) (out_first out_old : List ℕ) (rows_first rows_old : List RowValue)
      → TakesFront rules value first old due_first due bytes taken out_first out_old rows_first rows_old → (IsOpen due → ⊥)
      → TakesAll rules value first old due_first due bytes taken out_first out_old rows_first rows_old
  front_closed first old due_first due bytes taken out_first out_old rows_first rows_old front closed =
      with_rest first old old due_first due due bytes taken out_first out_old out_old rows_first rows_old rows_old front
      (λ at. closed_reads rules value old first.role old.signature due front.fits closed (drop taken bytes) out_old rows_old at)
      (λ at. closed_counts old first.role old.signature due at (drop taken bytes) front.fits closed)
      front.fits (omega arith) (closed_holds rules value old first.role old.signature due front.fits closed (drop taken bytes))

-- the same cause in another answer
pub same_err : {T U E : Type 0} (x y : E) → ◌≡◌ {A = Result T E} (Err x) (Err y) → ◌≡◌ {A = Result U E} (Err x) (Err y)
same_err x y e =
    let same : x ≡ y = cc in
    ap (λ z. Err z) same

-- all the bytes behind so many
pub all_behind : (taken : ℕ) (bytes : List ℕ) → take (length bytes - taken) (drop taken bytes) ≡ drop taken bytes
all_behind taken bytes = take_whole (length bytes - taken) (drop taken bytes) (omega (arith, length-drop taken bytes))

-- ---- the signer

pub signs_on : (gives then_gives : List ℕ → List ℕ → Bool) (role then_role : Role) (own then_own : Hello) (first old new : Option (List ℕ)) → then_gives ≡ gives → then_role ≡ role → then_own ≡ own
    → SignsBy gives role own first old → SignsBy then_gives then_role then_own old new → SignsBy gives role own first new
signs_on gives then_gives role then_role own then_own first old new same same_role same_own before later signature made = by_later (later signature made)
  where
    moved : (other : Hello) → then_gives (own_message then_role then_own other) signature ≡ gives (own_message role own other) signature
    moved other = ap (λ g. g (own_message then_role then_own other) signature) same ∙ ap (λ r. gives (own_message r then_own other) signature) same_role ∙ ap (λ o. gives (own_message role o other) signature) same_own

    by_later : (old ≡ Some signature) ⊎ ((other : Hello) × (then_gives (own_message then_role then_own other) signature ≡ true)) → (first ≡ Some signature) ⊎ ((other : Hello) × (gives (own_message role own other) signature ≡ true))
    by_later (inl e) = before signature e
    by_later (inr h) = inr (h.0, sym (moved h.0) ∙ h.1)
