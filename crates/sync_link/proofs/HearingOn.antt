-- A piece is read behind the bytes that are held.
use Rattle.std.proofs.Common.{◌≡◌, ℕ, ◌+◌, ◌<◌, ◌^◌, inl, List, [], ◌++◌, length, map, drop, refl, sym, ap, ◌∙◌, subst, arith}
use Rattle.std.proofs.lemmas.List.{length-drop, map-append}
use Rattle.scheme_core.specs.Rules.{Rules}
use Rattle.willow_entry.specs.Row.{RowValue}
use Rattle.cap_codec.specs.Rows.{RawValue, row_of}
use Rattle.sync_hello.specs.HelloForm.{HasSpelling}
use Rattle.session_rules.specs.Reading.{then, move}
use Rattle.session_rules.specs.Reading as reading
use Rattle.session_rules.proofs.Runs.{run_append}
use Rattle.sync_link.specs.Sessions.{session_of}
use Rattle.sync_link.specs.Sound.{AreSound}
use Rattle.sync_link.specs.Standing.{Side, ReadsPiece, party_of}
use Rattle.sync_link.specs.Awaited.{stand_of}
use Rattle.sync_link.specs.Progress.{CountsOn, counted, noting}
use Rattle.sync_link.specs.Held.{IsHeld, progress_with, read_of, sent_of}
use Rattle.sync_link.specs.Talking.{Keeps, SpeaksSome}
use Rattle.sync_link.specs.Taking.{Fits, Holds, IsOpen, waiting_side}
use Rattle.sync_link.specs.TakingAll.{TakesAll}
use Rattle.sync_link.specs.declared.side.awaited.Cause.TheVariants as causes
use Rattle.sync_link.specs.declared.side.awaited.Awaited.{Awaited}
use Rattle.sync_link.specs.declared.side.awaited.Awaited.TheVariants as awaited
use Rattle.sync_link.specs.declared.side.participant.Participant.{Participant}
use Rattle.sync_link.proofs.Agreeing.{agrees_behind}
use Rattle.sync_link.proofs.PieceReads.{closed_stays, piece_read_behind, piece_read_into, idle_silent}
use Rattle.sync_link.proofs.Moves.{broken_silent}
use Rattle.sync_link.proofs.Tally.{same_on}

module _ {R S : Type 0} (rules : Rules) (value : R → RowValue) (old new : Participant R S) (due next : Awaited R) (at then_at : ℕ) (held piece bytes rest : List ℕ) (taken : ℕ) (out_old out_new : List ℕ) (rows_old rows_new : List RowValue) where
  counts_behind : Holds rules value old due held → CountsOn (progress_with rules value old due at []) (progress_with rules value new next then_at rest) (held ++ piece) → CountsOn (progress_with rules value old due at held) (progress_with rules value new next then_at rest) piece
  counts_behind holds counts well signature may =
      let here = session_of (party_of (waiting_side rules value old due at []) signature) (map value old.snapshot) in
      let silent = holds at signature in
      let k = counts well signature may in
      let all = run_append (move here) (stand_of due at []) held piece ∙ ap (λ m. then m (reading.read here m.stand piece)) silent.0 in
      let noted_all = run_append (move (noting here)) (stand_of due at []) held piece ∙ ap (λ m. then m (reading.read (noting here) m.stand piece)) silent.1 in
      record {
        sent = k.sent ∙ ap (λ m. sent_of due + counted m.says) all;
        read = k.read ∙ ap (λ m. read_of due + counted m.rows) noted_all;
        agreed = agrees_behind rules value old due at held piece (progress_with rules value new next then_at rest) signature holds k.agreed;
      }

  module _ (is : IsHeld rules value old due at held) (all : bytes ≡ held ++ piece) (there : then_at ≡ at + taken) (left : rest ≡ drop taken bytes)
      (takes : TakesAll rules value old new due next bytes taken out_old out_new rows_old rows_new) where
    pub piece_read_on : ReadsPiece (waiting_side rules value old due at held) (waiting_side rules value new next then_at rest) piece out_old out_new rows_old rows_new
    piece_read_on =
        piece_read_behind rules value old new due next at then_at held piece rest out_old out_new rows_old rows_new is.holds
        (subst (λ l. ReadsPiece (waiting_side rules value old due at []) (waiting_side rules value new next then_at rest) l out_old out_new rows_old rows_new) all
        (subst (λ l. ReadsPiece (waiting_side rules value old due at []) (waiting_side rules value new next then_at l) bytes out_old out_new rows_old rows_new) (sym left)
        (subst (λ n. ReadsPiece (waiting_side rules value old due at []) (waiting_side rules value new next n (drop taken bytes)) bytes out_old out_new rows_old rows_new) (sym there) (takes.reads_piece at))))

    pub counts_on : CountsOn (progress_with rules value old due at held) (progress_with rules value new next then_at rest) piece
    counts_on =
        counts_behind is.holds
        (subst (λ l. CountsOn (progress_with rules value old due at []) (progress_with rules value new next then_at rest) l) all
        (subst (λ l. CountsOn (progress_with rules value old due at []) (progress_with rules value new next then_at l) bytes) (sym left)
        (subst (λ n. CountsOn (progress_with rules value old due at []) (progress_with rules value new next n (drop taken bytes)) bytes) (sym there) (takes.counts at))))

    pub held_on : Keeps old new → at + length bytes < 2 ^ 64 → IsHeld rules value new next then_at rest
    held_on keeps few =
        subst (λ l. IsHeld rules value new next then_at l) (sym left)
        (subst (λ n. IsHeld rules value new next n (drop taken bytes)) (sym there)
        (record {
          own = subst HasSpelling (sym (ap (λ t. t.hello) keeps)) is.own;
          speaks = subst SpeaksSome (sym (ap (λ t. t.hello) keeps)) is.speaks;
          rows = subst (λ l. AreSound (map value l)) (sym (ap (λ t. t.snapshot) keeps)) is.rows;
          fits = subst (λ role. Fits role new.signature next) (sym (ap (λ t. t.role) keeps)) takes.fits;
          few = omega (arith, is.few, takes.read);
          counted = omega (arith, few, takes.within, length-drop taken bytes);
          holds = takes.holds;
        }))

-- ---- what is handed over

pub piece_read_handed : (a b : Side) (piece said out_old out_new : List ℕ) (came rows_old rows_new : List RawValue)
    → ReadsPiece a b piece [] said [] (map row_of came) → out_new ≡ out_old ++ said → rows_new ≡ rows_old ++ came → ReadsPiece a b piece out_old out_new (map row_of rows_old) (map row_of rows_new)
piece_read_handed a b piece said out_old out_new came rows_old rows_new f wrote got =
    piece_read_into a b piece said out_old out_new (map row_of came) (map row_of rows_old) (map row_of rows_new) f wrote (ap (map row_of) got ∙ map-append row_of rows_old came)

-- ---- behind an end

module _ {R S : Type 0} (rules : Rules) (value : R → RowValue) (participant : Participant R S) (due : Awaited R) (at : ℕ) (held piece out : List ℕ) (rows : List RowValue) (is : IsHeld rules value participant due at held) (closed : IsOpen due → ⊥) where
  pub closed_reads_on : ReadsPiece (waiting_side rules value participant due at held) (waiting_side rules value participant due at held) piece out out rows rows
  closed_reads_on = closed_stays rules value participant participant.role participant.signature due is.fits closed at held piece out rows

  pub closed_counts_on : CountsOn (progress_with rules value participant due at held) (progress_with rules value participant due at held) piece
  closed_counts_on = λ well signature may.
      let silent = idle_silent rules value participant participant.role participant.signature due is.fits closed at held piece signature in
      record { sent = same_on (sent_of due) _ (ap (λ m. counted m.says) silent.0); read = same_on (read_of due) _ (ap (λ m. counted m.rows) silent.1); agreed = λ talks. inl (talks, refl) }

-- what reads no more
pub held_shut : {R S : Type 0} (rules : Rules) (value : R → RowValue) (old new : Participant R S) (due : Awaited R) (at then_at : ℕ) (held : List ℕ) → IsHeld rules value old due at held → Keeps old new → then_at < 2 ^ 64 → IsHeld rules value new (awaited.Nothing causes.Bad) then_at []
held_shut rules value old new due at then_at held is keeps few = record {
  own = subst HasSpelling (sym (ap (λ t. t.hello) keeps)) is.own;
  speaks = subst SpeaksSome (sym (ap (λ t. t.hello) keeps)) is.speaks;
  rows = subst (λ l. AreSound (map value l)) (sym (ap (λ t. t.snapshot) keeps)) is.rows;
  fits = tt;
  few = omega arith;
  counted = omega (arith, few);
  holds = λ now signature. broken_silent (party_of (waiting_side rules value new (awaited.Nothing causes.Bad) now []) signature) (map value new.snapshot) now [];
}
