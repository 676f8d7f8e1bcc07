-- Pieces of bytes behind pieces, as a side in memory takes them.
use Rattle.std.proofs.Common.{◌≡◌, ◌⊎◌, inl, inr, ℕ, ◌+◌, Bool, true, cond, List, [], ◌++◌, map, take, drop, flat_map, append_assoc, append-nil, Option, Some, None, refl, sym, ap, ◌∙◌, subst, arith}
use Rattle.std.proofs.lemmas.List.{take-append-drop}
use Rattle.std.proofs.lemmas.List.Concat.{flat_map-append}
use Rattle.std.proofs.Math.Seq.{take-add}
use Rattle.scheme_core.specs.Rules.{Rules}
use Rattle.willow_entry.specs.Row.{RowValue}
use Rattle.sync_msg.specs.declared.role.Role.{Role}
use Rattle.sync_hello.specs.HelloForm.{HasSpelling}
use Rattle.sync_hello.specs.declared.hello.Hello.{Hello}
use Rattle.sync_core.specs.Place.{Doing, Saying, Replying, Beginning, Hearing, HearingRows, Parting, Finished, Refused, stage_of}
use Rattle.sync_core.specs.declared.stage.Stage.TheVariants as stage
use Rattle.session_rules.specs.Machine.{Machine}
use Rattle.session_rules.specs.Reading.{Stand, Waits, Over, Broken, stay, move, run, read}
use Rattle.session_rules.specs.Reading.{Refused as Ended}
use Rattle.session_rules.specs.Session.{Talking, InGreeting, InTalk}
use Rattle.session_rules.proofs.Runs.{run_append, run_idle}
use Rattle.sync_link.specs.Places.{has_finished}
use Rattle.sync_link.specs.Sessions.{Party, SessionStage, SessionMessage, SessionCause, session_of}
use Rattle.sync_link.specs.Sound.{AreSound, IsUnrefused}
use Rattle.sync_link.specs.Standing.{Side, Reads, ReadsPiece, party_of, within}
use Rattle.sync_link.specs.Awaited.{stand_of}
use Rattle.sync_link.specs.Progress.{noting}
use Rattle.sync_link.specs.Talking.{IsSigned, SignsBy, own_message, side_with, SpeaksSome}
use Rattle.sync_link.specs.Held.{IsHeld}
use Rattle.sync_link.specs.Taking.{Fits, Holds, IsExchange, IsOpen, IsSilent, Steps, waiting_side}
use Rattle.sync_link.specs.declared.side.awaited.Cause.TheVariants as causes
use Rattle.sync_link.specs.declared.side.awaited.Awaited.{Awaited}
use Rattle.sync_link.specs.declared.side.awaited.Awaited.TheVariants as awaited
use Rattle.sync_link.specs.declared.side.awaited.Exchange.{Exchange}
use Rattle.sync_link.specs.declared.side.participant.Participant.{Participant}
use Rattle.sync_link.proofs.Moves.{reads_append, silent_reads}

-- ---- one piece behind another

pub piece_read_append : (a b c : Side) (bytes more out_a out_b out_c : List ℕ) (rows_a rows_b rows_c : List RowValue)
    → ReadsPiece a b bytes out_a out_b rows_a rows_b → ReadsPiece b c more out_b out_c rows_b rows_c → ReadsPiece a c (bytes ++ more) out_a out_c rows_a rows_c
piece_read_append a b c bytes more out_a out_b out_c rows_a rows_b rows_c f g = record {
  written = f.written ++ g.written;
  taken = f.taken ++ g.taken;
  wrote = g.wrote ∙ ap (λ l. l ++ g.written) f.wrote ∙ append_assoc out_a f.written g.written;
  got = g.got ∙ ap (λ l. l ++ g.taken) f.got ∙ append_assoc rows_a f.taken g.taken;
  kept = g.kept ∙ ap {A = Side} (λ s. record s { signature = c.signature; stand = c.stand }) f.kept;
  signed_once = λ s h. f.signed_once s (g.signed_once s h);
  reads = λ s h.
      reads_append (party_of a s) a.rows a.stand bytes b.stand f.written f.taken more c.stand g.written g.taken (f.reads s (g.signed_once s h))
      (subst (λ x. Reads (party_of x s) x.rows b.stand more c.stand g.written g.taken) f.kept (g.reads s h));
}

-- what was written and came is put behind other bytes and rows
pub piece_read_into : (a b : Side) (piece said out_old out_new : List ℕ) (came rows_old rows_new : List RowValue)
    → ReadsPiece a b piece [] said [] came → out_new ≡ out_old ++ said → rows_new ≡ rows_old ++ came → ReadsPiece a b piece out_old out_new rows_old rows_new
piece_read_into a b piece said out_old out_new came rows_old rows_new f wrote got = record {
  written = f.written;
  taken = f.taken;
  wrote = wrote ∙ ap (λ l. out_old ++ l) f.wrote;
  got = got ∙ ap (λ l. rows_old ++ l) f.got;
  kept = f.kept;
  signed_once = f.signed_once;
  reads = f.reads;
}

-- bytes that change how a side stands, and for which nothing is said, are read behind it
module _ (p : Party) (rows : List RowValue) (q at_held last : Stand SessionStage SessionCause) (held piece written : List ℕ) (taken : List RowValue) where
  abbrev here : Machine SessionStage SessionMessage SessionMessage RowValue SessionCause
  here = session_of p rows

  pub reads_behind : Reads p rows q held at_held [] [] → Reads p rows q (held ++ piece) last written taken → Reads p rows at_held piece last written taken
  reads_behind h r =
      let both = run_append (move here) q held piece in
      let there = ap (λ k. read here k piece) h.stands in
      let rest = read here (read here q held).stand piece in
      record {
        stands = sym (ap (λ m. m.stand) there) ∙ sym (ap (λ m. m.stand) both) ∙ r.stands;
        writes =
            sym (ap (λ m. flat_map here.spelling m.says) there)
            ∙ sym (ap (λ w. w ++ flat_map here.spelling rest.says) h.writes)
            ∙ sym (flat_map-append here.spelling (read here q held).says rest.says)
            ∙ sym (ap (λ m. flat_map here.spelling m.says) both)
            ∙ r.writes;
        takes = sym (ap (λ m. m.rows) there) ∙ sym (ap (λ w. w ++ rest.rows) h.takes) ∙ sym (ap (λ m. m.rows) both) ∙ r.takes;
      }

-- ---- how a side stands to which nothing is due

finished_by : (doing : Doing) → IsUnrefused doing → (stage_of doing ≡ stage.Writing → ⊥) → (stage_of doing ≡ stage.Reading → ⊥) → has_finished doing ≡ true
finished_by (Saying items asks) on silent closed = absurd (silent refl)
finished_by Replying on silent closed = absurd (silent refl)
finished_by Beginning on silent closed = absurd (closed refl)
finished_by (Hearing asks opens) on silent closed = absurd (closed refl)
finished_by (HearingRows asks left before opens) on silent closed = absurd (closed refl)
finished_by Parting on silent closed = absurd (closed refl)
finished_by Finished on silent closed = refl
finished_by (Refused cause) on silent closed = absurd on

pub over_by : {R : Type 0} (exchange : Exchange R) → IsExchange exchange → (IsOpen (awaited.Items exchange) → ⊥) → (at : ℕ) (held : List ℕ) → stand_of (awaited.Items exchange) at held ≡ Over
over_by exchange is closed at held = ap (λ b. cond b Over (Waits (Talking (within exchange.core)) at held)) (finished_by exchange.core.doing is.sound.goes_on is.silent closed)

ended : (p : Party) (rows : List RowValue) (q : Stand SessionStage SessionCause) (bytes : List ℕ) → ((b : ℕ) → move (session_of p rows) q b ≡ stay q) → ((b : ℕ) → move (noting (session_of p rows)) q b ≡ stay q) → IsSilent p rows q bytes q
ended p rows q bytes one other = (run_idle (move (session_of p rows)) q one bytes, run_idle (move (noting (session_of p rows))) q other bytes)

-- it does not hang on the bytes held, nor do further bytes change it
idle : {R : Type 0} (role : Role) (made : Option (List ℕ)) (due : Awaited R) → Fits role made due → (IsOpen due → ⊥) → (at : ℕ) (held : List ℕ)
    → (stand_of due at held ≡ stand_of due at []) × ((p : Party) (rows : List RowValue) (bytes : List ℕ) → IsSilent p rows (stand_of due at held) bytes (stand_of due at held))
idle role made awaited.Hello fits closed at held = absurd (closed tt)
idle role made (awaited.Proof other) fits closed at held = absurd (closed tt)
idle role made (awaited.Items exchange) fits closed at held =
    let over = over_by exchange fits closed at held in
    let none = over_by exchange fits closed at [] in
    (over ∙ sym none, λ p rows bytes. subst (λ q. IsSilent p rows q bytes q) (sym over) (ended p rows Over bytes (λ b. refl) (λ b. refl)))
idle role made (awaited.Nothing causes.Bad) fits closed at held = (refl, λ p rows bytes. ended p rows (Broken at) bytes (λ b. refl) (λ b. refl))
idle role made (awaited.Nothing (causes.Hello cause)) fits closed at held = (refl, λ p rows bytes. ended p rows (Ended (InGreeting cause)) bytes (λ b. refl) (λ b. refl))
idle role made (awaited.Nothing (causes.Core cause)) fits closed at held = (refl, λ p rows bytes. ended p rows (Ended (InTalk cause)) bytes (λ b. refl) (λ b. refl))

module _ {R S : Type 0} (rules : Rules) (value : R → RowValue) where
  abbrev w : Participant R S → Awaited R → ℕ → List ℕ → Side
  w participant due at held = waiting_side rules value participant due at held

  pub piece_read_behind : (old new : Participant R S) (due next : Awaited R) (at then_at : ℕ) (held piece rest out_old out_new : List ℕ) (rows_old rows_new : List RowValue)
      → Holds rules value old due held → ReadsPiece (w old due at []) (w new next then_at rest) (held ++ piece) out_old out_new rows_old rows_new
      → ReadsPiece (w old due at held) (w new next then_at rest) piece out_old out_new rows_old rows_new
  piece_read_behind old new due next at then_at held piece rest out_old out_new rows_old rows_new holds f = record {
    written = f.written;
    taken = f.taken;
    wrote = f.wrote;
    got = f.got;
    kept = f.kept;
    signed_once = f.signed_once;
    reads = λ s may.
        reads_behind (party_of (w old due at []) s) (map value old.snapshot) (stand_of due at []) (stand_of due at held) (stand_of next then_at rest) held piece f.written f.taken (silent_reads (party_of (w old due at []) s) (map value old.snapshot) (stand_of due at []) (stand_of due at held) held (holds at s)) (f.reads s may);
  }

  -- ---- message by message

  module _ (first old new : Participant R S) (due_first due next : Awaited R) (bytes : List ℕ) (taken : ℕ) (out_first out_old out_new : List ℕ) (rows_first rows_old rows_new : List RowValue) where
    pub taken_on : (more : ℕ) → ((at : ℕ) → ReadsPiece (w first due_first at []) (w old due (at + taken) []) (take taken bytes) out_first out_old rows_first rows_old)
        → ((at : ℕ) → Steps (w old due) (w new next) at (drop taken bytes) (Some more) out_old out_new rows_old rows_new)
        → (at : ℕ) → ReadsPiece (w first due_first at []) (w new next (at + (taken + more)) []) (take (taken + more) bytes) out_first out_new rows_first rows_new
    taken_on more f g at =
        let both = piece_read_append (w first due_first at []) (w old due (at + taken) []) (w new next (at + taken + more) []) (take taken bytes) (take more (drop taken bytes)) out_first out_old out_new rows_first rows_old rows_new (f at) (g (at + taken)).1.1 in
        let there : at + taken + more ≡ at + (taken + more) = omega arith in
        subst (λ n. ReadsPiece (w first due_first at []) (w new next n []) (take (taken + more) bytes) out_first out_new rows_first rows_new) there
        (subst (λ l. ReadsPiece (w first due_first at []) (w new next (at + taken + more) []) l out_first out_new rows_first rows_new) (sym (take-add taken more bytes)) both)

    pub taken_last : ((at : ℕ) → ReadsPiece (w first due_first at []) (w old due (at + taken) []) (take taken bytes) out_first out_old rows_first rows_old)
        → ((at : ℕ) → ReadsPiece (w old due at []) (w new next at (drop taken bytes)) (drop taken bytes) out_old out_new rows_old rows_new)
        → (at : ℕ) → ReadsPiece (w first due_first at []) (w new next (at + taken) (drop taken bytes)) bytes out_first out_new rows_first rows_new
    taken_last f g at =
        subst (λ l. ReadsPiece (w first due_first at []) (w new next (at + taken) (drop taken bytes)) l out_first out_new rows_first rows_new) (take-append-drop taken bytes)
        (piece_read_append (w first due_first at []) (w old due (at + taken) []) (w new next (at + taken) (drop taken bytes)) (take taken bytes) (drop taken bytes) out_first out_old out_new rows_first rows_old rows_new (f at) (g (at + taken)))

  -- ---- where nothing is due

  module _ (participant : Participant R S) (role : Role) (made : Option (List ℕ)) (due : Awaited R) (fits : Fits role made due) (closed : IsOpen due → ⊥) where
    abbrev party : List ℕ → Party
    party signature = record { rules = rules; namespace = participant.namespace; role = participant.role; hello = participant.hello; interest = participant.interest; signature = signature }

    pub idle_silent : (at : ℕ) (held bytes : List ℕ) (signature : List ℕ) → IsSilent (party signature) (map value participant.snapshot) (stand_of due at held) bytes (stand_of due at held)
    idle_silent at held bytes signature = (idle role made due fits closed at held).1 (party signature) (map value participant.snapshot) bytes

    same_stand : (at : ℕ) (held : List ℕ) → stand_of due at held ≡ stand_of due at []
    same_stand at held = (idle role made due fits closed at held).0

    pub closed_holds : (bytes : List ℕ) → Holds rules value participant due bytes
    closed_holds bytes at signature =
        subst (λ q. IsSilent (party signature) (map value participant.snapshot) (stand_of due at []) bytes q) (sym (same_stand at bytes)) (idle_silent at [] bytes signature)

    quiet : (from to : Stand SessionStage SessionCause) (bytes out : List ℕ) (rows : List RowValue) → ((signature : List ℕ) → IsSilent (party signature) (map value participant.snapshot) from bytes to)
        → ReadsPiece (side_with rules value participant from) (side_with rules value participant to) bytes out out rows rows
    quiet from to bytes out rows reads = record {
      written = [];
      taken = [];
      wrote = sym (append-nil out);
      got = sym (append-nil rows);
      kept = refl;
      signed_once = λ s h. h;
      reads = λ s h. silent_reads (party s) (map value participant.snapshot) from to bytes (reads s);
    }

    -- the rest of the bytes is not read
    pub closed_reads : (bytes out : List ℕ) (rows : List RowValue) (at : ℕ) → ReadsPiece (w participant due at []) (w participant due at bytes) bytes out out rows rows
    closed_reads bytes out rows at = quiet (stand_of due at []) (stand_of due at bytes) bytes out rows (closed_holds bytes at)

    pub closed_stays : (at : ℕ) (held bytes out : List ℕ) (rows : List RowValue) → ReadsPiece (w participant due at held) (w participant due at held) bytes out out rows rows
    closed_stays at held bytes out rows = quiet (stand_of due at held) (stand_of due at held) bytes out rows (idle_silent at held bytes)

-- ---- the beginning

pub begun_held : {R S : Type 0} (rules : Rules) (value : R → RowValue) (participant : Participant R S) → HasSpelling participant.hello → SpeaksSome participant.hello → AreSound (map value participant.snapshot) → participant.signature ≡ None → IsHeld rules value participant awaited.Hello 0 []
unfolding run
begun_held rules value participant own speaks rows unsigned = record {
  own = own;
  speaks = speaks;
  rows = rows;
  fits = unsigned;
  few = omega arith;
  counted = omega arith;
  holds = λ at signature. (refl, refl);
}

-- ---- signatures

pub signed_by : {R S : Type 0} (gives : List ℕ → List ℕ → Bool) (old new : Participant R S) (other : Hello) → IsSigned gives old new other → SignsBy gives old.role old.hello old.signature new.signature
signed_by gives old new other h signature made = by_either (h signature made)
  where
    by_either : (old.signature ≡ Some signature) ⊎ (gives (own_message old.role old.hello other) signature ≡ true) → (old.signature ≡ Some signature) ⊎ ((hello : Hello) × (gives (own_message old.role old.hello hello) signature ≡ true))
    by_either (inl e) = inl e
    by_either (inr e) = inr (other, e)
