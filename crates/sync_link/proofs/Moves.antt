-- What a session makes of bytes of which it is known what they are.
use Rattle.std.proofs.Common.{◌≡◌, inl, inr, ℕ, ◌+◌, List, [], ◌∷◌, ◌++◌, take, flat_map, append-nil, Option, Some, None, refl, sym, ap, ap₂, ◌∙◌, subst}
use Rattle.std.proofs.lemmas.List.{append_cancel_left}
use Rattle.std.proofs.lemmas.List.Concat.{flat_map-append}
use Rattle.scheme_core.specs.Rules.{Rules}
use Rattle.willow_entry.specs.Row.{RowValue}
use Rattle.session_rules.specs.Machine.{Seen, Machine}
use Rattle.session_rules.specs.Messages.{ArePart}
use Rattle.session_rules.specs.Reading.{Stand, Waits, Broken, Move, stay, stepped, move, read}
use Rattle.session_rules.specs.Session.{seen_as}
use Rattle.session_rules.proofs.Growing.{read_part}
use Rattle.session_rules.proofs.Runs.{run_append, run_idle}
use Rattle.sync_link.specs.Sessions.{Party, SessionStage, SessionMessage, SessionCause, session_of}
use Rattle.sync_link.specs.Standing.{Side, MayBe, Reads, ReadsPiece, party_of}
use Rattle.row_intake.specs.Found.{IsFound, GoWrong}
use Rattle.row_intake.proofs.Moves.{read_found, read_wrong}
use Rattle.sync_link.specs.Progress.{noting}
use Rattle.sync_link.specs.Talking.{Keeps, Once, Writes, side_with}
use Rattle.sync_link.specs.Taking.{IsSilent}
use Rattle.sync_link.specs.declared.side.participant.Participant.{Participant}

-- ---- messages of a kind

pub part_as : {A M : Type 0} (f : A → M) (sees : List ℕ → Seen A) (held bytes : List ℕ) → ArePart sees held bytes → ArePart (λ b. seen_as f (sees b)) held bytes
part_as f sees held [] h = tt
part_as f sees held (byte ∷ bytes) h = (ap (seen_as f) h.0, part_as f sees (held ++ byte ∷ []) bytes h.1)

wrong_as : {A M : Type 0} (f : A → M) (sees : List ℕ → Seen A) (held bytes : List ℕ) → GoWrong sees held bytes → GoWrong (λ b. seen_as f (sees b)) held bytes
wrong_as f sees held [] h = h
wrong_as f sees held (byte ∷ bytes) (inl e) = inl (ap (seen_as f) e)
wrong_as f sees held (byte ∷ bytes) (inr h) = inr (ap (seen_as f) h.0, wrong_as f sees (held ++ byte ∷ []) bytes h.1)

pub found_as : {A M : Type 0} (f : A → M) (sees : List ℕ → Seen A) (bytes : List ℕ) (x : A) (n : ℕ) → IsFound sees bytes x n → IsFound (λ b. seen_as f (sees b)) bytes (f x) n
found_as f sees bytes x n found = record {
  within = found.within;
  reads = record {
    some_bytes = found.reads.some_bytes;
    whole = ap (seen_as f) found.reads.whole;
    part = λ held due e some more. ap (seen_as f) (found.reads.part held due e some more);
  };
}

-- ---- moves

module _ (p : Party) (rows : List RowValue) where
  abbrev here : Machine SessionStage SessionMessage SessionMessage RowValue SessionCause
  here = session_of p rows

  pub by_move : (q : Stand SessionStage SessionCause) (bytes : List ℕ) (m : Move SessionStage SessionMessage RowValue SessionCause) (to : Stand SessionStage SessionCause) (written : List ℕ) (taken : List RowValue)
      → read here q bytes ≡ m → m.stand ≡ to → flat_map here.spelling m.says ≡ written → m.rows ≡ taken → Reads p rows q bytes to written taken
  by_move q bytes m to written taken e stands writes takes = record {
    stands = ap (λ k. k.stand) e ∙ stands;
    writes = ap (λ k. flat_map here.spelling k.says) e ∙ writes;
    takes = ap (λ k. k.rows) e ∙ takes;
  }

  reads_part : (s : SessionStage) (at : ℕ) (bytes : List ℕ) → ArePart (here.sees s) [] bytes → Reads p rows (Waits s at []) bytes (Waits s at bytes) [] []
  reads_part s at bytes h = by_move (Waits s at []) bytes (stay (Waits s at bytes)) (Waits s at bytes) [] [] (read_part here s at [] bytes h) refl refl refl

  -- where nothing is said
  pub silent_reads : (q to : Stand SessionStage SessionCause) (bytes : List ℕ) → IsSilent p rows q bytes to → Reads p rows q bytes to [] []
  silent_reads q to bytes h = by_move q bytes (stay to) to [] [] h.0 refl refl refl

  -- nothing that is read behind an end counts
  pub reads_over : (q : Stand SessionStage SessionCause) (bytes : List ℕ) → ((byte : ℕ) → move here q byte ≡ stay q) → Reads p rows q bytes q [] []
  reads_over q bytes idle = by_move q bytes (stay q) q [] [] (run_idle (move here) q idle bytes) refl refl refl

  pub broken_silent : (at : ℕ) (bytes : List ℕ) → IsSilent p rows (Broken at) bytes (Broken at)
  broken_silent at bytes = (run_idle (move here) (Broken at) (λ b. refl) bytes, run_idle (move (noting here)) (Broken at) (λ b. refl) bytes)

  reads_wrong : (s : SessionStage) (at : ℕ) (bytes : List ℕ) → GoWrong (here.sees s) [] bytes → Reads p rows (Waits s at []) bytes (Broken at) [] []
  reads_wrong s at bytes h = by_move (Waits s at []) bytes (stay (Broken at)) (Broken at) [] [] (read_wrong here s at [] bytes h) refl refl refl

  -- bytes behind bytes
  pub reads_append : (q : Stand SessionStage SessionCause) (bytes : List ℕ) (next : Stand SessionStage SessionCause) (written : List ℕ) (taken : List RowValue) (more : List ℕ) (last : Stand SessionStage SessionCause) (then_written : List ℕ) (then_taken : List RowValue)
      → Reads p rows q bytes next written taken → Reads p rows next more last then_written then_taken → Reads p rows q (bytes ++ more) last (written ++ then_written) (taken ++ then_taken)
  reads_append q bytes next written taken more last then_written then_taken first later =
      let both = run_append (move here) q bytes more in
      let at_next = ap (λ k. read here k more) first.stands in
      record {
        stands = ap (λ m. m.stand) both ∙ ap (λ m. m.stand) at_next ∙ later.stands;
        writes =
            ap (λ m. flat_map here.spelling m.says) both
            ∙ flat_map-append here.spelling (read here q bytes).says (read here (read here q bytes).stand more).says
            ∙ ap₂ (λ x y. x ++ y) first.writes (ap (λ m. flat_map here.spelling m.says) at_next ∙ later.writes);
        takes = ap (λ m. m.rows) both ∙ ap₂ (λ x y. x ++ y) first.takes (ap (λ m. m.rows) at_next ∙ later.takes);
      }

  -- ---- by the kind of message that is due

  module _ {A : Type 0} (s : SessionStage) (f : A → SessionMessage) (sees : List ℕ → Seen A) (is : here.sees s ≡ λ bytes. seen_as f (sees bytes)) where
    pub part_reads : (at : ℕ) (bytes : List ℕ) → ArePart sees [] bytes → Reads p rows (Waits s at []) bytes (Waits s at bytes) [] []
    part_reads at bytes h = reads_part s at bytes (subst (λ look. ArePart look [] bytes) (sym is) (part_as f sees [] bytes h))

    pub part_silent : (at : ℕ) (bytes : List ℕ) → ArePart sees [] bytes → IsSilent p rows (Waits s at []) bytes (Waits s at bytes)
    part_silent at bytes h =
        let part = subst (λ look. ArePart look [] bytes) (sym is) (part_as f sees [] bytes h) in
        (read_part here s at [] bytes part, read_part (noting here) s at [] bytes part)

    pub wrong_reads : (at : ℕ) (bytes : List ℕ) → GoWrong sees [] bytes → Reads p rows (Waits s at []) bytes (Broken at) [] []
    wrong_reads at bytes h = reads_wrong s at bytes (subst (λ look. GoWrong look [] bytes) (sym is) (wrong_as f sees [] bytes h))

    pub found_reads : (at : ℕ) (bytes : List ℕ) (x : A) (n : ℕ) (to : Stand SessionStage SessionCause) (written : List ℕ) (taken : List RowValue) → IsFound sees bytes x n
        → (stepped (at + n) (here.step s (f x))).stand ≡ to → flat_map here.spelling (stepped (at + n) (here.step s (f x))).says ≡ written → (stepped (at + n) (here.step s (f x))).rows ≡ taken
        → Reads p rows (Waits s at []) (take n bytes) to written taken
    found_reads at bytes x n to written taken found stands writes takes =
        by_move (Waits s at []) (take n bytes) (stepped (at + n) (here.step s (f x))) to written taken
        (read_found here s at bytes (f x) n (subst (λ look. IsFound look bytes (f x) n) (sym is) (found_as f sees bytes x n found))) stands writes takes

-- ---- a side in memory

module _ {R S : Type 0} (rules : Rules) (value : R → RowValue) (old new : Participant R S) (from to : Stand SessionStage SessionCause) (bytes out_old out_new : List ℕ) (rows_old rows_new : List RowValue) where
  abbrev before : Side
  before = side_with rules value old from

  abbrev behind : Side
  behind = side_with rules value new to

  pub reads_piece : Keeps old new → Once old.signature new.signature → (written : List ℕ) (taken : List RowValue) → out_new ≡ out_old ++ written → rows_new ≡ rows_old ++ taken
      → ((signature : List ℕ) → MayBe new.signature signature → Reads (party_of before signature) before.rows from bytes to written taken)
      → ReadsPiece before behind bytes out_old out_new rows_old rows_new
  reads_piece keeps once written taken wrote got reads = record {
    written = written;
    taken = taken;
    wrote = wrote;
    got = got;
    kept = ap (λ t. side_with rules value t to) keeps;
    signed_once = once;
    reads = reads;
  }

  -- where nothing is said
  pub piece_read_quiet : new ≡ old → out_new ≡ out_old → (taken : List RowValue) → rows_new ≡ rows_old ++ taken
      → ((signature : List ℕ) → Reads (party_of before signature) before.rows from bytes to [] taken) → ReadsPiece before behind bytes out_old out_new rows_old rows_new
  piece_read_quiet same silent taken got reads =
      let made = ap (λ t. t.signature) same in
      reads_piece (same ∙ ap (λ s. record old { signature = s }) (sym made)) (λ s h. subst (λ o. MayBe o s) made h) [] taken (silent ∙ sym (append-nil out_old)) got (λ s h. reads s)

-- the signature that was made, or any
abbrev pub or_none : Option (List ℕ) → List ℕ
or_none None = []
or_none (Some made) = made

pub may_be : (made : Option (List ℕ)) → MayBe made (or_none made)
may_be None = tt
may_be (Some made) = refl

-- what is written does not hang on the signature that may be
pub same_written : (made : Option (List ℕ)) (spoken : List ℕ → List ℕ) (out_old out_new : List ℕ) → Writes made spoken out_old out_new → (signature : List ℕ) → MayBe made signature → spoken signature ≡ spoken (or_none made)
same_written made spoken out_old out_new writes signature h =
    append_cancel_left out_old (spoken signature) (spoken (or_none made)) (sym (writes signature h) ∙ writes (or_none made) (may_be made))
