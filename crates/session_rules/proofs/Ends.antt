-- Each end of a machine is that of one message.
use Rattle.std.proofs.Common.{◌≡◌, ℕ, ◌+◌, List, [], ◌∷◌, ◌++◌, length, append_assoc, append-nil, length-append, sym, refl, ap, ◌∙◌, subst, arith}
use Rattle.session_rules.specs.Machine.{Seen, Whole, Part, Wrong, Step, Goes, Ends, Refuses, Machine}
use Rattle.session_rules.specs.Reading.{Stand, Waits, Over, Broken, Refused, stepped, judged, move, run, read, start, Ending, Done, More, BadMessage, Refusal, ending_of, ending}
use Rattle.session_rules.specs.Endings.{StandsBefore, IsBadAt, Steps}
use Rattle.session_rules.proofs.Runs.{run_append}

module _ {S M O R E : Type 0} (a : Machine S M O R E) where
  -- how the machine came to stand so
  abbrev Tells : List ℕ → Stand S E → Type 0
  Tells bytes (Waits s at held) = StandsBefore a bytes s at held
  Tells bytes Over = (says : List O) × (rows : List R) × Steps a bytes (Ends says rows)
  Tells bytes (Broken at) = IsBadAt a bytes at
  Tells bytes (Refused e) = Steps a bytes (Refuses e)

  -- with more behind it
  abbrev one_more : List ℕ → ℕ → List ℕ
  one_more bytes byte = bytes ++ byte ∷ []

  later : (bytes : List ℕ) (s : S) (at : ℕ) (last : List ℕ) (byte : ℕ) → StandsBefore a bytes s at last → StandsBefore a (one_more bytes byte) s at (last ++ byte ∷ [])
  later bytes s at last byte h = record {
    before = h.before;
    joined = ap (λ all. one_more all byte) h.joined ∙ append_assoc h.before last (byte ∷ []);
    waits = h.waits;
    offset = h.offset;
  }

  later_behind : (bytes : List ℕ) (s : S) (at : ℕ) (message behind : List ℕ) (byte : ℕ) → StandsBefore a bytes s at (message ++ behind)
      → StandsBefore a (one_more bytes byte) s at (message ++ one_more behind byte)
  later_behind bytes s at message behind byte h =
      subst (StandsBefore a (one_more bytes byte) s at) (append_assoc message behind (byte ∷ [])) (later bytes s at (message ++ behind) byte h)

  later_steps : (bytes : List ℕ) (byte : ℕ) (step : Step S O R E) → Steps a bytes step → Steps a (one_more bytes byte) step
  later_steps bytes byte step h = record {
    state = h.state;
    at = h.at;
    message = h.message;
    message_bytes = h.message_bytes;
    behind = one_more h.behind byte;
    stands = later_behind bytes h.state h.at h.message_bytes h.behind byte h.stands;
    whole = h.whole;
    comes = h.comes;
  }

  later_bad : (bytes : List ℕ) (at : ℕ) (byte : ℕ) → IsBadAt a bytes at → IsBadAt a (one_more bytes byte) at
  later_bad bytes at byte h = record {
    state = h.state;
    bad = h.bad;
    behind = one_more h.behind byte;
    stands = later_behind bytes h.state at h.bad h.behind byte h.stands;
    wrong = h.wrong;
  }

  alone : (bytes : List ℕ) (s : S) (at : ℕ) (last : List ℕ) → StandsBefore a bytes s at last → StandsBefore a bytes s at (last ++ [])
  alone bytes s at last h = subst (StandsBefore a bytes s at) (sym (append-nil last)) h

  -- a message that is whole
  module _ (bytes : List ℕ) (s : S) (at : ℕ) (now : List ℕ) (stands : StandsBefore a bytes s at now) where
    by_step : (m : M) → a.sees s now ≡ Whole m → (step : Step S O R E) → a.step s m ≡ step
        → (read a (start a) bytes).stand ≡ (stepped (at + length now) step).stand → Tells bytes (stepped (at + length now) step).stand
    by_step m whole (Goes s' says rows) is reads = record {
      before = bytes;
      joined = sym (append-nil bytes);
      waits = reads;
      offset = ap length stands.joined ∙ omega (arith, length-append stands.before now, stands.offset);
    }
    by_step m whole (Ends says rows) is reads = (
      says,
      rows,
      record {
        state = s;
        at = at;
        message = m;
        message_bytes = now;
        behind = [];
        stands = alone bytes s at now stands;
        whole = whole;
        comes = is;
      },
    )
    by_step m whole (Refuses e) is reads = record {
      state = s;
      at = at;
      message = m;
      message_bytes = now;
      behind = [];
      stands = alone bytes s at now stands;
      whole = whole;
      comes = is;
    }

    by_seen : (seen : Seen M) → a.sees s now ≡ seen → (read a (start a) bytes).stand ≡ (judged a s at now seen).stand → Tells bytes (judged a s at now seen).stand
    by_seen (Whole m) is reads = by_step m is (a.step s m) refl reads
    by_seen Part is reads = stands
    by_seen Wrong is reads = record { state = s; bad = now; behind = []; stands = alone bytes s at now stands; wrong = is }

  by_byte : (bytes : List ℕ) (byte : ℕ) (q : Stand S E) → Tells bytes q → (read a (start a) (one_more bytes byte)).stand ≡ (move a q byte).stand → Tells (one_more bytes byte) (move a q byte).stand
  by_byte bytes byte (Waits s at held) h reads =
      let now = held ++ byte ∷ [] in
      by_seen (one_more bytes byte) s at now (later bytes s at held byte h) (a.sees s now) refl reads
  by_byte bytes byte Over h reads = (h.0, h.1, later_steps bytes byte (Ends h.0 h.1) h.2)
  by_byte bytes byte (Broken at) h reads = later_bad bytes at byte h
  by_byte bytes byte (Refused e) h reads = later_steps bytes byte (Refuses e) h

  -- more bytes, behind those that brought the machine to where it stands
  so_far : (bytes more : List ℕ) (q : Stand S E) → (read a (start a) bytes).stand ≡ q → Tells bytes q → Tells (bytes ++ more) (read a q more).stand
  unfolding run
  so_far bytes [] q is h = subst (λ all. Tells all q) (sym (append-nil bytes)) h
  so_far bytes (byte ∷ more) q is h =
      let next : (read a (start a) (one_more bytes byte)).stand ≡ (move a q byte).stand
      = ap (λ m. m.stand) (run_append (move a) (start a) bytes (byte ∷ [])) ∙ ap (λ p. (move a p byte).stand) is in
      subst (λ all. Tells all (read a (move a q byte).stand more).stand) (append_assoc bytes (byte ∷ []) more)
      (so_far (one_more bytes byte) more (move a q byte).stand next (by_byte bytes byte q h next))

  stands : (bytes : List ℕ) → Tells bytes (read a (start a) bytes).stand
  unfolding run
  stands bytes = so_far [] bytes (start a) refl (record { before = []; joined = refl; waits = refl; offset = refl })

  -- ---- by the ending

  waits_for : (bytes : List ℕ) (q : Stand S E) → Tells bytes q → ending_of q ≡ More → (s : S) × (at : ℕ) × (held : List ℕ) × StandsBefore a bytes s at held
  waits_for bytes (Waits s at held) h e = (s, at, held, h)
  waits_for bytes Over h e = cc
  waits_for bytes (Broken at) h e = cc
  waits_for bytes (Refused cause) h e = cc

  is_over : (bytes : List ℕ) (q : Stand S E) → Tells bytes q → ending_of q ≡ Done → (says : List O) × (rows : List R) × Steps a bytes (Ends says rows)
  is_over bytes (Waits s at held) h e = cc
  is_over bytes Over h e = h
  is_over bytes (Broken at) h e = cc
  is_over bytes (Refused cause) h e = cc

  same_offset : (n at : ℕ) → ◌≡◌ {A = Ending E} (BadMessage n) (BadMessage at) → n ≡ at
  same_offset n at e = cc

  same_cause : (c d : E) → ◌≡◌ {A = Ending E} (Refusal c) (Refusal d) → c ≡ d
  same_cause c d e = cc

  is_bad : (bytes : List ℕ) (q : Stand S E) (at : ℕ) → Tells bytes q → ending_of q ≡ BadMessage at → IsBadAt a bytes at
  is_bad bytes (Waits s n held) at h e = cc
  is_bad bytes Over at h e = cc
  is_bad bytes (Broken n) at h e = subst (IsBadAt a bytes) (same_offset n at e) h
  is_bad bytes (Refused cause) at h e = cc

  is_refused : (bytes : List ℕ) (q : Stand S E) (cause : E) → Tells bytes q → ending_of q ≡ Refusal cause → Steps a bytes (Refuses cause)
  is_refused bytes (Waits s at held) cause h e = cc
  is_refused bytes Over cause h e = cc
  is_refused bytes (Broken at) cause h e = cc
  is_refused bytes (Refused other) cause h e = subst (λ c. Steps a bytes (Refuses c)) (same_cause other cause e) h

  pub more_is : (bytes : List ℕ) → ending a bytes ≡ More → (s : S) × (at : ℕ) × (held : List ℕ) × StandsBefore a bytes s at held
  more_is bytes e = waits_for bytes (read a (start a) bytes).stand (stands bytes) e

  pub done_is : (bytes : List ℕ) → ending a bytes ≡ Done → (says : List O) × (rows : List R) × Steps a bytes (Ends says rows)
  done_is bytes e = is_over bytes (read a (start a) bytes).stand (stands bytes) e

  pub bad_is : (bytes : List ℕ) (at : ℕ) → ending a bytes ≡ BadMessage at → IsBadAt a bytes at
  bad_is bytes at e = is_bad bytes (read a (start a) bytes).stand at (stands bytes) e

  pub refusal_is : (bytes : List ℕ) (cause : E) → ending a bytes ≡ Refusal cause → Steps a bytes (Refuses cause)
  refusal_is bytes cause e = is_refused bytes (read a (start a) bytes).stand cause (stands bytes) e
