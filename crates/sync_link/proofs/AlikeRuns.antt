-- Two sessions that read the same bytes, with the same rows in the area that both sides may read.
use Rattle.std.proofs.Common.{◌≡◌, ◌⊎◌, inl, inr, ℕ, ◌≤◌, List, ◌++◌, length, flat_map, map, Ok, Err, refl, sym, ap, ◌∙◌, subst}
use Rattle.std.proofs.lemmas.Bool.{cases_lt}
use Rattle.willow_entry.specs.Row.{RowValue}
use Rattle.cap_codec.specs.Rows.{row_of}
use Rattle.session_end.specs.declared.end.SessionEnd.TheVariants.{LinkRead, LinkWrite, ClosedEarly, BadMessage, Hello, Core, SignFault, LogFull, NoMemory}
use Rattle.sync_hello.specs.HelloForm.{hello_spelling}
use Rattle.session_rules.specs.Reading as reading
use Rattle.session_rules.specs.Reading.{read, start}
use Rattle.session_rules.specs.Session.{InGreeting, InTalk}
use Rattle.session_rules.proofs.Growing.{says_of, rows_of}
use Rattle.session_rules.proofs.Worlds.{same_read}
use Rattle.sync_link.specs.Greetings.{greeting}
use Rattle.sync_link.specs.Places.{offers_of, places}
use Rattle.sync_link.specs.Sessions.{Party, SessionCause, AreSameInCommon, own_part, session_of, out, got, ending}
use Rattle.row_intake.specs.Answers.{AreAllOf, IsAllOf}
use Rattle.sync_link.specs.Run.{Answer, Ends}
use Rattle.sync_link.specs.Ran.{Ran, side, opening_of, BringSame, HasProved, IsUnfailed, IsDone, EndAlike, AreAlike}
use Rattle.sync_link.proofs.Resigned.{got_resigned, ending_resigned, quiet_resigned}

-- what is answered where nothing failed, by how the session ends to so many bytes
abbrev Answers : reading.Ending SessionCause → ℕ → Answer → Type 0
Answers reading.Done n answer = IsDone answer
Answers reading.More n answer = answer ≡ Err (ClosedEarly n)
Answers (reading.BadMessage at) n answer = answer ≡ Err (BadMessage at)
Answers (reading.Refusal (InGreeting cause)) n answer = answer ≡ Err (Hello cause)
Answers (reading.Refusal (InTalk cause)) n answer = answer ≡ Err (Core cause)

answers : (end : reading.Ending SessionCause) (n : ℕ) (answer : Answer) → IsUnfailed answer → Ends end n answer → Answers end n answer
answers end n (Ok report) ok e = subst (λ x. Answers x n (Ok report)) (sym e) tt
answers end n (Err LinkRead) ok e = absurd ok
answers end n (Err LinkWrite) ok e = absurd ok
answers end n (Err (ClosedEarly at)) ok e =
    subst (λ x. Answers x n (Err (ClosedEarly at))) (sym e.0) (subst (λ k. ◌≡◌ {A = Answer} (Err (ClosedEarly at)) (Err (ClosedEarly k))) e.1 refl)
answers end n (Err (BadMessage at)) ok e = subst (λ x. Answers x n (Err (BadMessage at))) (sym e) refl
answers end n (Err (Hello cause)) ok e = subst (λ x. Answers x n (Err (Hello cause))) (sym e) refl
answers end n (Err (Core cause)) ok e = subst (λ x. Answers x n (Err (Core cause))) (sym e) refl
answers end n (Err SignFault) ok e = absurd ok
answers end n (Err (LogFull missed)) ok e = subst (λ x. Answers x n (Err (LogFull missed))) (sym e) tt
answers end n (Err NoMemory) ok e = absurd ok

both : (end : reading.Ending SessionCause) (n : ℕ) (one other : Answer) → Answers end n one → Answers end n other → EndAlike one other
both reading.Done n one other a b = inl (a, b)
both reading.More n one other a b = inr (ClosedEarly n, a, b)
both (reading.BadMessage at) n one other a b = inr (BadMessage at, a, b)
both (reading.Refusal (InGreeting cause)) n one other a b = inr (Hello cause, a, b)
both (reading.Refusal (InTalk cause)) n one other a b = inr (Core cause, a, b)

module _ (p q : List ℕ → Party) (one : Ran p) (other : Ran q) (bring : BringSame (side one) (side other))
    (signed : HasProved one → HasProved other → (side other).signature ≡ (side one).signature) (heard : other.did.bytes ≡ one.did.bytes)
    (same : AreSameInCommon (side one) one.did.bytes (opening_of one) (opening_of other)) where
  abbrev party : Party
  party = side one

  abbrev bytes : List ℕ
  bytes = one.did.bytes

  abbrev rows : List RowValue
  rows = opening_of one

  -- the same with the other's signature
  abbrev twin : Party
  twin = record party { signature = (side other).signature }

  -- whatever is told of the other, is told of that one with the same rows
  as_twin : {A : Type 0} (f : Party → List RowValue → List ℕ → A) → f twin rows bytes ≡ f twin (opening_of other) bytes → f twin rows bytes ≡ f (side other) (opening_of other) other.did.bytes
  as_twin f e = e ∙ ap (f twin (opening_of other)) (sym heard) ∙ ap (λ party. f party (opening_of other) other.did.bytes) (sym bring)

  same_moves : read (session_of twin rows) (start (session_of twin rows)) bytes ≡ read (session_of twin (opening_of other)) (start (session_of twin (opening_of other))) bytes
  same_moves = same_read (greeting party.rules party.namespace) places (own_part twin) (offers_of twin.interest rows) (offers_of twin.interest (opening_of other)) bytes same

  out_alike : out twin rows bytes ≡ out (side other) (opening_of other) other.did.bytes
  out_alike = let a = session_of twin rows in as_twin out (ap (λ m. flat_map a.spelling (a.opening ++ says_of m)) same_moves)

  got_alike : got party rows bytes ≡ got (side other) (opening_of other) other.did.bytes
  got_alike = sym (got_resigned party (side other).signature rows bytes) ∙ as_twin got (ap rows_of same_moves)

  ending_alike : ending party rows bytes ≡ ending (side other) (opening_of other) other.did.bytes
  ending_alike = sym (ending_resigned party (side other).signature rows bytes) ∙ as_twin ending (ap (λ m. reading.ending_of m.stand) same_moves)

  other_ended : Ends (ending party rows bytes) (length bytes) other.answer
  other_ended =
      subst (λ n. Ends (ending party rows bytes) n other.answer) (ap length heard)
      (subst (λ end. Ends end (length other.did.bytes) other.answer) (sym ending_alike) other.did.ended)

  -- ---- what both wrote

  other_wrote : IsAllOf (out twin rows bytes) other.did.written other.answer
  other_wrote = subst (λ all. IsAllOf all other.did.written other.answer) (sym out_alike) other.did.wrote

  abbrev WroteOf : List ℕ → Type 0
  WroteOf all = IsAllOf all one.did.written one.answer × IsAllOf all other.did.written other.answer

  abbrev IsQuiet : List ℕ → Type 0
  IsQuiet written = length written ≤ length (hello_spelling party.hello)

  -- the hellos are one
  own_hello : (side other).hello ≡ party.hello
  own_hello = ap (λ (x : Party). x.hello) bring

  wrote_alike : (HasProved one ⊎ IsQuiet one.did.written) → (HasProved other ⊎ IsQuiet other.did.written) → (all : List ℕ) × WroteOf all
  wrote_alike (inl a) (inl b) =
      (out party rows bytes, (one.did.wrote, subst (λ s. IsAllOf (out (record party { signature = s }) rows bytes) other.did.written other.answer) (signed a b) other_wrote))
  wrote_alike (inr quiet) b = (out twin rows bytes, (quiet_resigned party (side other).signature rows bytes one.did.written one.answer quiet one.did.wrote, other_wrote))
  wrote_alike (inl a) (inr quiet) = (out party rows bytes, (one.did.wrote, quiet_resigned twin party.signature rows bytes other.did.written other.answer quiet other_wrote))

  other_quiet : HasProved other ⊎ (length other.did.written ≤ length (hello_spelling (side other).hello)) → HasProved other ⊎ IsQuiet other.did.written
  other_quiet (inl b) = inl b
  other_quiet (inr quiet) = inr (subst (λ h. length other.did.written ≤ length (hello_spelling h)) own_hello quiet)

  pub runs_alike : AreAlike one other
  runs_alike =
      let wrote = wrote_alike (cases_lt (length (hello_spelling party.hello)) (length one.did.written)) (other_quiet (cases_lt (length (hello_spelling (side other).hello)) (length other.did.written))) in
      record {
        bytes = wrote.0;
        wrote = wrote.1;
        rows = got party rows bytes;
        sent = (one.did.sent, subst (λ all. AreAllOf all (map row_of other.did.rows) other.answer) (sym got_alike) other.did.sent);
        end = ending party rows bytes;
        ended = (one.did.ended, subst (λ end. Ends end (length other.did.bytes) other.answer) (sym ending_alike) other.did.ended);
        answered = λ ok ok'.
            both (ending party rows bytes) (length bytes) one.answer other.answer
            (answers (ending party rows bytes) (length bytes) one.answer ok one.did.ended)
            (answers (ending party rows bytes) (length bytes) other.answer ok' other_ended);
      }
