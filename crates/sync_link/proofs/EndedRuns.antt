-- A session whose other side keeps to the rules comes to its end.
use Rattle.std.proofs.Common.{◌≡◌, ◌⊎◌, inl, inr, ℕ, List, [], ◌++◌, length, flat_map, append_assoc, length-append, Ok, Err, refl, sym, ap, ◌∙◌, subst, arith}
use Rattle.std.specs.Prelude.{IsTrue}
use Rattle.spelling.specs.Form.{AreBytes}
use Rattle.spelling.proofs.Lists.{All-left}
use Rattle.willow_entry.specs.Row.{RowValue}
use Rattle.mc_cap.specs.Grant.{receiver_of}
use Rattle.mc_cap.specs.Signature.{signature_spelling}
use Rattle.session_end.specs.declared.end.SessionEnd.TheVariants.{LinkRead, LinkWrite, ClosedEarly, BadMessage, Hello, Core, SignFault, LogFull, NoMemory}
use Rattle.sync_msg.specs.declared.role.Role.{Role}
use Rattle.sync_hello.specs.Checked.{Passes}
use Rattle.sync_hello.specs.HelloForm.{hello_spelling, IsHello}
use Rattle.sync_hello.specs.declared.hello.Hello as hellos
use Rattle.sync_hello.proofs.HelloReads.{hello_form}
use Rattle.session_rules.specs.Reading as reading
use Rattle.session_rules.specs.Rounds.{IsFront, IsOver}
use Rattle.session_rules.specs.Greeting.{HasHello}
use Rattle.session_rules.specs.Session.{InGreeting, InTalk}
use Rattle.session_rules.proofs.Growing.{same_over}
use Rattle.sync_link.specs.Greetings.{greeting}
use Rattle.sync_link.specs.Places.{offers_of, places}
use Rattle.sync_link.specs.Sessions.{Party, SessionCause, SessionMessage, own_part, session_of, said, out, ending}
use Rattle.sync_link.specs.Granting.{message_due}
use Rattle.sync_link.specs.Settling.{IsOpening, Accepts}
use Rattle.sync_link.specs.Talking.{own_message}
use Rattle.row_intake.specs.Answers.{IsAllOf, CountsReads, CountsWrites, CountsEnds}
use Rattle.sync_link.specs.Run.{Answer, Ends, CountsSigns, IsProofOf}
use Rattle.sync_link.specs.Ran.{Ran, side, opening_of, IsDone, AreBothRoles, HasOther, SignsWell, IsFaultless}
use Rattle.sync_link.proofs.Greeted.{Quiet, Proved, told}
use Rattle.sync_link.proofs.GreetedRuns.{not_quiet}
use Rattle.sync_link.proofs.MetSides.{passes_at, meet_as}
use Rattle.sync_link.proofs.OtherSides.{MeetAs}
use Rattle.sync_link.proofs.Settled.{settled}
use Rattle.sync_link.proofs.Spellings.{hello_as, hello_back}

-- ---- the hello that stands in front

-- what a side writes is nothing, or begins with its hello
begins : (q : Party) (others : List RowValue) (bytes : List ℕ) → (out q others bytes ≡ []) ⊎ ((later : List ℕ) × (out q others bytes ≡ hello_spelling q.hello ++ later))
begins q others bytes = by_case (told (greeting q.rules q.namespace) places (own_part q) (offers_of q.interest others) bytes)
  where
    spell : List SessionMessage → List ℕ
    spell = flat_map (session_of q others).spelling

    by_case : (Quiet (greeting q.rules q.namespace) places (own_part q) (offers_of q.interest others) (said q others bytes) ⊎ Proved (greeting q.rules q.namespace) places (own_part q) (offers_of q.interest others) (said q others bytes))
        → (out q others bytes ≡ []) ⊎ ((later : List ℕ) × (out q others bytes ≡ hello_spelling q.hello ++ later))
    by_case (inl (inl none)) = inl (ap (flat_map (session_of q others).spelling) none)
    by_case (inl (inr one)) = inr ([], ap (flat_map (session_of q others).spelling) one)
    by_case (inr both) = inr (signature_spelling q.signature ++ flat_map (session_of q others).spelling both.0, ap (flat_map (session_of q others).spelling) both.1)

-- so a hello in front of some of it is its own
module _ (p q : Party) (others : List RowValue) (written bytes : List ℕ) (fits : IsHello q.hello) (are : AreBytes bytes) (hears : IsFront bytes (out q others written)) (other : hellos.Hello) (stands : HasHello (greeting p.rules p.namespace) bytes other) where
  found : IsHello other × (stands.hello_bytes ≡ hello_spelling other)
  found = hello_back stands.hello_bytes other (All-left _ stands.hello_bytes stands.behind (subst AreBytes stands.joined are)) stands.is_hello

  whole : out q others written ≡ hello_spelling other ++ (stands.behind ++ hears.behind)
  whole =
      hears.joined
      ∙ ap (λ l. l ++ hears.behind) (stands.joined ∙ ap (λ l. l ++ stands.behind) found.1)
      ∙ append_assoc (hello_spelling other) stands.behind hears.behind

  pub same_hello : other ≡ q.hello
  same_hello = by_case (begins q others written)
    where
      by_case : (out q others written ≡ []) ⊎ ((later : List ℕ) × (out q others written ≡ hello_spelling q.hello ++ later)) → other ≡ q.hello
      by_case (inl none) = absurd (omega (arith, (hello_as other found.0).some_bytes, ap length whole, ap length none, length-append (hello_spelling other) (stands.behind ++ hears.behind)))
      by_case (inr b) = (hello_form other q.hello (stands.behind ++ hears.behind) b.0 found.0 fits (sym whole ∙ b.1)).0

-- ---- the own proof

-- what the one signs is what the other asks for
same_message : (one two : Role) (own other : hellos.Hello) → AreBothRoles one two → own_message one own other ≡ message_due two other own
same_message one two own other (inl r) = ap (λ role. own_message role own other) r.0 ∙ sym (ap (λ role. message_due role other own) r.1)
same_message one two own other (inr r) = ap (λ role. own_message role own other) r.0 ∙ sym (ap (λ role. message_due role other own) r.1)

module _ (p : List ℕ → Party) (ran : Ran p) (q : Party) (others : List RowValue) (other : HasOther ran q others) (signs : SignsWell ran) where
  abbrev party : Party
  party = side ran

  abbrev rows : List RowValue
  rows = opening_of ran

  abbrev bytes : List ℕ
  bytes = ran.did.bytes

  abbrev all : List ℕ
  all = out q others ran.did.written

  passes_there : Passes q.rules q.namespace party.hello
  passes_there = passes_at party q party.hello other.same_rules other.same_namespace ran.did.own_passes

  is_accepted : IsProofOf party ran.gives bytes → Accepts q party
  is_accepted proof =
      let is = same_hello party q others ran.did.written bytes other.accepts.hello_fits ran.did.are_bytes other.hears proof.other proof.stands in
      let well = signs (own_message party.role party.hello proof.other) party.signature proof.fits proof.given in
      let message : own_message party.role party.hello proof.other ≡ message_due q.role q.hello party.hello =
      ap (own_message party.role party.hello) is ∙ same_message party.role q.role party.hello q.hello other.roles in
      record {
        hello_fits = ran.did.own_fits;
        hello_passes = passes_there;
        proof_fits = proof.fits;
        proved =
            subst (λ rules. IsTrue (rules.user (receiver_of party.hello.capability) (message_due q.role q.hello party.hello) party.signature)) (sym other.same_rules)
            (subst (λ m. IsTrue (party.rules.user (receiver_of party.hello.capability) m party.signature)) message well);
      }

  can_meet : IsProofOf party ran.gives bytes → MeetAs party q
  can_meet proof = meet_as party q other.roles other.same_rules other.same_namespace other.accepts (is_accepted proof)

  -- ---- where all that is due to all of the other's bytes was written

  module _ (own : IsOpening party.namespace rows) (wrote : ran.did.written ≡ out party rows all) where
    done_as : MeetAs party q → ending party rows all ≡ reading.Done
    done_as (inl can) =
        (settled party q can rows others ran.did.written all own other.opens (record { left_writes = wrote; right_writes = refl })).caller_done
    done_as (inr can) =
        (settled q party can others rows all ran.did.written
        (subst (λ n. IsOpening n others) (sym other.same_namespace) other.opens) (subst (λ n. IsOpening n rows) (sym other.same_namespace) own)
        (record { left_writes = refl; right_writes = wrote })).answerer_done

    all_done : ending party rows all ≡ reading.Done
    all_done = by_case ran.did.signed
      where
        by_case : IsProofOf party ran.gives bytes ⊎ IsFront ran.did.written (hello_spelling party.hello) → ending party rows all ≡ reading.Done
        by_case (inl proof) = done_as (can_meet proof)
        by_case (inr quiet) = absurd (not_quiet party q rows others other.accepts ran.did.own_fits passes_there ran.did.written wrote other.roles quiet)

  -- where it read all of them, or nothing further counts, it is done
  module _ (own : IsOpening party.namespace rows) (wrote : ran.did.written ≡ out party rows bytes) where
    if_all : bytes ≡ all → ending party rows bytes ≡ reading.Done
    if_all same = ap (ending party rows) same ∙ all_done own (wrote ∙ ap (out party rows) same)

    if_over : IsOver (ending party rows bytes) → ending party rows bytes ≡ reading.Done
    if_over over =
        let same = same_over (session_of party rows) bytes other.hears.behind over in
        let here : (out party rows all ≡ out party rows bytes) × (ending party rows all ≡ ending party rows bytes) =
        subst (λ l. (out party rows l ≡ out party rows bytes) × (ending party rows l ≡ ending party rows bytes)) (sym other.hears.joined) (same.0, same.2) in
        sym here.1 ∙ all_done own (wrote ∙ sym here.0)

-- ---- every answer

abbrev Wanted : Answer → Type 0
Wanted answer = IsDone answer ⊎ (answer ≡ Err NoMemory)

-- an end that is no more is over
over_by : (end other : reading.Ending SessionCause) → end ≡ other → (other ≡ reading.More → ⊥) → IsOver end
over_by end other is never more = never (sym is ∙ more)

module _ (p : List ℕ → Party) (ran : Ran p) (q : Party) (others : List RowValue) (other : HasOther ran q others) (signs : SignsWell ran) (faultless : IsFaultless ran) where
  abbrev here : Party
  here = side ran

  abbrev mine : List RowValue
  mine = opening_of ran

  abbrev end : reading.Ending SessionCause
  end = ending here mine ran.did.bytes

  opens_by : (answer : Answer) → ran.answer ≡ answer → (answer ≡ Err NoMemory → ⊥) → IsOpening here.namespace mine
  opens_by answer is never = ran.did.opens (λ e. never (sym is ∙ e))

  wrote_by : (answer : Answer) → ran.answer ≡ answer → IsAllOf (out here mine ran.did.bytes) ran.did.written answer
  wrote_by answer is = subst (IsAllOf (out here mine ran.did.bytes) ran.did.written) is ran.did.wrote

  ends_by : (answer : Answer) → ran.answer ≡ answer → Ends end (length ran.did.bytes) answer
  ends_by answer is = subst (Ends end (length ran.did.bytes)) is ran.did.ended

  -- an end that is no end is none
  refused : (other_end : reading.Ending SessionCause) → IsOpening here.namespace mine → ran.did.written ≡ out here mine ran.did.bytes → end ≡ other_end → (other_end ≡ reading.More → ⊥) → (other_end ≡ reading.Done → ⊥) → ⊥
  refused other_end own wrote is not_more not_done = not_done (sym is ∙ if_over p ran q others other signs own wrote (over_by end other_end is not_more))

  more_not_done : ◌≡◌ {A = reading.Ending SessionCause} reading.More reading.Done → ⊥
  more_not_done e = cc

  by_answer : (answer : Answer) → ran.answer ≡ answer → Wanted answer
  by_answer (Ok report) is = inl tt
  by_answer (Err LinkRead) is = absurd (faultless.reads (subst (CountsReads ran.link.read_faults ran.link'.read_faults) is ran.did.counted_faults.reads))
  by_answer (Err LinkWrite) is = absurd (faultless.writes (subst (CountsWrites ran.link.write_faults ran.link'.write_faults) is ran.did.counted_faults.writes))
  by_answer (Err (ClosedEarly at)) is =
      let all = other.hears_all (subst (CountsEnds ran.link.ends ran.link'.ends) is ran.did.counted_faults.ends) in
      absurd (more_not_done (sym (ends_by (Err (ClosedEarly at)) is).0 ∙ if_all p ran q others other signs (opens_by (Err (ClosedEarly at)) is (λ e. cc)) (wrote_by (Err (ClosedEarly at)) is) all))
  by_answer (Err (BadMessage at)) is = absurd (refused (reading.BadMessage at) (opens_by (Err (BadMessage at)) is (λ e. cc)) (wrote_by (Err (BadMessage at)) is) (ends_by (Err (BadMessage at)) is) (λ e. cc) (λ e. cc))
  by_answer (Err (Hello cause)) is = absurd (refused (reading.Refusal (InGreeting cause)) (opens_by (Err (Hello cause)) is (λ e. cc)) (wrote_by (Err (Hello cause)) is) (ends_by (Err (Hello cause)) is) (λ e. cc) (λ e. cc))
  by_answer (Err (Core cause)) is = absurd (refused (reading.Refusal (InTalk cause)) (opens_by (Err (Core cause)) is (λ e. cc)) (wrote_by (Err (Core cause)) is) (ends_by (Err (Core cause)) is) (λ e. cc) (λ e. cc))
  by_answer (Err SignFault) is = absurd (faultless.signs (subst (CountsSigns ran.faults ran.faults') is ran.did.counted_faults.signs))
  by_answer (Err (LogFull missed)) is = inl tt
  by_answer (Err NoMemory) is = inr refl

  pub runs_end : Wanted ran.answer
  runs_end = by_answer ran.answer refl
