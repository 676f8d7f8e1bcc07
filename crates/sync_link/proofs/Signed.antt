-- For whom a side signs, piece by piece.
use Rattle.std.proofs.Common.{◌≡◌, ◌⊎◌, inl, inr, ℕ, ◌+◌, Bool, true, false, cond, List, [], ◌++◌, map, take, drop, append_assoc, append-nil, Option, Some, None, refl, sym, ap, ◌∙◌, subst}
use Rattle.std.proofs.lemmas.List.{take-append-drop}
use Rattle.std.proofs.Math.Seq.{take-add}
use Rattle.scheme_core.specs.Rules.{Rules}
use Rattle.willow_entry.specs.Row.{RowValue}
use Rattle.sync_hello.specs.declared.hello.Hello.{Hello}
use Rattle.session_end.specs.declared.refusal.HelloRefusal.{HelloRefusal}
use Rattle.session_rules.specs.Machine.{Machine}
use Rattle.session_rules.specs.Reading.{Stand, Waits, Over, Broken, Refused, then, move, run, read}
use Rattle.session_rules.specs.Session.{Opening, Proving, Talking, InGreeting, InTalk}
use Rattle.session_rules.proofs.Runs.{run_append}
use Rattle.sync_link.specs.Places.{has_finished}
use Rattle.sync_link.specs.Sessions.{Party, SessionStage, SessionMessage, SessionCause, session_of}
use Rattle.sync_link.specs.Standing.{Side, MayBe, ReadsPiece, party_of, within}
use Rattle.sync_link.specs.Awaited.{stand_of}
use Rattle.sync_link.specs.Signing.{SignsFor, SignsNext, SignsStep, SignsTo}
use Rattle.sync_link.specs.Talking.{HearsHello, IsSigned, own_message}
use Rattle.sync_link.specs.Taking.{Holds, Steps, waiting_side}
use Rattle.sync_link.specs.TakingAll.{TakesFront}
use Rattle.sync_link.specs.declared.side.awaited.Cause.TheVariants as causes
use Rattle.sync_link.specs.declared.side.awaited.Awaited.{Awaited}
use Rattle.sync_link.specs.declared.side.awaited.Awaited.TheVariants as awaited
use Rattle.sync_link.specs.declared.side.participant.Participant.{Participant}
use Rattle.sync_link.proofs.Staying.{cut_twice, same_stage, waited}

-- ---- one piece behind another

module _ (gives : List ℕ → List ℕ → Bool) where
  abbrev pub signs_before : (a : Side) (piece more signature : List ℕ) → SignsFor gives a piece signature → SignsFor gives a (piece ++ more) signature
  signs_before a piece more signature f = record {
    other = f.other;
    given = f.given;
    front = f.front;
    behind = f.behind ++ more;
    joined = ap (λ l. l ++ more) f.joined ∙ append_assoc f.front f.behind more;
    at = f.at;
    held = f.held;
    waits = f.waits;
  }

  abbrev pub signs_behind : (a b : Side) (piece more out_a out_b : List ℕ) (rows_a rows_b : List RowValue) (signature : List ℕ)
      → ReadsPiece a b piece out_a out_b rows_a rows_b → MayBe b.signature signature → SignsFor gives b more signature → SignsFor gives a (piece ++ more) signature
  signs_behind a b piece more out_a out_b rows_a rows_b signature f may g =
      let here = session_of (party_of a signature) a.rows in
      record {
        other = g.other;
        given = subst (λ x. gives (own_message x.role x.hello g.other) signature ≡ true) f.kept g.given;
        front = piece ++ g.front;
        behind = g.behind;
        joined = ap (λ l. piece ++ l) g.joined ∙ sym (append_assoc piece g.front g.behind);
        at = g.at;
        held = g.held;
        waits =
            ap (λ m. m.stand) (run_append (move here) a.stand piece g.front)
            ∙ ap (λ q. (read here q g.front).stand) (f.reads signature may).stands
            ∙ subst (λ x. (read (session_of (party_of x signature) x.rows) b.stand g.front).stand ≡ Waits (Proving g.other) g.at g.held) f.kept g.waits;
      }

  longer : (a b : Side) (piece more signature : List ℕ) → (a.signature ≡ Some signature) ⊎ SignsFor gives a piece signature → (a.signature ≡ Some signature) ⊎ SignsFor gives a (piece ++ more) signature
  longer a b piece more signature (inl e) = inl e
  longer a b piece more signature (inr f) = inr (signs_before a piece more signature f)

  pub signs_append : (a b c : Side) (piece more out_a out_b : List ℕ) (rows_a rows_b : List RowValue) → ReadsPiece a b piece out_a out_b rows_a rows_b
      → ((signature : List ℕ) → MayBe c.signature signature → MayBe b.signature signature) → SignsTo gives a b piece → SignsTo gives b c more → SignsTo gives a c (piece ++ more)
  signs_append a b c piece more out_a out_b rows_a rows_b f once before later signature made = by_later (later signature made)
    where
      by_later : (b.signature ≡ Some signature) ⊎ SignsFor gives b more signature → (a.signature ≡ Some signature) ⊎ SignsFor gives a (piece ++ more) signature
      by_later (inl e) = longer a b piece more signature (before signature e)
      by_later (inr g) = inr (signs_behind a b piece more out_a out_b rows_a rows_b signature f (once signature (subst (λ o. MayBe o signature) (sym made) refl)) g)

-- ---- a message

module _ {R S : Type 0} (gives : List ℕ → List ℕ → Bool) (old new : Participant R S) where
  pub signs_next : (other : Hello) (due : Awaited R) (out_old out_new : List ℕ) (o : Option HelloRefusal) → HearsHello old new other due out_old out_new o → IsSigned gives old new other → SignsNext gives old new due
  signs_next other due out_old out_new (Some cause) h signed signature made = inl (sym (ap (λ t. t.signature) h.1) ∙ made)
  signs_next other due out_old out_new None h signed signature made = by_either (signed signature made)
    where
      by_either : (old.signature ≡ Some signature) ⊎ (gives (own_message old.role old.hello other) signature ≡ true) → (old.signature ≡ Some signature) ⊎ ((hello : Hello) × ((due ≡ awaited.Proof hello) × (gives (own_message old.role old.hello hello) signature ≡ true)))
      by_either (inl e) = inl e
      by_either (inr e) = inr (other, (h.0, e))

  module _ (rules : Rules) (value : R → RowValue) (next : Awaited R) (bytes : List ℕ) where
    hello_signs : (due : Awaited R) (at then_at : ℕ) (held piece out_old out_new : List ℕ) (rows_old rows_new : List RowValue) → SignsNext gives old new next
        → ReadsPiece (waiting_side rules value old due at []) (waiting_side rules value new next then_at held) piece out_old out_new rows_old rows_new
        → SignsTo gives (waiting_side rules value old due at []) (waiting_side rules value new next then_at held) piece
    hello_signs due at then_at held piece out_old out_new rows_old rows_new h f signature made = by_either (h signature made)
      where
        by_either : (old.signature ≡ Some signature) ⊎ ((hello : Hello) × ((next ≡ awaited.Proof hello) × (gives (own_message old.role old.hello hello) signature ≡ true))) → (old.signature ≡ Some signature) ⊎ SignsFor gives (waiting_side rules value old due at []) piece signature
        by_either (inl e) = inl e
        by_either (inr g) = inr (record {
          other = g.0;
          given = g.1.1;
          front = piece;
          behind = [];
          joined = sym (append-nil piece);
          at = then_at;
          held = held;
          waits = (f.reads signature (subst (λ o. MayBe o signature) (sym made) refl)).stands ∙ ap (λ d. stand_of d then_at held) g.1.0;
        })

    pub hello_greets : (due : Awaited R) (o : Option ℕ) (out_old out_new : List ℕ) (rows_old rows_new : List RowValue) → SignsNext gives old new next
        → ((at : ℕ) → Steps (waiting_side rules value old due) (waiting_side rules value new next) at bytes o out_old out_new rows_old rows_new)
        → (at : ℕ) → SignsStep gives (waiting_side rules value old due) (waiting_side rules value new next) at bytes o
    hello_greets due None out_old out_new rows_old rows_new h steps at = hello_signs due at at bytes bytes out_old out_new rows_old rows_new h (steps at)
    hello_greets due (Some n) out_old out_new rows_old rows_new h steps at = hello_signs due at (at + n) [] (take n bytes) out_old out_new rows_old rows_new h (steps at).1.1

    proof_signs : (other : Hello) → IsSigned gives old new other → (at : ℕ) (piece : List ℕ) (behind : Side) → behind.signature ≡ new.signature → SignsTo gives (waiting_side rules value old (awaited.Proof other) at []) behind piece
    unfolding run
    proof_signs other h at piece behind same signature made = by_either (h signature (sym same ∙ made))
      where
        by_either : (old.signature ≡ Some signature) ⊎ (gives (own_message old.role old.hello other) signature ≡ true) → (old.signature ≡ Some signature) ⊎ SignsFor gives (waiting_side rules value old (awaited.Proof other) at []) piece signature
        by_either (inl e) = inl e
        by_either (inr e) = inr (record { other = other; given = e; front = []; behind = piece; joined = refl; at = at; held = []; waits = refl })

    pub proof_greets : (other : Hello) (o : Option ℕ) → IsSigned gives old new other → (at : ℕ) → SignsStep gives (waiting_side rules value old (awaited.Proof other)) (waiting_side rules value new next) at bytes o
    proof_greets other None h at = proof_signs other h at bytes (waiting_side rules value new next at bytes) refl
    proof_greets other (Some n) h at = proof_signs other h at (take n bytes) (waiting_side rules value new next (at + n) []) refl

    -- what is signed before is not signed again
    pub item_greets : (due : Awaited R) (o : Option ℕ) → new.signature ≡ old.signature → (at : ℕ) → SignsStep gives (waiting_side rules value old due) (waiting_side rules value new next) at bytes o
    item_greets due None same at = λ signature made. inl (sym same ∙ made)
    item_greets due (Some n) same at = λ signature made. inl (sym same ∙ made)

-- ---- message by message

module _ {R S : Type 0} (gives then_gives : List ℕ → List ℕ → Bool) (rules : Rules) (value : R → RowValue) (first old new : Participant R S) (due_first due next : Awaited R) (bytes : List ℕ) (taken : ℕ) (out_first out_old : List ℕ) (rows_first rows_old : List RowValue)
    (front : TakesFront rules value first old due_first due bytes taken out_first out_old rows_first rows_old)
    (before : (at : ℕ) → SignsTo gives (waiting_side rules value first due_first at []) (waiting_side rules value old due (at + taken) []) (take taken bytes)) where
  pub signs_closed : (at : ℕ) → SignsTo gives (waiting_side rules value first due_first at []) (waiting_side rules value old due (at + taken) (drop taken bytes)) bytes
  signs_closed at signature made =
      subst (λ l. (first.signature ≡ Some signature) ⊎ SignsFor gives (waiting_side rules value first due_first at []) l signature) (take-append-drop taken bytes)
      (longer gives (waiting_side rules value first due_first at []) (waiting_side rules value old due at []) (take taken bytes) (drop taken bytes) signature (before at signature made))

  module _ (same : then_gives ≡ gives) (rest : List ℕ) (left : rest ≡ drop taken bytes) (once : (signature : List ℕ) → MayBe new.signature signature → MayBe old.signature signature) (answer : Option ℕ)
      (later : (at : ℕ) → SignsStep then_gives (waiting_side rules value old due) (waiting_side rules value new next) at rest answer) where
    step_as : (o : Option ℕ) → answer ≡ o → (at : ℕ) → SignsStep gives (waiting_side rules value old due) (waiting_side rules value new next) at (drop taken bytes) o
    step_as o is at =
        subst (λ g. SignsStep g (waiting_side rules value old due) (waiting_side rules value new next) at (drop taken bytes) o) same
        (subst (λ l. SignsStep then_gives (waiting_side rules value old due) (waiting_side rules value new next) at l o) left
        (subst (λ k. SignsStep then_gives (waiting_side rules value old due) (waiting_side rules value new next) at rest k) is (later at)))

    pub signs_more : (more : ℕ) → answer ≡ Some more → (at : ℕ) → SignsTo gives (waiting_side rules value first due_first at []) (waiting_side rules value new next (at + (taken + more)) []) (take (taken + more) bytes)
    signs_more more is at =
        subst (λ l. SignsTo gives (waiting_side rules value first due_first at []) (waiting_side rules value new next (at + (taken + more)) []) l) (sym (take-add taken more bytes))
        (signs_append gives (waiting_side rules value first due_first at []) (waiting_side rules value old due (at + taken) []) (waiting_side rules value new next (at + (taken + more)) []) (take taken bytes) (take more (drop taken bytes))
        out_first out_old rows_first rows_old (front.reads_piece at) once (before at) (step_as (Some more) is (at + taken)))

    pub signs_end : answer ≡ None → (at : ℕ) → SignsTo gives (waiting_side rules value first due_first at []) (waiting_side rules value new next (at + taken) (drop taken bytes)) bytes
    signs_end is at =
        subst (λ l. SignsTo gives (waiting_side rules value first due_first at []) (waiting_side rules value new next (at + taken) (drop taken bytes)) l) (take-append-drop taken bytes)
        (signs_append gives (waiting_side rules value first due_first at []) (waiting_side rules value old due (at + taken) []) (waiting_side rules value new next (at + taken) (drop taken bytes)) (take taken bytes) (drop taken bytes)
        out_first out_old rows_first rows_old (front.reads_piece at) once (before at) (step_as None is (at + taken)))

-- ---- behind the bytes that are held

pub nothing_read : (p : Party) (rows : List RowValue) (q : Stand SessionStage SessionCause) → (read (session_of p rows) q []).stand ≡ q
unfolding run
nothing_read p rows q = refl

-- where only a part of the message came that was due, it is due all the while
module _ (here : Machine SessionStage SessionMessage SessionMessage RowValue SessionCause) (other : Hello) (mid_at : ℕ) (mid_held some behind : List ℕ) (at : ℕ) (held : List ℕ) where
  abbrev mid : Stand SessionStage SessionCause
  mid = Waits (Proving other) mid_at mid_held

  over_waits : ◌≡◌ {A = Stand SessionStage SessionCause} Over (Waits (Proving other) mid_at mid_held) → ⊥
  over_waits is = cc

  broken_waits : ◌≡◌ {A = Stand SessionStage SessionCause} (Broken at) (Waits (Proving other) mid_at mid_held) → ⊥
  broken_waits is = cc

  refused_waits : (cause : SessionCause) → ◌≡◌ {A = Stand SessionStage SessionCause} (Refused cause) (Waits (Proving other) mid_at mid_held) → ⊥
  refused_waits cause is = cc

  abbrev over_if : Bool → SessionStage → List ℕ → Stand SessionStage SessionCause
  over_if done s bytes = cond done Over (Waits s at bytes)

  still_in : (done : Bool) (s : SessionStage) → (read here (over_if done s []) some).stand ≡ mid → (read here mid behind).stand ≡ over_if done s held → over_if done s held ≡ Waits (Proving other) at held
  still_in true s e f = absurd (over_waits (waited here Over (Proving other) mid_at mid_held some (λ b. refl) e))
  still_in false s e f = ap (λ k. Waits k at held) (sym (same_stage here (Proving other) mid_at mid_held behind s held s at [] some e f))

  still_due : {R : Type 0} (due : Awaited R) → (read here (stand_of due at []) some).stand ≡ mid → (read here mid behind).stand ≡ stand_of due at held → stand_of due at held ≡ Waits (Proving other) at held
  still_due awaited.Hello e f = still_in false Opening e f
  still_due (awaited.Proof hello) e f = still_in false (Proving hello) e f
  still_due (awaited.Items exchange) e f = still_in (has_finished exchange.core.doing) (Talking (within exchange.core)) e f
  still_due (awaited.Nothing causes.Bad) e f = absurd (broken_waits (waited here (Broken at) (Proving other) mid_at mid_held some (λ b. refl) e))
  still_due (awaited.Nothing (causes.Hello cause)) e f = absurd (refused_waits (InGreeting cause) (waited here (Refused (InGreeting cause)) (Proving other) mid_at mid_held some (λ b. refl) e))
  still_due (awaited.Nothing (causes.Core cause)) e f = absurd (refused_waits (InTalk cause) (waited here (Refused (InTalk cause)) (Proving other) mid_at mid_held some (λ b. refl) e))

module _ {R S : Type 0} (gives : List ℕ → List ℕ → Bool) (rules : Rules) (value : R → RowValue) (old : Participant R S) (due : Awaited R) (at : ℕ) (held piece : List ℕ) (holds : Holds rules value old due held) where
  abbrev here : List ℕ → Machine SessionStage SessionMessage SessionMessage RowValue SessionCause
  here signature = session_of (party_of (waiting_side rules value old due at []) signature) (map value old.snapshot)

  -- for the same one
  pub held_signs : (signature : List ℕ) (f : SignsFor gives (waiting_side rules value old due at []) (held ++ piece) signature) → (g : SignsFor gives (waiting_side rules value old due at held) piece signature) × (g.other ≡ f.other)
  held_signs signature f = by_cut (cut_twice held piece f.front f.behind f.joined)
    where
      by_cut : ((more : List ℕ) × ((f.front ≡ held ++ more) × (piece ≡ more ++ f.behind))) ⊎ ((more : List ℕ) × (held ≡ f.front ++ more)) → (g : SignsFor gives (waiting_side rules value old due at held) piece signature) × (g.other ≡ f.other)
      by_cut (inl c) = (
        record {
          other = f.other;
          given = f.given;
          front = c.0;
          behind = f.behind;
          joined = c.1.1;
          at = f.at;
          held = f.held;
          waits =
              sym (ap (λ m. m.stand) (run_append (move (here signature)) (stand_of due at []) held c.0 ∙ ap (λ m. then m (read (here signature) m.stand c.0)) (holds at signature).0))
              ∙ ap (λ l. (read (here signature) (stand_of due at []) l).stand) (sym c.1.0)
              ∙ f.waits;
        },
        refl,
      )
      by_cut (inr c) = (
        record {
          other = f.other;
          given = f.given;
          front = [];
          behind = piece;
          joined = refl;
          at = at;
          held = held;
          waits =
              nothing_read (party_of (waiting_side rules value old due at []) signature) (map value old.snapshot) (stand_of due at held)
              ∙ still_due (here signature) f.other f.at f.held f.front c.0 at held due f.waits
              (sym (ap (λ q. (read (here signature) q c.0).stand) f.waits)
              ∙ sym (ap (λ m. m.stand) (run_append (move (here signature)) (stand_of due at []) f.front c.0))
              ∙ ap (λ l. (read (here signature) (stand_of due at []) l).stand) (sym c.1)
              ∙ ap (λ m. m.stand) (holds at signature).0);
        },
        refl,
      )

  signs_held : (signature : List ℕ) → SignsFor gives (waiting_side rules value old due at []) (held ++ piece) signature → SignsFor gives (waiting_side rules value old due at held) piece signature
  signs_held signature f = (held_signs signature f).0

  pub signs_on_held : (bytes : List ℕ) (new then_new : Side) → bytes ≡ held ++ piece → then_new.signature ≡ new.signature → SignsTo gives (waiting_side rules value old due at []) new bytes → SignsTo gives (waiting_side rules value old due at held) then_new piece
  signs_on_held bytes new then_new all same h signature made = by_either (subst (λ l. (old.signature ≡ Some signature) ⊎ SignsFor gives (waiting_side rules value old due at []) l signature) all (h signature (sym same ∙ made)))
    where
      by_either : (old.signature ≡ Some signature) ⊎ SignsFor gives (waiting_side rules value old due at []) (held ++ piece) signature → (old.signature ≡ Some signature) ⊎ SignsFor gives (waiting_side rules value old due at held) piece signature
      by_either (inl e) = inl e
      by_either (inr f) = inr (signs_held signature f)
