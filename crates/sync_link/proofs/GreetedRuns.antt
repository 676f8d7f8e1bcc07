-- What two sides say to each other's greetings.
use Rattle.std.proofs.Common.{◌≡◌, inl, inr, ℕ, ◌+◌, ◌<◌, not, List, [], ◌++◌, length, flat_map, append-nil, length-append, refl, sym, ap, ◌∙◌, subst, arith}
use Rattle.spelling.specs.Answers.{cause_if}
use Rattle.scheme_core.specs.Rules.{Rules}
use Rattle.willow_entry.specs.Row.{RowValue}
use Rattle.area_interest.specs.declared.interest.Interest.{Interest}
use Rattle.mc_cap.specs.Signature.{signature_spelling}
use Rattle.session_end.specs.declared.refusal.HelloRefusal.TheVariants.{BadProof}
use Rattle.sync_msg.specs.Items.{ItemValue}
use Rattle.sync_msg.specs.declared.refusal.CoreRefusal.{CoreRefusal}
use Rattle.sync_msg.specs.declared.role.Role.{Role}
use Rattle.sync_msg.specs.declared.role.Role.TheVariants as roles
use Rattle.sync_hello.specs.Checked.{Passes}
use Rattle.sync_hello.specs.HelloForm.{hello_spelling, IsHello}
use Rattle.sync_hello.specs.declared.hello.Hello.{Hello}
use Rattle.sync_hello.proofs.Meaning.{passes_means}
use Rattle.sync_core.specs.Place.{Place}
use Rattle.session_rules.specs.Machine.{Machine, Seen}
use Rattle.session_rules.specs.Reading.{Move, stepped, run, read, start}
use Rattle.session_rules.specs.Rounds.{IsFront}
use Rattle.session_rules.specs.Messages.{IsReadAs}
use Rattle.session_rules.specs.Greeting.{Greets}
use Rattle.session_rules.specs.Session.{Opening, Hello as HelloMessage, opening, to_hello, hello_read, seen_as}
use Rattle.session_rules.proofs.Growing.{front_by, front_is, front_none, front_under, out_grows}
use Rattle.session_rules.proofs.Greeted.{out_is_exchange}
use Rattle.session_rules.proofs.Spelled.{read_due}
use Rattle.sync_link.specs.Greetings.{greeting, side_of}
use Rattle.sync_link.specs.Places.{offers_of, places}
use Rattle.sync_link.specs.Sessions.{Party, SessionStage, SessionMessage, SessionCause, own_part, session_of, out}
use Rattle.sync_link.specs.Settling.{Accepts}
use Rattle.sync_link.specs.Ran.{AreBothRoles}
use Rattle.sync_link.proofs.Reaching.{front_trans}
use Rattle.sync_link.proofs.Spellings.{hello_as, proof_as}

read_as : {A M : Type 0} (f : A → M) (sees : List ℕ → Seen A) (bytes : List ℕ) (x : A) → IsReadAs sees bytes x → IsReadAs (λ all. seen_as f (sees all)) bytes (f x)
read_as f sees bytes x is = record {
  some_bytes = is.some_bytes;
  whole = ap (seen_as f) is.whole;
  part = λ held due e some more. ap (seen_as f) (is.part held due e some more);
}

-- one that accepts the other reads its greeting
module _ (rules : Rules) (namespace : List ℕ) (hello : Hello) (limits : Interest) (signature : List ℕ) (q : Party) where
  abbrev with_role : Role → Party
  with_role role = record { rules = rules; namespace = namespace; role = role; hello = hello; interest = limits; signature = signature }

  greets_as : (role : Role) → Accepts (with_role role) q → Greets (greeting rules namespace) (own_part (with_role role)) q.hello q.signature
  greets_as roles.Caller a = record {
    hello_read = hello_as q.hello a.hello_fits;
    hello_passes = (passes_means rules namespace q.hello).1 a.hello_passes;
    proof_read = proof_as q.signature a.proof_fits;
    proof_passes = ap (λ b. cause_if (not b) BadProof) a.proved;
  }
  greets_as roles.Answerer a = record {
    hello_read = hello_as q.hello a.hello_fits;
    hello_passes = (passes_means rules namespace q.hello).1 a.hello_passes;
    proof_read = proof_as q.signature a.proof_fits;
    proof_passes = ap (λ b. cause_if (not b) BadProof) a.proved;
  }

pub greets_of : (p q : Party) → Accepts p q → Greets (greeting p.rules p.namespace) (own_part p) q.hello q.signature
greets_of p q a = greets_as p.rules p.namespace p.hello p.interest p.signature q p.role a

-- the bytes of a proof
some_proof : (signature : List ℕ) → 0 < length (signature_spelling signature)
some_proof signature = omega arith

module _ (p : Party) (rows : List RowValue) where
  abbrev here : Machine SessionStage SessionMessage SessionMessage RowValue SessionCause
  here = session_of p rows

  abbrev both_bytes : List ℕ
  both_bytes = hello_spelling p.hello ++ signature_spelling p.signature

  -- before it reads the caller writes its hello
  pub first_said : p.role ≡ roles.Caller → out p rows [] ≡ hello_spelling p.hello
  unfolding run
  first_said calls = ap (λ role. flat_map here.spelling (opening (side_of role) (own_part p) ++ [])) calls ∙ append-nil (hello_spelling p.hello)

  -- to a hello that passes the answerer writes its own and its proof
  pub then_said : p.role ≡ roles.Answerer → (hello : Hello) → IsHello hello → Passes p.rules p.namespace hello → out p rows (hello_spelling hello) ≡ both_bytes
  then_said answers hello fits passes =
      let n = 0 + length (hello_spelling hello) in
      let reads : read here (start here) (hello_spelling hello) ≡ stepped n (here.step Opening (HelloMessage hello)) =
      read_due here Opening 0 (HelloMessage hello) (hello_spelling hello) (read_as HelloMessage (greeting p.rules p.namespace).sees_hello (hello_spelling hello) hello (hello_as hello fits)) [] (hello_spelling hello) refl (hello_as hello fits).some_bytes in
      ap (λ (m : Move SessionStage SessionMessage RowValue SessionCause). flat_map here.spelling (opening (own_part p).role (own_part p) ++ m.says)) reads
      ∙ ap (λ refusal. flat_map here.spelling (opening (own_part p).role (own_part p) ++ (stepped n (hello_read {T = Place} {I = ItemValue} {R = RowValue} {G = CoreRefusal} (own_part p) hello refusal)).says)) ((passes_means p.rules p.namespace hello).1 passes)
      ∙ ap (λ role. flat_map here.spelling (opening (side_of role) (own_part p) ++ to_hello (side_of role) (own_part p))) answers
      ∙ ap (λ l. hello_spelling p.hello ++ l) (append-nil (signature_spelling p.signature))

  -- to a whole greeting it writes more than its own hello
  pub greeted_said : (q : Party) → Accepts p q → IsFront both_bytes (out p rows (hello_spelling q.hello ++ signature_spelling q.signature))
  greeted_said q a =
      let g = greeting p.rules p.namespace in
      let all = hello_spelling q.hello ++ signature_spelling q.signature in
      front_by both_bytes (out p rows all) _ (ap (out p rows) (sym (append-nil all)) ∙ out_is_exchange g places (own_part p) (offers_of p.interest rows) q.hello q.signature (greets_of p q a) [])

  -- that is longer than the hello
  pub longer : (written : List ℕ) → IsFront both_bytes written → IsFront written (hello_spelling p.hello) → ⊥
  longer written a b =
      omega (
        arith,
        some_proof p.signature,
        ap length a.joined,
        ap length b.joined,
        length-append both_bytes a.behind,
        length-append written b.behind,
        length-append (hello_spelling p.hello) (signature_spelling p.signature),
      )

-- A side that read all that the other writes to what it wrote has written more than its hello.
module _ (p q : Party) (rows others : List RowValue) (accepts : Accepts p q) (fits : IsHello p.hello) (passes : Passes q.rules q.namespace p.hello) (written : List ℕ) (wrote : written ≡ out p rows (out q others written)) where
  abbrev all : List ℕ
  all = out q others written

  as_caller : p.role ≡ roles.Caller → q.role ≡ roles.Answerer → IsFront written (hello_spelling p.hello) → ⊥
  as_caller calls answers quiet =
      let own = hello_spelling p.hello in
      let said_first : IsFront own written =
      front_is own (out p rows all) written (sym wrote) (subst (λ l. IsFront l (out p rows all)) (first_said p rows calls) (front_under (out p rows) (out_grows (session_of p rows)) [] all (front_none all))) in
      let then = front_under (out q others) (out_grows (session_of q others)) own written said_first in
      let greeted : IsFront (hello_spelling q.hello ++ signature_spelling q.signature) all = subst (λ l. IsFront l all) (then_said q others answers p.hello fits passes) then in
      let told = front_under (out p rows) (out_grows (session_of p rows)) (hello_spelling q.hello ++ signature_spelling q.signature) all greeted in
      longer p rows written
      (front_is (both_bytes p rows) (out p rows all) written (sym wrote) (front_trans (both_bytes p rows) (out p rows (hello_spelling q.hello ++ signature_spelling q.signature)) (out p rows all) (greeted_said p rows q accepts) told))
      quiet

  as_answerer : p.role ≡ roles.Answerer → q.role ≡ roles.Caller → IsFront written (hello_spelling p.hello) → ⊥
  as_answerer answers calls quiet =
      let first : IsFront (hello_spelling q.hello) all =
      subst (λ l. IsFront l all) (first_said q others calls) (front_under (out q others) (out_grows (session_of q others)) [] written (front_none written)) in
      let told = front_under (out p rows) (out_grows (session_of p rows)) (hello_spelling q.hello) all first in
      longer p rows written
      (front_is (both_bytes p rows) (out p rows all) written (sym wrote) (subst (λ l. IsFront l (out p rows all)) (then_said p rows answers q.hello accepts.hello_fits accepts.hello_passes) told))
      quiet

  pub not_quiet : AreBothRoles p.role q.role → IsFront written (hello_spelling p.hello) → ⊥
  not_quiet (inl r) quiet = as_caller r.0 r.1 quiet
  not_quiet (inr r) quiet = as_answerer r.0 r.1 quiet
