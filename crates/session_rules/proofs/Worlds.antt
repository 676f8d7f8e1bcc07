-- Two sessions of one side that offer the same rows.
use Rattle.std.proofs.Common.{◌≡◌, ℕ, ◌+◌, List, [], ◌++◌, length, Option, None, Some, sym, refl, ap, ◌∙◌}
use Rattle.session_rules.specs.Machine.{Whole, Machine}
use Rattle.session_rules.specs.Reading.{Waits, Refused, Move, stay, then, stepped, move, read, start}
use Rattle.session_rules.specs.Talk.{Caller, Talk, talk}
use Rattle.session_rules.specs.Greeting.{Greeting, Own, other_refusal, agreed_with, HasHello}
use Rattle.session_rules.specs.Session.{Message, Hello, Proof, Stage, Opening, Proving, Talking, Cause, InGreeting, rows_offered, exchange_with, hello_read, proof_read, session, OfferSame, Offering}
use Rattle.session_rules.proofs.Runs.{run_idle}
use Rattle.session_rules.proofs.Firsts.{First, Found, Unfinished, Bad, first_of, IsFirst, first_is, first_as, by_first}
use Rattle.session_rules.proofs.Talking.{talking}
use Rattle.session_rules.proofs.Sessions.{read_opening, read_proving}

module _ {H P A F R T I G : Type 0} (g : Greeting H P A F) (k : Talk R A T I G) (own : Own H P) (offers others : Offering A R) where
  abbrev one : Machine (Stage H T) (Message H P I) (Message H P I) R (Cause F G)
  one = session g k own offers

  abbrev other : Machine (Stage H T) (Message H P I) (Message H P I) R (Cause F G)
  other = session g k own others

  -- behind a refusal nothing is read, and in the exchange its places say all
  same_refused : (cause : Cause F G) (rest : List ℕ) → read one (Refused cause) rest ≡ read other (Refused cause) rest
  same_refused cause rest =
      run_idle (move one) (Refused cause) (λ byte. refl) rest ∙ sym (run_idle (move other) (Refused cause) (λ byte. refl) rest)

  same_talking : (agreed : A) (t : T) (at : ℕ) (rest : List ℕ) → read one (Waits (Talking t) at []) rest ≡ read other (Waits (Talking t) at []) rest
  same_talking agreed t at rest = talking g k own offers Caller [] agreed (Waits t at []) rest ∙ sym (talking g k own others Caller [] agreed (Waits t at []) rest)

  module _ (hello : H) (same : rows_offered g own offers hello ≡ rows_offered g own others hello) where
    same_exchange : exchange_with g k own offers hello ≡ exchange_with g k own others hello
    same_exchange = ap (λ held. talk k own.role held (agreed_with g own hello)) same

    proof_judged : (rest : List ℕ) (n : ℕ) (refusal : Option F)
        → (let m = stepped n (proof_read own (exchange_with g k own offers hello) refusal) in then m (read one m.stand rest))
        ≡ (let m = stepped n (proof_read own (exchange_with g k own others hello) refusal) in then m (read other m.stand rest))
    proof_judged rest n (Some cause) = ap (then (stay (Refused (InGreeting cause)))) (same_refused (InGreeting cause) rest)
    proof_judged rest n None =
        let begun : Machine T I I R G → Move (Stage H T) (Message H P I) R (Cause F G) = λ e. stepped n (proof_read own e None) in
        ap (λ e. then (begun e) (read one (begun e).stand rest)) same_exchange
        ∙ ap (then (begun (exchange_with g k own others hello))) (same_talking (agreed_with g own hello) (exchange_with g k own others hello).first n rest)

    proof_found : (at : ℕ) (first : First P) → by_first one (Proving hello) at (first_as Proof first) ≡ by_first other (Proving hello) at (first_as Proof first)
    proof_found at (Found proof message rest) = proof_judged rest (at + length message) (other_refusal g own hello proof)
    proof_found at (Unfinished held) = refl
    proof_found at Bad = refl

    same_proving : (at : ℕ) (bytes : List ℕ) → read one (Waits (Proving hello) at []) bytes ≡ read other (Waits (Proving hello) at []) bytes
    same_proving at bytes =
        read_proving g k own offers hello at bytes
        ∙ proof_found at (first_of g.sees_proof [] bytes)
        ∙ sym (read_proving g k own others hello at bytes)

  module _ (bytes : List ℕ) (same : OfferSame g own bytes offers others) where
    hello_judged : (hello : H) (message rest : List ℕ) → g.sees_hello message ≡ Whole hello → bytes ≡ message ++ rest → (n : ℕ) (refusal : Option F) → g.hello_refusal hello ≡ refusal
        → (let m = stepped {R = R} n (hello_read {T = T} {I = I} {G = G} own hello refusal) in then m (read one m.stand rest) ≡ then m (read other m.stand rest))
    hello_judged hello message rest is joined n (Some cause) e = ap (then (stay (Refused (InGreeting cause)))) (same_refused (InGreeting cause) rest)
    hello_judged hello message rest is joined n None e =
        let greets : HasHello g bytes hello = record { hello_bytes = message; behind = rest; joined = joined; is_hello = is; passes = e } in
        ap (then (stepped n (hello_read own hello None))) (same_proving hello (same hello greets) n rest)

    hello_found : (first : First H) → IsFirst g.sees_hello bytes first → by_first one Opening 0 (first_as Hello first) ≡ by_first other Opening 0 (first_as Hello first)
    hello_found (Found hello message rest) is = hello_judged hello message rest is.0 is.1 (0 + length message) (g.hello_refusal hello) refl
    hello_found (Unfinished held) is = refl
    hello_found Bad is = refl

    pub same_read : read one (start one) bytes ≡ read other (start other) bytes
    same_read =
        read_opening g k own offers bytes
        ∙ hello_found (first_of g.sees_hello [] bytes) (first_is g.sees_hello bytes [] bytes refl)
        ∙ sym (read_opening g k own others bytes)
