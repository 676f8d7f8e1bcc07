-- Behind a greeting that passes.
use Rattle.std.proofs.Common.{◌≡◌, ℕ, ◌+◌, List, [], ◌∷◌, ◌++◌, map, length, flat_map, append_assoc, length-append, zero-add, sym, refl, ap, ◌∙◌, arith}
use Rattle.session_rules.specs.Machine.{Seen, Machine}
use Rattle.session_rules.specs.Reading.{Stand, Waits, Over, Broken, Refused, Move, then, stepped, move, read, start, ending_of, out, got, ending}
use Rattle.session_rules.specs.Messages.{IsReadAs}
use Rattle.session_rules.specs.Talk.{Role, Caller, Answerer, Talk}
use Rattle.session_rules.specs.Greeting.{Greeting, Own, agreed_with, Greets, greeting_bytes}
use Rattle.session_rules.specs.Session.{Message, Hello, Proof, Item, Stage, Opening, Proving, Talking, Cause, opening, to_hello, to_proof, rows_offered, exchange_with, hello_read, proof_read, seen_as, message_spelling, session, ends_as, Offering}
use Rattle.session_rules.proofs.Runs.{move_of, run_append}
use Rattle.session_rules.proofs.Growing.{says_of, rows_of}
use Rattle.session_rules.proofs.Spelled.{read_due}
use Rattle.session_rules.proofs.Shifting.{shift_stand, shift, shift-read}
use Rattle.session_rules.proofs.Talking.{map-append, lift_stand, lift, talking}

-- ---- the two messages

read_as : {A M : Type 0} (f : A → M) (sees : List ℕ → Seen A) (bytes : List ℕ) (x : A) → IsReadAs sees bytes x → IsReadAs (λ all. seen_as f (sees all)) bytes (f x)
read_as f sees bytes x is = record {
  some_bytes = is.some_bytes;
  whole = ap (seen_as f) is.whole;
  part = λ held due e some more. ap (seen_as f) (is.part held due e some more);
}

flat_map-map : {A B C : Type 0} (f : A → B) (spell : B → List C) (xs : List A) → flat_map spell (map f xs) ≡ flat_map (λ x. spell (f x)) xs
flat_map-map f spell [] = refl
flat_map-map f spell (x ∷ xs) = ap (λ rest. spell (f x) ++ rest) (flat_map-map f spell xs)

module _ {H P A F R T I G : Type 0} (g : Greeting H P A F) (k : Talk R A T I G) (own : Own H P) (offers : Offering A R) where
  abbrev here : Machine (Stage H T) (Message H P I) (Message H P I) R (Cause F G)
  here = session g k own offers

  -- what a side says to a greeting, and then
  greeting_said : (role : Role) (first later : List I)
      → opening role own ++ (to_hello role own ++ ((to_proof role own ++ map Item first) ++ map Item later)) ≡ Hello own.hello ∷ Proof own.proof ∷ map Item (first ++ later)
  greeting_said Caller first later = ap (λ items. Hello own.hello ∷ Proof own.proof ∷ items) (sym (map-append Item first later))
  greeting_said Answerer first later = ap (λ items. Hello own.hello ∷ Proof own.proof ∷ items) (sym (map-append Item first later))

  spelled : (items : List I) → flat_map (message_spelling g k) (Hello own.hello ∷ Proof own.proof ∷ map Item items) ≡ greeting_bytes g own.hello own.proof ++ flat_map k.spelling items
  spelled items =
      ap (λ rest. g.hello_spelling own.hello ++ (g.proof_spelling own.proof ++ rest)) (flat_map-map Item (message_spelling g k) items)
      ∙ sym (append_assoc (g.hello_spelling own.hello) (g.proof_spelling own.proof) (flat_map k.spelling items))

  module _ (hello : H) (proof : P) (greets : Greets g own hello proof) (bytes : List ℕ) where
    abbrev with_other : Machine T I I R G
    with_other = exchange_with g k own offers hello

    abbrev length_of_greeting : ℕ
    length_of_greeting = length (greeting_bytes g hello proof)

    -- what comes of the hello, and of the proof
    abbrev to_first : Move (Stage H T) (Message H P I) R (Cause F G)
    to_first = move_of (Waits (Proving hello) (length (g.hello_spelling hello)) []) (to_hello own.role own) []

    abbrev to_second : ℕ → Move (Stage H T) (Message H P I) R (Cause F G)
    to_second n = move_of (Waits (Talking with_other.first) n []) (to_proof own.role own ++ map Item with_other.opening) []

    pub hello_whole : read here (start here) (g.hello_spelling hello) ≡ to_first
    hello_whole =
        read_due here Opening 0 (Hello hello) (g.hello_spelling hello) (read_as Hello g.sees_hello (g.hello_spelling hello) hello greets.hello_read) [] (g.hello_spelling hello) refl greets.hello_read.some_bytes
        ∙ ap (λ n. stepped n (here.step Opening (Hello hello))) (zero-add (length (g.hello_spelling hello)))
        ∙ ap (λ refusal. stepped (length (g.hello_spelling hello)) (hello_read own hello refusal)) greets.hello_passes

    proof_whole : (at : ℕ) → read here (Waits (Proving hello) at []) (g.proof_spelling proof) ≡ to_second (at + length (g.proof_spelling proof))
    proof_whole at =
        read_due here (Proving hello) at (Proof proof) (g.proof_spelling proof) (read_as Proof g.sees_proof (g.proof_spelling proof) proof greets.proof_read) [] (g.proof_spelling proof) refl greets.proof_read.some_bytes
        ∙ ap (λ refusal. stepped (at + length (g.proof_spelling proof)) (proof_read own with_other refusal)) greets.proof_passes

    exchanged : (n : ℕ) → read here (Waits (Talking with_other.first) (n + 0) []) bytes ≡ lift H P T I R F G (shift n (read with_other (start with_other) bytes))
    exchanged n =
        talking g k own offers own.role (rows_offered g own offers hello) (agreed_with g own hello) (Waits with_other.first (n + 0) []) bytes
        ∙ ap (lift H P T I R F G) (shift-read with_other n (start with_other) bytes)

    -- all of it
    abbrev behind : Move (Stage H T) (Message H P I) R (Cause F G)
    behind = lift H P T I R F G (shift length_of_greeting (read with_other (start with_other) bytes))

    all_read : read here (start here) (greeting_bytes g hello proof ++ bytes) ≡ then to_first (then (to_second length_of_greeting) behind)
    all_read =
        let first = g.hello_spelling hello in
        let second = g.proof_spelling proof in
        let n : length first + length second ≡ length_of_greeting = sym (length-append first second) in
        let none : length_of_greeting ≡ length_of_greeting + 0 = omega arith in
        ap (read here (start here)) (append_assoc first second bytes)
        ∙ run_append (move here) (start here) first (second ++ bytes)
        ∙ ap (λ m. then m (read here m.stand (second ++ bytes))) hello_whole
        ∙ ap (then to_first) (
        run_append (move here) to_first.stand second bytes
        ∙ ap (λ m. then m (read here m.stand bytes)) (proof_whole (length first) ∙ ap to_second n)
        ∙ ap (λ at. then (to_second length_of_greeting) (read here (Waits (Talking with_other.first) at []) bytes)) none
        ∙ ap (then (to_second length_of_greeting)) (exchanged length_of_greeting)
        )

    pub out_is_exchange : out here (greeting_bytes g hello proof ++ bytes) ≡ greeting_bytes g own.hello own.proof ++ out with_other bytes
    out_is_exchange =
        ap (λ m. flat_map (message_spelling g k) (opening own.role own ++ says_of m)) all_read
        ∙ ap (flat_map (message_spelling g k)) (greeting_said own.role with_other.opening (read with_other (start with_other) bytes).says)
        ∙ spelled (with_other.opening ++ (read with_other (start with_other) bytes).says)

    pub got_is_exchange : got here (greeting_bytes g hello proof ++ bytes) ≡ got with_other bytes
    got_is_exchange = ap rows_of all_read

    shifted_end : (q : Stand T G) → ending_of (lift_stand H P T I R F G (shift_stand length_of_greeting q)) ≡ ends_as length_of_greeting (ending_of q)
    shifted_end (Waits t at held) = refl
    shifted_end Over = refl
    shifted_end (Broken at) = refl
    shifted_end (Refused cause) = refl

    pub ending_is_exchange : ending here (greeting_bytes g hello proof ++ bytes) ≡ ends_as length_of_greeting (ending with_other bytes)
    ending_is_exchange = ap (λ m. ending_of m.stand) all_read ∙ shifted_end (read with_other (start with_other) bytes).stand
