-- A session by its first two messages: what it grants, and in two worlds.
use Rattle.std.proofs.Common.{◌≡◌, ◌⊎◌, inl, inr, ℕ, ◌+◌, ◌≤◌, Bool, List, [], ◌∷◌, ◌++◌, map, filter_map, count_by, length, Contains, Option, None, Some, add-zero, append_assoc, sym, refl, ap, ◌∙◌, subst, ⊎_elim}
use Rattle.std.specs.List.{cons_option}
use Rattle.std.proofs.lemmas.List.Elements.{Contains-append_cases, Contains-append_left, Contains-append_right, Contains-push, filter_map-append}
use Rattle.session_rules.specs.Machine.{Whole, Machine}
use Rattle.session_rules.specs.Reading.{Stand, Waits, Broken, Refused, Move, stay, then, stepped, move, read, start, said, got}
use Rattle.session_rules.specs.Talk.{Role, Caller, Answerer, Talk, TellsNoMore}
use Rattle.session_rules.specs.Greeting.{Greeting, Own, other_refusal, agreed_with, HasHello, IsGreeted}
use Rattle.session_rules.specs.Session.{Message, Hello, Proof, Item, Stage, Opening, Proving, Talking, Cause, InGreeting, opening, to_hello, to_proof, rows_offered, exchange_with, hello_read, proof_read, session, row_of_message, message_rows, Offering}
use Rattle.session_rules.proofs.Members.{none_in, in_one}
use Rattle.session_rules.proofs.Runs.{run_idle}
use Rattle.session_rules.proofs.Firsts.{First, Found, Unfinished, Bad, first_of, IsFirst, first_is, first_as, first_of-as, by_first, read_first}
use Rattle.session_rules.proofs.Growing.{says_of}
use Rattle.session_rules.proofs.Shifting.{shift, shift-read}
use Rattle.session_rules.proofs.Talking.{map-append, lift, talking}

-- ---- messages of other kinds

hello-no_item : {H P I : Type 0} (hello : H) (item : I) → ◌≡◌ {A = Message H P I} (Hello hello) (Item item) → ⊥
hello-no_item hello item e = cc

hello-no_proof : {H P I : Type 0} (hello : H) (proof : P) → ◌≡◌ {A = Message H P I} (Hello hello) (Proof proof) → ⊥
hello-no_proof hello proof e = cc

proof-no_item : {H P I : Type 0} (proof : P) (item : I) → ◌≡◌ {A = Message H P I} (Proof proof) (Item item) → ⊥
proof-no_item proof item e = cc

no_nothing : {A : Type 0} (x : A) (xs : List A) → [] ≡ x ∷ xs → ⊥
no_nothing x xs e = cc

module _ {H P I : Type 0} (own : Own H P) where
  no_item_in_opening : (role : Role) (item : I) → Contains (opening role own) (Item item) → ⊥
  no_item_in_opening Caller item c = hello-no_item own.hello item (in_one (Hello own.hello) (Item item) c)
  no_item_in_opening Answerer item c = none_in (Item item) c

  no_proof_in_opening : (role : Role) (proof : P) → Contains {X = Message H P I} (opening role own) (Proof proof) → ⊥
  no_proof_in_opening Caller proof c = hello-no_proof own.hello proof (in_one (Hello own.hello) (Proof proof) c)
  no_proof_in_opening Answerer proof c = none_in (Proof proof) c

  no_item_to_hello : (role : Role) (item : I) → Contains (to_hello role own) (Item item) → ⊥
  no_item_to_hello Caller item c = none_in (Item item) c
  no_item_to_hello Answerer item c =
      ⊎_elim
      (λ first. hello-no_item own.hello item (in_one (Hello own.hello) (Item item) first))
      (λ second. proof-no_item own.proof item (in_one (Proof own.proof) (Item item) second))
      (Contains-append_cases (Hello own.hello ∷ []) (Proof own.proof ∷ []) (Item item) c)

  no_item_to_proof : (role : Role) (item : I) → Contains (to_proof role own) (Item item) → ⊥
  no_item_to_proof Caller item c = proof-no_item own.proof item (in_one (Proof own.proof) (Item item) c)
  no_item_to_proof Answerer item c = none_in (Item item) c

same_item : {H P I : Type 0} (x y : I) → ◌≡◌ {A = Message H P I} (Item x) (Item y) → x ≡ y
same_item x y e = cc

in_mapped : {H P I : Type 0} (items : List I) (item : I) → Contains {X = Message H P I} (map Item items) (Item item) → Contains items item
in_mapped [] item c = absurd (none_in (Item item) c)
in_mapped (x ∷ items) item c =
    ⊎_elim
    (λ first. Contains-append_left (x ∷ []) items item (subst (λ y. Contains (x ∷ []) y) (same_item x item (in_one (Item x) (Item item) first)) (Contains-push [] x)))
    (λ second. Contains-append_right (x ∷ []) items item (in_mapped items item second))
    (Contains-append_cases (Item x ∷ []) (map Item items) (Item item) c)

module _ {H P A F R T I G : Type 0} (g : Greeting H P A F) (k : Talk R A T I G) (own : Own H P) (offers : Offering A R) where
  abbrev here : Machine (Stage H T) (Message H P I) (Message H P I) R (Cause F G)
  here = session g k own offers

  pub read_opening : (bytes : List ℕ) → read here (start here) bytes ≡ by_first here Opening 0 (first_as Hello (first_of g.sees_hello [] bytes))
  read_opening bytes = read_first here Opening 0 [] bytes ∙ ap (by_first here Opening 0) (first_of-as Hello g.sees_hello [] bytes)

  pub read_proving : (hello : H) (at : ℕ) (bytes : List ℕ) → read here (Waits (Proving hello) at []) bytes ≡ by_first here (Proving hello) at (first_as Proof (first_of g.sees_proof [] bytes))
  read_proving hello at bytes = read_first here (Proving hello) at [] bytes ∙ ap (by_first here (Proving hello) at) (first_of-as Proof g.sees_proof [] bytes)

  -- nothing comes of bytes behind a refusal
  refused_idle : (cause : Cause F G) (bytes : List ℕ) → then (stay (Refused cause)) (read here (Refused cause) bytes) ≡ stay (Refused cause)
  refused_idle cause bytes = ap (then (stay (Refused cause))) (run_idle (move here) (Refused cause) (λ byte. refl) bytes)

  -- ---- what comes of no refusal and of nothing read

  abbrev AMove : Type 0
  AMove = Move (Stage H T) (Message H P I) R (Cause F G)

  -- an accepted proof stands in front of the bytes
  abbrev HasProof : (H → List ℕ → Type 0) → H → List ℕ → Type 0
  HasProof Then hello bytes =
      (proof : P) × (proof_bytes : List ℕ) × (behind : List ℕ) × (g.sees_proof proof_bytes ≡ Whole proof) × (bytes ≡ proof_bytes ++ behind) × (other_refusal g own hello proof ≡ None) × Then hello behind

  module _ (Wanted : AMove → Type 0) (nothing : (q : Stand (Stage H T) (Cause F G)) → Wanted (stay q) → ⊥) where
    not_refused : (cause : Cause F G) (bytes : List ℕ) → Wanted (then (stay (Refused cause)) (read here (Refused cause) bytes)) → ⊥
    not_refused cause bytes wanted = nothing (Refused cause) (subst Wanted (refused_idle cause bytes) wanted)

    module _ (Then : H → List ℕ → Type 0) (hello : H) (at : ℕ)
        (goes_on : (n : ℕ) (rest : List ℕ) → (let m = stepped n (proof_read own (exchange_with g k own offers hello) None) in Wanted (then m (read here m.stand rest))) → Then hello rest) where
      proof_judged : (proof : P) (all message rest : List ℕ) (refusal : Option F) → other_refusal g own hello proof ≡ refusal
          → g.sees_proof message ≡ Whole proof → all ≡ message ++ rest
          → (n : ℕ) → (let m = stepped n (proof_read own (exchange_with g k own offers hello) refusal) in Wanted (then m (read here m.stand rest)))
          → HasProof Then hello all
      proof_judged proof all message rest (Some cause) e is joined n wanted = absurd (not_refused (InGreeting cause) rest wanted)
      proof_judged proof all message rest None e is joined n wanted = (proof, message, rest, is, joined, e, goes_on n rest wanted)

      proof_found : (all : List ℕ) (first : First P) → IsFirst g.sees_proof all first → Wanted (by_first here (Proving hello) at (first_as Proof first)) → HasProof Then hello all
      proof_found all (Found proof message rest) is wanted =
          proof_judged proof all message rest (other_refusal g own hello proof) refl is.0 is.1 (at + length message) wanted
      proof_found all (Unfinished held) is wanted = absurd (nothing (Waits (Proving hello) at held) wanted)
      proof_found all Bad is wanted = absurd (nothing (Broken at) wanted)

      proved : (bytes : List ℕ) → Wanted (read here (Waits (Proving hello) at []) bytes) → HasProof Then hello bytes
      proved bytes wanted =
          proof_found bytes (first_of g.sees_proof [] bytes) (first_is g.sees_proof bytes [] bytes refl) (subst Wanted (read_proving hello at bytes) wanted)

    module _ (Then : H → List ℕ → Type 0)
        (goes_on : (hello : H) (n : ℕ) (rest : List ℕ) → (let m = stepped n (hello_read own hello None) in Wanted (then m (read here m.stand rest))) → Then hello rest) where
      abbrev Opened : List ℕ → Type 0
      Opened bytes = (hello : H) × (greets : HasHello g bytes hello) × Then hello greets.behind

      hello_judged : (hello : H) (all message rest : List ℕ) (refusal : Option F) → g.hello_refusal hello ≡ refusal
          → g.sees_hello message ≡ Whole hello → all ≡ message ++ rest
          → (n : ℕ) → (let m = stepped n (hello_read own hello refusal) in Wanted (then m (read here m.stand rest)))
          → Opened all
      hello_judged hello all message rest (Some cause) e is joined n wanted = absurd (not_refused (InGreeting cause) rest wanted)
      hello_judged hello all message rest None e is joined n wanted =
          (hello, record { hello_bytes = message; behind = rest; joined = joined; is_hello = is; passes = e }, goes_on hello n rest wanted)

      hello_found : (all : List ℕ) (first : First H) → IsFirst g.sees_hello all first → Wanted (by_first here Opening 0 (first_as Hello first)) → Opened all
      hello_found all (Found hello message rest) is wanted =
          hello_judged hello all message rest (g.hello_refusal hello) refl is.0 is.1 (0 + length message) wanted
      hello_found all (Unfinished held) is wanted = absurd (nothing (Waits Opening 0 held) wanted)
      hello_found all Bad is wanted = absurd (nothing (Broken 0) wanted)

      opened : (bytes : List ℕ) → Wanted (read here (start here) bytes) → Opened bytes
      opened bytes wanted =
          hello_found bytes (first_of g.sees_hello [] bytes) (first_is g.sees_hello bytes [] bytes refl) (subst Wanted (read_opening bytes) wanted)

  -- ---- the exchange behind the greeting

  exchange_read : (hello : H) (n : ℕ) (rest : List ℕ) → (let e = exchange_with g k own offers hello in
      read here (Waits (Talking e.first) n []) rest ≡ lift H P T I R F G (shift n (read e (start e) rest)))
  exchange_read hello n rest =
      let e = exchange_with g k own offers hello in
      ap (λ at. read here (Waits (Talking e.first) at []) rest) (sym (add-zero n))
      ∙ talking g k own offers own.role (rows_offered g own offers hello) (agreed_with g own hello) (Waits e.first (n + 0) []) rest
      ∙ ap (lift H P T I R F G) (shift-read e n (start e) rest)

  item_in_exchange : (hello : H) (item : I) (n : ℕ) (rest : List ℕ)
      → (let m = stepped n (proof_read own (exchange_with g k own offers hello) None) in Contains (then m (read here m.stand rest)).says (Item item))
      → Contains (said (exchange_with g k own offers hello) rest) item
  item_in_exchange hello item n rest c =
      let e = exchange_with g k own offers hello in
      let later = (read e (start e) rest).says in
      let told : (to_proof own.role own ++ map Item e.opening) ++ (read here (Waits (Talking e.first) n []) rest).says ≡ to_proof own.role own ++ map Item (e.opening ++ later)
      = ap (λ m. (to_proof own.role own ++ map Item e.opening) ++ says_of m) (exchange_read hello n rest)
      ∙ append_assoc (to_proof own.role own) (map Item e.opening) (map Item later)
      ∙ ap (λ items. to_proof own.role own ++ items) (sym (map-append Item e.opening later)) in
      ⊎_elim (λ first. absurd (no_item_to_proof own own.role item first)) (λ second. in_mapped (e.opening ++ later) item second)
      (Contains-append_cases (to_proof own.role own) (map Item (e.opening ++ later)) (Item item) (subst (λ says. Contains says (Item item)) told c))

  row_in_exchange : (hello : H) (row : R) (n : ℕ) (rest : List ℕ)
      → (let m = stepped n (proof_read own (exchange_with g k own offers hello) None) in Contains (then m (read here m.stand rest)).rows row)
      → Contains (got (exchange_with g k own offers hello) rest) row
  row_in_exchange hello row n rest c = subst (λ m. Contains m.rows row) (exchange_read hello n rest) c

  abbrev GreetedThen : (H → List ℕ → Type 0) → List ℕ → Type 0
  GreetedThen Then bytes = (hello : H) × (greets : HasHello g bytes hello) × HasProof Then hello greets.behind

  greeted : (Then : H → List ℕ → Type 0) (bytes : List ℕ) → GreetedThen Then bytes → (w : IsGreeted g own bytes) × Then w.hello w.behind
  greeted Then bytes w =
      (record { hello = w.0; greets = w.1; proof = w.2.0; proof_bytes = w.2.1; behind = w.2.2; is_proof = w.2.3; joined = w.2.4; proof_passes = w.2.5 }, w.2.6)

  pub items_granted : (bytes : List ℕ) (item : I) → Contains (said here bytes) (Item item)
      → (w : IsGreeted g own bytes) × Contains (said (exchange_with g k own offers w.hello) w.behind) item
  items_granted bytes item c =
      let Wanted : AMove → Type 0 = λ m. Contains m.says (Item item) in
      let Then : H → List ℕ → Type 0 = λ hello rest. Contains (said (exchange_with g k own offers hello) rest) item in
      let nothing : (q : Stand (Stage H T) (Cause F G)) → Wanted (stay q) → ⊥ = λ q wanted. none_in (Item item) wanted in
      let goes_on : (hello : H) (n : ℕ) (rest : List ℕ) → (let m = stepped n (hello_read own hello None) in Wanted (then m (read here m.stand rest))) → HasProof Then hello rest
      = λ hello n rest wanted. proved Wanted nothing Then hello n (item_in_exchange hello item) rest
      (⊎_elim (λ c. absurd (no_item_to_hello own own.role item c)) (λ c. c)
      (Contains-append_cases (to_hello own.role own) (read here (Waits (Proving hello) n []) rest).says (Item item) wanted)) in
      greeted Then bytes (opened Wanted nothing (HasProof Then) goes_on bytes
      (⊎_elim (λ c. absurd (no_item_in_opening own own.role item c)) (λ c. c)
      (Contains-append_cases (opening own.role own) (read here (start here) bytes).says (Item item) c)))

  pub rows_granted : (bytes : List ℕ) (row : R) → Contains (got here bytes) row
      → (w : IsGreeted g own bytes) × Contains (got (exchange_with g k own offers w.hello) w.behind) row
  rows_granted bytes row c =
      let Wanted : AMove → Type 0 = λ m. Contains m.rows row in
      let Then : H → List ℕ → Type 0 = λ hello rest. Contains (got (exchange_with g k own offers hello) rest) row in
      let nothing : (q : Stand (Stage H T) (Cause F G)) → Wanted (stay q) → ⊥ = λ q wanted. none_in row wanted in
      let goes_on : (hello : H) (n : ℕ) (rest : List ℕ) → (let m = stepped n (hello_read own hello None) in Wanted (then m (read here m.stand rest))) → HasProof Then hello rest
      = λ hello n rest wanted. proved Wanted nothing Then hello n (row_in_exchange hello row) rest wanted in
      greeted Then bytes (opened Wanted nothing (HasProof Then) goes_on bytes c)

  pub proofs_granted : (bytes : List ℕ) (proof : P) → Contains (said here bytes) (Proof proof) → (hello : H) × HasHello g bytes hello
  proofs_granted bytes proof c =
      let Wanted : AMove → Type 0 = λ m. Contains m.says (Proof proof) in
      let nothing : (q : Stand (Stage H T) (Cause F G)) → Wanted (stay q) → ⊥ = λ q wanted. none_in (Proof proof) wanted in
      let w = opened Wanted nothing (λ hello rest. Unit {0}) (λ hello n rest wanted. tt) bytes
      (⊎_elim (λ c. absurd (no_proof_in_opening own own.role proof c)) (λ c. c)
      (Contains-append_cases (opening own.role own) (read here (start here) bytes).says (Proof proof) c)) in
      (w.0, w.1)

  -- ---- the rows that are told

  no_row_in_opening : (role : Role) → message_rows k (opening role own) ≡ []
  no_row_in_opening Caller = refl
  no_row_in_opening Answerer = refl

  no_row_to_hello : (role : Role) → message_rows k (to_hello role own) ≡ []
  no_row_to_hello Caller = refl
  no_row_to_hello Answerer = refl

  no_row_to_proof : (role : Role) → message_rows k (to_proof role own) ≡ []
  no_row_to_proof Caller = refl
  no_row_to_proof Answerer = refl

  -- behind messages that tell none
  behind_none : (silent messages : List (Message H P I)) → message_rows k silent ≡ [] → message_rows k (silent ++ messages) ≡ message_rows k messages
  behind_none silent messages none = filter_map-append (row_of_message k) silent messages ∙ ap (λ rows. rows ++ message_rows k messages) none

  rows_of_items : (items : List I) → message_rows {H = H} {P = P} k (map Item items) ≡ filter_map k.row_in items
  rows_of_items [] = refl
  rows_of_items (item ∷ items) = ap (cons_option (k.row_in item)) (rows_of_items items)

  rows_in_exchange : (hello : H) (rows : List R) (n : ℕ) (rest : List ℕ)
      → (let m = stepped n (proof_read own (exchange_with g k own offers hello) None) in message_rows k (then m (read here m.stand rest)).says ≡ rows)
      → filter_map k.row_in (said (exchange_with g k own offers hello) rest) ≡ rows
  rows_in_exchange hello rows n rest told =
      let e = exchange_with g k own offers hello in
      let later = (read e (start e) rest).says in
      let all : (to_proof own.role own ++ map Item e.opening) ++ (read here (Waits (Talking e.first) n []) rest).says ≡ to_proof own.role own ++ map Item (e.opening ++ later)
      = ap (λ m. (to_proof own.role own ++ map Item e.opening) ++ says_of m) (exchange_read hello n rest)
      ∙ append_assoc (to_proof own.role own) (map Item e.opening) (map Item later)
      ∙ ap (λ items. to_proof own.role own ++ items) (sym (map-append Item e.opening later)) in
      sym (rows_of_items (e.opening ++ later)) ∙ sym (behind_none (to_proof own.role own) (map Item (e.opening ++ later)) (no_row_to_proof own.role))
      ∙ sym (ap (message_rows k) all) ∙ told

  -- a side that told rows was greeted, and told those of the exchange
  rows_behind : (bytes : List ℕ) (row : R) (rows : List R) → message_rows k (said here bytes) ≡ row ∷ rows
      → (w : IsGreeted g own bytes) × (filter_map k.row_in (said (exchange_with g k own offers w.hello) w.behind) ≡ row ∷ rows)
  rows_behind bytes row rows told =
      let Wanted : AMove → Type 0 = λ m. message_rows k m.says ≡ row ∷ rows in
      let Then : H → List ℕ → Type 0 = λ hello rest. filter_map k.row_in (said (exchange_with g k own offers hello) rest) ≡ row ∷ rows in
      let nothing : (q : Stand (Stage H T) (Cause F G)) → Wanted (stay q) → ⊥ = λ q wanted. no_nothing row rows wanted in
      let goes_on : (hello : H) (n : ℕ) (rest : List ℕ) → (let m = stepped n (hello_read own hello None) in Wanted (then m (read here m.stand rest))) → HasProof Then hello rest
      = λ hello n rest wanted. proved Wanted nothing Then hello n (rows_in_exchange hello (row ∷ rows)) rest
      (sym (behind_none (to_hello own.role own) (read here (Waits (Proving hello) n []) rest).says (no_row_to_hello own.role)) ∙ wanted) in
      greeted Then bytes (opened Wanted nothing (HasProof Then) goes_on bytes
      (sym (behind_none (opening own.role own) (read here (start here) bytes).says (no_row_in_opening own.role)) ∙ told))

  pub rows_exchanged : (bytes : List ℕ) → (message_rows k (said here bytes) ≡ [])
      ⊎ ((w : IsGreeted g own bytes) × (message_rows k (said here bytes) ≡ filter_map k.row_in (said (exchange_with g k own offers w.hello) w.behind)))
  rows_exchanged bytes = by_rows (message_rows k (said here bytes)) refl
    where
      by_rows : (rows : List R) → message_rows k (said here bytes) ≡ rows → (rows ≡ []) ⊎ ((w : IsGreeted g own bytes) × (rows ≡ filter_map k.row_in (said (exchange_with g k own offers w.hello) w.behind)))
      by_rows [] is = inl refl
      by_rows (row ∷ rows) is =
          let w = rows_behind bytes row rows is in
          inr (w.0, sym w.1)

  pub rows_few : TellsNoMore k → (bytes : List ℕ) → (message_rows k (said here bytes) ≡ [])
      ⊎ ((w : IsGreeted g own bytes) × ((passes : R → Bool) → count_by passes (message_rows k (said here bytes)) ≤ count_by passes (rows_offered g own offers w.hello)))
  rows_few no_more bytes = elim (rows_exchanged bytes) [
    | inl none ↦ inl none
    | inr told ↦ (
        let w = told.0 in
        inr (
          w,
          λ passes. subst (λ rows. count_by passes rows ≤ count_by passes (rows_offered g own offers w.hello)) (sym told.1)
              (no_more own.role (rows_offered g own offers w.hello) (agreed_with g own w.hello) w.behind passes),
        ))
  ]
