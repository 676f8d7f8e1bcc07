-- How many counted items a session says and reads behind a greeting that passes.
use Rattle.std.proofs.Common.{◌≡◌, ℕ, ◌+◌, ◌≤◌, List, [], ◌∷◌, ◌++◌, map, length, flat_map, append_assoc, sym, refl, ap, ◌∙◌, subst, arith}
use Rattle.willow_entry.specs.Row.{RowValue}
use Rattle.mc_cap.specs.Signature.{signature_spelling}
use Rattle.session_end.specs.declared.refusal.HelloRefusal.{HelloRefusal}
use Rattle.sync_msg.specs.Items.{ItemValue, item_spelling}
use Rattle.sync_msg.specs.declared.refusal.CoreRefusal.{CoreRefusal}
use Rattle.sync_hello.specs.HelloForm.{hello_spelling}
use Rattle.sync_hello.specs.declared.hello.Hello.{Hello}
use Rattle.sync_core.specs.Held.{to_count}
use Rattle.sync_core.specs.Place.{Place}
use Rattle.sync_core.specs.Steps.{count_one}
use Rattle.sync_core.proofs.Owing.{to_count-append}
use Rattle.session_rules.specs.Machine.{Machine, Seen, Step, Goes, Ends, Refuses}
use Rattle.session_rules.specs.Reading as reading
use Rattle.session_rules.specs.Reading.{Stand, Waits, Over, Broken, Refused, Move, stay, stepped, move, run, read, start}
use Rattle.session_rules.specs.Messages.{IsReadAs, taken, CanReadAll, hear, tells}
use Rattle.session_rules.specs.Talk.{Role, Caller, Answerer, item_heard}
use Rattle.session_rules.specs.Greeting.{Greeting, agreed_with, Greets, greeting_bytes}
use Rattle.session_rules.specs.Session.{Proving, Talking, Hello as HelloMessage, Proof, Item, opening, to_hello, to_proof, rows_offered, exchange_with, hello_read, proof_read, item_read, seen_as, message_spelling, InTalk}
use Rattle.session_rules.proofs.Runs.{move_of, run_append}
use Rattle.session_rules.proofs.Growing.{says_of}
use Rattle.session_rules.proofs.Greeted.{hello_whole}
use Rattle.session_rules.proofs.Shifting.{shift-read}
use Rattle.session_rules.proofs.Spelled.{read_due, read_messages, got_is}
use Rattle.session_rules.proofs.Talking.{talking}
use Rattle.sync_link.specs.Greetings.{Agreement, greeting}
use Rattle.sync_link.specs.Places.{offers_of, places}
use Rattle.sync_link.specs.Sessions.{Party, SessionStage, SessionMessage, SessionCause, own_part, session_of, said}
use Rattle.sync_link.specs.Progress.{heard, counted, noted, noting}
use Rattle.sync_link.proofs.ReadOn.{counted-append}

read_as : {A M : Type 0} (f : A → M) (sees : List ℕ → Seen A) (bytes : List ℕ) (x : A) → IsReadAs sees bytes x → IsReadAs (λ all. seen_as f (sees all)) bytes (f x)
read_as f sees bytes x is = record {
  some_bytes = is.some_bytes;
  whole = ap (seen_as f) is.whole;
  part = λ held due e some more. ap (seen_as f) (is.part held due e some more);
}

-- a hello, a proof and an item as messages
abbrev hello_message : Hello → SessionMessage
hello_message hello = HelloMessage hello

abbrev proof_message : List ℕ → SessionMessage
proof_message proof = Proof proof

abbrev item_message : ItemValue → SessionMessage
item_message item = Item item

-- items as messages count as items do
counted_items : (items : List ItemValue) → counted (map Item items) ≡ to_count items
counted_items [] = refl
counted_items (item ∷ items) = ap (λ n. count_one item + n) (counted_items items)

-- what is read of some messages counts no more than they do
module _ (a : Machine SessionStage SessionMessage SessionMessage RowValue SessionCause) (spelling : SessionMessage → List ℕ) where
  noted_few : (at : ℕ) (m : SessionMessage) (step : Step SessionStage SessionMessage RowValue SessionCause) → counted (stepped at (noted m step)).rows ≤ counted (m ∷ [])
  noted_few at m (Goes s says rows) = omega arith
  noted_few at m (Ends says rows) = omega arith
  noted_few at m (Refuses e) = omega arith

  taken_few : (q : Stand SessionStage SessionCause) (m : SessionMessage) → counted (taken (noting a) spelling q m).rows ≤ counted (m ∷ [])
  taken_few (Waits s at held) m = noted_few (at + length (spelling m)) m (a.step s m)
  taken_few Over m = omega arith
  taken_few (Broken at) m = omega arith
  taken_few (Refused e) m = omega arith

  heard_few : (q : Stand SessionStage SessionCause) (ms : List SessionMessage) → counted (run (taken (noting a) spelling) q ms).rows ≤ counted ms
  unfolding run
  heard_few q [] = omega arith
  heard_few q (m ∷ ms) =
      let one = taken (noting a) spelling q m in
      omega (arith, counted-append one.rows (run (taken (noting a) spelling) one.stand ms).rows, counted-append (m ∷ []) ms, taken_few q m, heard_few one.stand ms)

module _ (p : Party) (rows : List RowValue) (hello : Hello) (proof : List ℕ) (greets : Greets (greeting p.rules p.namespace) (own_part p) hello proof) where
  abbrev rules : Greeting Hello (List ℕ) Agreement HelloRefusal
  rules = greeting p.rules p.namespace

  abbrev here : Machine SessionStage SessionMessage SessionMessage RowValue SessionCause
  here = session_of p rows

  -- the exchange behind the greeting
  abbrev pub talks : Machine Place ItemValue ItemValue RowValue CoreRefusal
  talks = exchange_with rules places (own_part p) (offers_of p.interest rows) hello

  abbrev first_bytes : List ℕ
  first_bytes = hello_spelling hello

  abbrev second_bytes : List ℕ
  second_bytes = signature_spelling proof

  -- ---- what is said

  abbrev AMove : Type 0
  AMove = Move SessionStage SessionMessage RowValue SessionCause

  abbrev to_first : AMove
  to_first = move_of (Waits (Proving hello) (length first_bytes) []) (to_hello (own_part p).role (own_part p)) []

  abbrev to_second : ℕ → AMove
  to_second n = move_of (Waits (Talking talks.first) n []) (to_proof (own_part p).role (own_part p) ++ map Item talks.opening) []

  proof_whole : (at : ℕ) → read here (Waits (Proving hello) at []) second_bytes ≡ to_second (at + length second_bytes)
  proof_whole at =
      read_due here (Proving hello) at (Proof proof) second_bytes (read_as Proof rules.sees_proof second_bytes proof greets.proof_read) [] second_bytes refl greets.proof_read.some_bytes
      ∙ ap (λ refusal. stepped (at + length second_bytes) (proof_read (own_part p) talks refusal)) greets.proof_passes

  talked : (at : ℕ) (bytes : List ℕ) → (read here (Waits (Talking talks.first) (at + 0) []) bytes).says ≡ map Item (read talks (start talks) bytes).says
  talked at bytes =
      ap says_of (talking rules places (own_part p) (offers_of p.interest rows) (own_part p).role (rows_offered rules (own_part p) (offers_of p.interest rows) hello) (agreed_with rules (own_part p) hello) (Waits talks.first (at + 0) []) bytes)
      ∙ ap (λ (m : Move Place ItemValue RowValue CoreRefusal). map Item m.says) (shift-read talks at (start talks) bytes)

  abbrev says_all : List ℕ → List SessionMessage
  says_all bytes = to_hello (own_part p).role (own_part p) ++ ((to_proof (own_part p).role (own_part p) ++ map Item talks.opening) ++ map Item (read talks (start talks) bytes).says)

  read_says : (bytes : List ℕ) → (read here (start here) (greeting_bytes rules hello proof ++ bytes)).says ≡ says_all bytes
  read_says bytes =
      let n = length first_bytes + length second_bytes in
      let none : n ≡ n + 0 = omega arith in
      ap (λ l. (read here (start here) l).says) (append_assoc first_bytes second_bytes bytes)
      ∙ ap says_of (run_append (move here) (start here) first_bytes (second_bytes ++ bytes))
      ∙ ap (λ (m : AMove). m.says ++ (read here m.stand (second_bytes ++ bytes)).says) (hello_whole rules places (own_part p) (offers_of p.interest rows) hello proof greets [])
      ∙ ap (λ l. to_first.says ++ l) (
      ap says_of (run_append (move here) to_first.stand second_bytes bytes)
      ∙ ap (λ (m : AMove). m.says ++ (read here m.stand bytes).says) (proof_whole (length first_bytes))
      ∙ ap (λ at. (to_second n).says ++ (read here (Waits (Talking talks.first) at []) bytes).says) none
      ∙ ap (λ l. (to_second n).says ++ l) (talked n bytes)
      )

  none_counts : (role : Role) → (counted (opening role (own_part p)) ≡ 0) × (counted (to_hello role (own_part p)) ≡ 0) × (counted (to_proof role (own_part p)) ≡ 0)
  none_counts Caller = (refl, refl, refl)
  none_counts Answerer = (refl, refl, refl)

  -- the items that are said count, and nothing else
  pub said_count : (bytes : List ℕ) → counted (said p rows (greeting_bytes rules hello proof ++ bytes)) ≡ to_count (reading.said talks bytes)
  said_count bytes =
      let role = (own_part p).role in
      let none = none_counts role in
      let later = (read talks (start talks) bytes).says in
      let behind = (to_proof role (own_part p) ++ map Item talks.opening) ++ map Item later in
      ap (λ l. counted (opening role (own_part p) ++ l)) (read_says bytes)
      ∙ omega (
        arith,
        counted-append (opening role (own_part p)) (to_hello role (own_part p) ++ behind),
        counted-append (to_hello role (own_part p)) behind,
        counted-append (to_proof role (own_part p) ++ map Item talks.opening) (map Item later),
        counted-append (to_proof role (own_part p)) (map Item talks.opening),
        counted_items talks.opening,
        counted_items later,
        to_count-append talks.opening later,
        none.0,
        none.1,
        none.2,
      )

  -- ---- what is read

  abbrev notes : Machine SessionStage SessionMessage SessionMessage SessionMessage SessionCause
  notes = noting here

  abbrev spell : SessionMessage → List ℕ
  spell = message_spelling rules places

  idle_reads : (q : Stand SessionStage SessionCause) → ((m : SessionMessage) → taken notes spell q m ≡ stay q) → ((m : SessionMessage) → CanReadAll notes spell q (m ∷ [])) → (ms : List SessionMessage) → CanReadAll notes spell q ms
  idle_reads q idle one [] = tt
  idle_reads q idle one (m ∷ ms) = ((one m).0, subst (λ (k : Move SessionStage SessionMessage SessionMessage SessionCause). CanReadAll notes spell k.stand ms) (sym (idle m)) (idle_reads q idle one ms))

  -- what is read in front of an item that the exchange reads
  step_reads : (at at' : ℕ) (item : ItemValue) (items : List ItemValue) (step : Step Place ItemValue RowValue CoreRefusal)
      → ((t : Place) → CanReadAll talks item_spelling (Waits t at []) items → CanReadAll notes spell (Waits (Talking t) at' []) (map Item items))
      → CanReadAll talks item_spelling (stepped at step).stand items
      → CanReadAll notes spell (stepped at' (noted (item_message item) (item_read {H = Hello} {P = List ℕ} {F = HelloRefusal} step))).stand (map Item items)
  step_reads at at' item items (Goes t says taken_rows) goes can = goes t can
  step_reads at at' item items (Ends says taken_rows) goes can = idle_reads Over (λ m. refl) (λ m. (tt, tt)) (map Item items)
  step_reads at at' item items (Refuses cause) goes can = idle_reads (Refused (InTalk cause)) (λ m. refl) (λ m. (tt, tt)) (map Item items)

  items_read : (t : Place) (at at' : ℕ) (items : List ItemValue) → CanReadAll talks item_spelling (Waits t at []) items → CanReadAll notes spell (Waits (Talking t) at' []) (map Item items)
  items_read t at at' [] can = tt
  items_read t at at' (item ∷ items) can = (
    read_as Item (places.sees t) (item_spelling item) item can.0,
    step_reads (at + length (item_spelling item)) (at' + length (item_spelling item)) item items (item_heard places item (places.heard t item))
        (λ next. items_read next (at + length (item_spelling item)) (at' + length (item_spelling item)) items) can.1,
  )

  abbrev all_messages : List ItemValue → List SessionMessage
  all_messages items = HelloMessage hello ∷ Proof proof ∷ map Item items

  all_read : (items : List ItemValue) → CanReadAll talks item_spelling (start talks) items → CanReadAll notes spell (start notes) (all_messages items)
  all_read items can =
      let rest = map Item items in
      let n = 0 + length first_bytes in
      let m = n + length second_bytes in
      let at_hello : (stepped n (noted (hello_message hello) (hello_read {T = Place} {I = ItemValue} {R = RowValue} {G = CoreRefusal} (own_part p) hello (rules.hello_refusal hello)))).stand ≡ Waits (Proving hello) n [] =
      ap (λ refusal. (stepped n (noted (hello_message hello) (hello_read {T = Place} {I = ItemValue} {R = RowValue} {G = CoreRefusal} (own_part p) hello refusal))).stand) greets.hello_passes in
      let at_proof : (taken notes spell (Waits (Proving hello) n []) (Proof proof)).stand ≡ Waits (Talking talks.first) m [] =
      ap (λ refusal. (stepped m (noted (proof_message proof) (proof_read (own_part p) talks refusal))).stand) greets.proof_passes in
      let behind : CanReadAll notes spell (Waits (Proving hello) n []) (Proof proof ∷ rest) = (
        read_as Proof rules.sees_proof second_bytes proof greets.proof_read,
        subst (λ q. CanReadAll notes spell q rest) (sym at_proof) (items_read talks.first 0 m items can),
      ) in
      (read_as HelloMessage rules.sees_hello first_bytes hello greets.hello_read, subst (λ q. CanReadAll notes spell q (Proof proof ∷ rest)) (sym at_hello) behind)

  items_spelled : (items : List ItemValue) → flat_map spell (map Item items) ≡ flat_map item_spelling items
  items_spelled [] = refl
  items_spelled (item ∷ items) = ap (λ l. item_spelling item ++ l) (items_spelled items)

  spelled : (items : List ItemValue) → flat_map spell (all_messages items) ≡ greeting_bytes rules hello proof ++ flat_map item_spelling items
  spelled items =
      ap (λ l. first_bytes ++ (second_bytes ++ l)) (items_spelled items)
      ∙ sym (append_assoc first_bytes second_bytes (flat_map item_spelling items))

  pub heard_count : (items : List ItemValue) → CanReadAll talks item_spelling (start talks) items
      → counted (heard p rows (greeting_bytes rules hello proof ++ flat_map item_spelling items)) ≤ to_count items
  heard_count items can =
      let ms = all_messages items in
      let is : heard p rows (greeting_bytes rules hello proof ++ flat_map item_spelling items) ≡ (hear notes spell ms).rows =
      ap (heard p rows) (sym (spelled items)) ∙ got_is notes spell ms (all_read items can) in
      omega (arith, ap counted is, heard_few here spell (start notes) ms, counted_items items)

  -- ---- both

  pub said_items : (items : List ItemValue) → CanReadAll talks item_spelling (start talks) items
      → counted (said p rows (greeting_bytes rules hello proof ++ flat_map item_spelling items)) ≡ to_count (tells talks item_spelling items)
  said_items items can =
      said_count (flat_map item_spelling items)
      ∙ ap (λ (m : Move Place ItemValue RowValue CoreRefusal). to_count (talks.opening ++ m.says)) (read_messages talks item_spelling talks.first 0 items can)
