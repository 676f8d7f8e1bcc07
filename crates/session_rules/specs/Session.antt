-- A session of one side: it greets the other, and then they exchange the rows that they offer each other.
use Rattle.std.specs.Prelude.{◌≡◌, ℕ, ◌+◌, List, [], ◌∷◌, ◌++◌, map, filter_map, Option, None, Some}
use Rattle.session_rules.specs.Machine.{Seen, Whole, Part, Wrong, Step, Goes, Ends, Refuses, Machine}
use Rattle.session_rules.specs.Reading.{Ending, Done, More, BadMessage, Refusal}
use Rattle.session_rules.specs.Talk.{Role, Caller, Answerer, Talk, talk, item_heard}
use Rattle.session_rules.specs.Greeting.{Greeting, Own, other_refusal, agreed_with, HasHello}

-- what is read and said
pub data Message (H P I : Type 0) : Type 0 where
  Hello : H → Message H P I
  Proof : P → Message H P I
  Item : I → Message H P I

-- what is due: the other side's hello; its proof, with its hello; or items, with the own place in the exchange
pub data Stage (H T : Type 0) : Type 0 where
  Opening : Stage H T
  Proving : H → Stage H T
  Talking : T → Stage H T

-- why a message is refused: as a hello or proof, or as an item
pub data Cause (F G : Type 0) : Type 0 where
  InGreeting : F → Cause F G
  InTalk : G → Cause F G

-- ---- what is said

-- before anything is read: the caller's hello
abbrev pub opening : {H P I : Type 0} → Role → Own H P → List (Message H P I)
opening Caller own = Hello own.hello ∷ []
opening Answerer own = []

-- to a hello that passes: the answerer's hello and proof
abbrev pub to_hello : {H P I : Type 0} → Role → Own H P → List (Message H P I)
to_hello Caller own = []
to_hello Answerer own = Hello own.hello ∷ Proof own.proof ∷ []

-- to a proof that is accepted: the caller's proof
abbrev pub to_proof : {H P I : Type 0} → Role → Own H P → List (Message H P I)
to_proof Caller own = Proof own.proof ∷ []
to_proof Answerer own = []

-- ---- what comes of a message

-- what a side offers: rows, by what it agreed on with the other
abbrev pub Offering : Type 0 → Type 0 → Type 0
Offering A R = A → List R

-- what it offers to a side that said this hello
abbrev pub rows_offered : {H P A F R : Type 0} → Greeting H P A F → Own H P → Offering A R → H → List R
rows_offered g own offers hello = offers (agreed_with g own hello)

-- the exchange with a side that said this hello: it begins over these rows alone
abbrev pub exchange_with : {H P A F R T I G : Type 0} → Greeting H P A F → Talk R A T I G → Own H P → Offering A R → H → Machine T I I R G
exchange_with g k own offers hello = talk k own.role (rows_offered g own offers hello) (agreed_with g own hello)

-- a hello, by why it is refused, if it is
abbrev pub hello_read : {H P T I R F G : Type 0} → Own H P → H → Option F → Step (Stage H T) (Message H P I) R (Cause F G)
hello_read own hello (Some cause) = Refuses (InGreeting cause)
hello_read own hello None = Goes (Proving hello) (to_hello own.role own) []

-- a proof, by why it is refused, if it is, and the exchange that is due behind it
abbrev pub proof_read : {H P T I R F G : Type 0} → Own H P → Machine T I I R G → Option F → Step (Stage H T) (Message H P I) R (Cause F G)
proof_read own exchange (Some cause) = Refuses (InGreeting cause)
proof_read own exchange None = Goes (Talking exchange.first) (to_proof own.role own ++ map Item exchange.opening) []

-- an item, by what comes of it in the exchange
abbrev pub item_read : {H P T I R F G : Type 0} → Step T I R G → Step (Stage H T) (Message H P I) R (Cause F G)
item_read (Goes t items rows) = Goes (Talking t) (map Item items) rows
item_read (Ends items rows) = Ends (map Item items) rows
item_read (Refuses cause) = Refuses (InTalk cause)

-- what comes of a message at each stage; its reader reads no other there
abbrev pub session_step : {H P A F R T I G : Type 0} → Greeting H P A F → Talk R A T I G → Own H P → Offering A R → Stage H T → Message H P I → Step (Stage H T) (Message H P I) R (Cause F G)
session_step g k own offers Opening (Hello hello) = hello_read own hello (g.hello_refusal hello)
session_step g k own offers (Proving hello) (Proof proof) = proof_read own (exchange_with g k own offers hello) (other_refusal g own hello proof)
session_step g k own offers (Talking t) (Item item) = item_read (item_heard k item (k.heard t item))
session_step g k own offers stage other = Goes stage [] []

-- ---- bytes

-- the same, as messages of a kind
abbrev pub seen_as : {A M : Type 0} → (A → M) → Seen A → Seen M
seen_as f (Whole x) = Whole (f x)
seen_as f Part = Part
seen_as f Wrong = Wrong

-- at each stage just the messages that are due there are read
abbrev pub session_sees : {H P A F R T I G : Type 0} → Greeting H P A F → Talk R A T I G → Stage H T → List ℕ → Seen (Message H P I)
session_sees g k Opening bytes = seen_as Hello (g.sees_hello bytes)
session_sees g k (Proving hello) bytes = seen_as Proof (g.sees_proof bytes)
session_sees g k (Talking t) bytes = seen_as Item (k.sees t bytes)

-- the bytes of a message
abbrev pub message_spelling : {H P A F R T I G : Type 0} → Greeting H P A F → Talk R A T I G → Message H P I → List ℕ
message_spelling g k (Hello hello) = g.hello_spelling hello
message_spelling g k (Proof proof) = g.proof_spelling proof
message_spelling g k (Item item) = k.spelling item

-- the session of a side that offers this
abbrev pub session : {H P A F R T I G : Type 0} → Greeting H P A F → Talk R A T I G → Own H P → Offering A R → Machine (Stage H T) (Message H P I) (Message H P I) R (Cause F G)
session g k own offers = record {
  opening = opening own.role own;
  first = Opening;
  sees = session_sees g k;
  step = session_step g k own offers;
  spelling = message_spelling g k;
}

-- ---- the rows that are told

-- the row of a message, if it is one
abbrev pub row_of_message : {H P R A T I G : Type 0} → Talk R A T I G → Message H P I → Option R
row_of_message k (Hello hello) = None
row_of_message k (Proof proof) = None
row_of_message k (Item item) = k.row_in item

-- the rows that stand in what a side says, in order
abbrev pub message_rows : {H P R A T I G : Type 0} → Talk R A T I G → List (Message H P I) → List R
message_rows k messages = filter_map (row_of_message k) messages

-- ---- two worlds

-- by whatever hello passes in front of the bytes, two sides offer the same rows
abbrev pub OfferSame : {H P A F R : Type 0} → Greeting H P A F → Own H P → List ℕ → Offering A R → Offering A R → Type 0
OfferSame {H} g own bytes offers others =
    (hello : H) → HasHello g bytes hello → rows_offered g own offers hello ≡ rows_offered g own others hello

-- ---- another proof

-- the same own part but for its proof
abbrev pub with_proof : {H P : Type 0} → P → Own H P → Own H P
with_proof proof own = record own { proof = proof }

-- the same message, but that each proof is this one
abbrev pub retold : {H P I : Type 0} → P → Message H P I → Message H P I
retold proof (Hello hello) = Hello hello
retold proof (Proof other) = Proof proof
retold proof (Item item) = Item item

-- ---- behind the greeting

-- how the session ends where the exchange does so, which begins at an offset
abbrev pub ends_as : {F G : Type 0} → ℕ → Ending G → Ending (Cause F G)
ends_as at Done = Done
ends_as at More = More
ends_as at (BadMessage behind) = BadMessage (at + behind)
ends_as at (Refusal cause) = Refusal (InTalk cause)
