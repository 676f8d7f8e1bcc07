-- How a side in memory greets the other.
use Rattle.std.specs.Prelude.{◌≡◌, ◌≢◌, ◌⊎◌, ℕ, Bool, true, List, [], ◌++◌, map, flat_map, Option, None, Some, option_map}
use Rattle.scheme_core.specs.Rules.{Rules}
use Rattle.willow_area.specs.AreaBox.{area_box}
use Rattle.willow_area.specs.Boxes.{Ranges}
use Rattle.willow_area.specs.declared.area.Area.{Area}
use Rattle.willow_entry.specs.Row.{RowValue}
use Rattle.area_interest.specs.declared.interest.Interest.{Interest}
use Rattle.mc_cap.specs.Signature.{signature_spelling}
use Rattle.sync_msg.specs.Items.{item_spelling}
use Rattle.sync_msg.specs.Reader.{at_start}
use Rattle.sync_msg.specs.declared.role.Role.{Role}
use Rattle.sync_msg.specs.declared.role.Role.TheVariants.{Caller, Answerer}
use Rattle.session_end.specs.declared.refusal.HelloRefusal.{HelloRefusal}
use Rattle.sync_hello.specs.Common.{common_area}
use Rattle.sync_hello.specs.HelloForm.{hello_spelling}
use Rattle.sync_hello.specs.Proof.{proof_message, proof_refusal}
use Rattle.sync_hello.specs.Version.{session_version}
use Rattle.sync_hello.specs.declared.hello.Hello.{Hello}
use Rattle.sync_core.specs.Place.{Place, first_place, rows_of_area, stage_of}
use Rattle.sync_core.specs.Runs.{says_all}
use Rattle.sync_core.specs.declared.stage.Stage.TheVariants.{Writing}
use Rattle.session_rules.specs.Reading.{Stand}
use Rattle.sync_link.specs.Sessions.{SessionStage, SessionCause}
use Rattle.sync_link.specs.Places.{of_interest}
use Rattle.sync_link.specs.Sound.{AreSound, IsSound}
use Rattle.sync_link.specs.Standing.{Side, MayBe}
use Rattle.sync_link.specs.declared.side.awaited.Cause.TheVariants as causes
use Rattle.sync_link.specs.declared.side.awaited.Awaited.{Awaited}
use Rattle.sync_link.specs.declared.side.awaited.Awaited.TheVariants as awaited
use Rattle.sync_link.specs.declared.side.awaited.Exchange.{Exchange}
use Rattle.sync_link.specs.declared.side.participant.Participant.{Participant}

-- ---- what is signed and judged, by which side it is: the own hello, and the other one

-- the message of the own proof
abbrev pub own_message : Role → Hello → Hello → List ℕ
own_message Caller own other = proof_message Caller own other
own_message Answerer own other = proof_message Answerer other own

-- why the other side's proof is refused, if it is
abbrev pub proof_cause : Rules → Role → Hello → Hello → List ℕ → Option HelloRefusal
proof_cause rules Caller own other proof = proof_refusal rules Answerer own other proof
proof_cause rules Answerer own other proof = proof_refusal rules Caller other own proof

-- the side that said the hello speaks some version
abbrev pub SpeaksSome : Hello → Type 0
SpeaksSome hello = hello.version ≢ 0

-- the version of the session
abbrev pub version_between : Role → Hello → Hello → ℕ
version_between Caller own other = session_version own other
version_between Answerer own other = session_version other own

-- the area that both may read, if there is one
abbrev pub area_between : Role → Hello → Hello → Option Area
area_between Caller own other = common_area own other
area_between Answerer own other = common_area other own

-- its box
abbrev pub box_between : Role → Hello → Hello → Option Ranges
box_between Caller own other = option_map area_box (common_area own other)
box_between Answerer own other = option_map area_box (common_area other own)

-- the place of a side at the beginning of the exchange over some rows with one that said a hello
abbrev pub first_with : {R S : Type 0} → Participant R S → Hello → List RowValue → Place
first_with participant other rows = first_place (version_between participant.role participant.hello other) participant.role rows (box_between participant.role participant.hello other)

-- These rows are offered in place of all that a side has: those of them that lie in the box are the ones of interest, and all can
-- be told.
pub record AreOffered (limits : Interest) (box : Option Ranges) (rows shown : List RowValue) : Type 0 where
  pub inside : rows_of_area box shown ≡ rows_of_area box (of_interest limits box rows)
  pub sound : AreSound shown

-- ---- what is said

-- to a hello that passes the answerer says its hello and its proof, to a proof that is accepted the caller its own
abbrev pub said_to_hello : Role → Hello → List ℕ → List ℕ
said_to_hello Caller own signature = []
said_to_hello Answerer own signature = hello_spelling own ++ signature_spelling signature

abbrev pub said_to_proof : Role → List ℕ → List ℕ
said_to_proof Caller signature = signature_spelling signature
said_to_proof Answerer signature = []

-- this is written, whatever the signature may be
abbrev pub Writes : Option (List ℕ) → (List ℕ → List ℕ) → List ℕ → List ℕ → Type 0
Writes made spoken out_old out_new = (signature : List ℕ) → MayBe made signature → out_new ≡ out_old ++ spoken signature

-- the signature that was made stays
abbrev pub Once : Option (List ℕ) → Option (List ℕ) → Type 0
Once old new = (signature : List ℕ) → MayBe new signature → MayBe old signature

-- none was made yet by a caller
abbrev pub UnsignedIf : Role → Option (List ℕ) → Type 0
UnsignedIf Caller made = made ≡ None
UnsignedIf Answerer made = Unit {0}

-- ---- a side

-- what is seen of a side that stands so
abbrev pub side_with : {R S : Type 0} → Rules → (R → RowValue) → Participant R S → Stand SessionStage SessionCause → Side
side_with rules value participant stand = record {
  rules = rules;
  namespace = participant.namespace;
  role = participant.role;
  hello = participant.hello;
  interest = participant.interest;
  signature = participant.signature;
  rows = map value participant.snapshot;
  stand = stand;
}

-- but for its signature it is as it was
abbrev pub Keeps : {R S : Type 0} → Participant R S → Participant R S → Type 0
Keeps old new = new ≡ record old { signature = new.signature }

-- It signed its proof, by what its signer may give, and wrote it.
pub record Proves {R S : Type 0} (gives : List ℕ → List ℕ → Bool) (old new : Participant R S) (other : Hello) (out_old out_new : List ℕ) : Type 0 where
  pub signature : List ℕ
  pub made : new.signature ≡ Some signature
  pub given : gives (own_message old.role old.hello other) signature ≡ true
  pub wrote : out_new ≡ out_old ++ signature_spelling signature

-- its signature is the one that it had, or its signer may give it for its proof to the side with this hello
abbrev pub IsSigned : {R S : Type 0} → (List ℕ → List ℕ → Bool) → Participant R S → Participant R S → Hello → Type 0
IsSigned gives old new other =
    (signature : List ℕ) → new.signature ≡ Some signature → (old.signature ≡ Some signature) ⊎ (gives (own_message old.role old.hello other) signature ≡ true)

-- the signature of a side with this hello is the one that it had, or the signer may give it for the side's proof to one that said
-- a hello
abbrev pub SignsBy : (List ℕ → List ℕ → Bool) → Role → Hello → Option (List ℕ) → Option (List ℕ) → Type 0
SignsBy gives role own made_old made_new =
    (signature : List ℕ) → made_new ≡ Some signature → (made_old ≡ Some signature) ⊎ ((other : Hello) × (gives (own_message role own other) signature ≡ true))

-- What is due behind a hello, by why it is refused, if it is.
abbrev pub HearsHello : {R S : Type 0} → Participant R S → Participant R S → Hello → Awaited R → List ℕ → List ℕ → Option HelloRefusal → Type 0
HearsHello old new other due out_old out_new (Some cause) = (due ≡ awaited.Nothing (causes.Hello cause)) × (new ≡ old) × (out_new ≡ out_old)
HearsHello old new other due out_old out_new None = (due ≡ awaited.Proof other) × (Writes new.signature (said_to_hello old.role old.hello) out_old out_new × UnsignedIf old.role new.signature)

-- An exchange has begun over the rows of a side, and said what is due first; its items are read in its version.
pub record BeginsExchange {R : Type 0} (place : Place) (exchange : Exchange R) (out_old out_new : List ℕ) : Type 0 where
  pub reader : exchange.reader ≡ at_start place.version
  pub core : exchange.core ≡ (says_all place).1
  pub said : out_new ≡ out_old ++ flat_map item_spelling (says_all place).0
  pub sound : IsSound exchange.core
  pub silent : stage_of exchange.core.doing ≡ Writing → ⊥

-- The same over the rows that a side offers to one that said a hello, in the area that both may read.
pub record BeginsOffered {R S : Type 0} (value : R → RowValue) (participant : Participant R S) (other : Hello) (exchange : Exchange R) (out_old out_new : List ℕ) : Type 0 where
  pub rows : List RowValue
  pub offered : AreOffered participant.interest (box_between participant.role participant.hello other) (map value participant.snapshot) rows
  pub begins : BeginsExchange (first_with participant other rows) exchange out_old out_new
  pub area : exchange.area ≡ area_between participant.role participant.hello other

-- and that behind a proof
pub record AcceptsProof {R S : Type 0} (value : R → RowValue) (old new : Participant R S) (other : Hello) (due : Awaited R) (out_old out_new : List ℕ) : Type 0 where
  pub between : List ℕ
  pub proved : Writes new.signature (said_to_proof old.role) out_old between
  pub once : Once old.signature new.signature
  pub exchange : Exchange R
  pub over : BeginsOffered value old other exchange between out_new
  pub due_is : due ≡ awaited.Items exchange

abbrev pub HearsProof : {R S : Type 0} → (R → RowValue) → Participant R S → Participant R S → Hello → Awaited R → List ℕ → List ℕ → Option HelloRefusal → Type 0
HearsProof value old new other due out_old out_new (Some cause) = (due ≡ awaited.Nothing (causes.Hello cause)) × (new ≡ old) × (out_new ≡ out_old)
HearsProof value old new other due out_old out_new None = AcceptsProof value old new other due out_old out_new
