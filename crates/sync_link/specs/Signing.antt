-- For whom a side signs its proof.
use Rattle.std.specs.Prelude.{◌≡◌, ◌⊎◌, ℕ, ◌+◌, Bool, true, List, [], ◌++◌, take, Contains, Option, None, Some}
use Rattle.sync_hello.specs.declared.hello.Hello.{Hello}
use Rattle.session_rules.specs.Reading.{Waits, read}
use Rattle.session_rules.specs.Session.{Proof, Proving}
use Rattle.sync_link.specs.Sessions.{session_of}
use Rattle.sync_link.specs.Standing.{Side, party_of}
use Rattle.sync_link.specs.Talking.{own_message}
use Rattle.sync_link.specs.declared.side.awaited.Awaited.{Awaited}
use Rattle.sync_link.specs.declared.side.awaited.Awaited.TheVariants as awaited
use Rattle.sync_link.specs.declared.side.participant.Participant.{Participant}

-- The signer may give the signature for the side's proof to one that said a hello: behind some first part of the piece the
-- session waits for the proof of that one.
pub record SignsFor (gives : List ℕ → List ℕ → Bool) (side : Side) (piece signature : List ℕ) : Type 0 where
  pub other : Hello
  pub given : gives (own_message side.role side.hello other) signature ≡ true
  pub front : List ℕ
  pub behind : List ℕ
  pub joined : piece ≡ front ++ behind
  pub at : ℕ
  pub held : List ℕ
  pub waits : (read (session_of (party_of side signature) side.rows) side.stand front).stand ≡ Waits (Proving other) at held

-- with this signature, the own proof is among what a side says that reads the bytes
abbrev pub SaysProof : Side → List ℕ → List ℕ → Type 0
SaysProof side bytes signature = Contains (read (session_of (party_of side signature) side.rows) side.stand bytes).says (Proof signature)

-- the proof of a side is due that reads the bytes, with whatever signature
abbrev pub OwesIn : Side → List ℕ → Type 0
OwesIn side bytes = (signature : List ℕ) → SaysProof side bytes signature

-- any signature is given of any message
abbrev pub anyone : List ℕ → List ℕ → Bool
anyone = λ message signature. true

-- a side that reads a piece and is signed then was signed before, or so
abbrev pub SignsTo : (List ℕ → List ℕ → Bool) → Side → Side → List ℕ → Type 0
SignsTo gives old new piece =
    (signature : List ℕ) → new.signature ≡ Some signature → (old.signature ≡ Some signature) ⊎ SignsFor gives old piece signature

-- a message is taken in so many bytes, and the next begins behind them; or the bytes are all read, with no message whole
abbrev pub SignsStep : (List ℕ → List ℕ → Bool) → (ℕ → List ℕ → Side) → (ℕ → List ℕ → Side) → ℕ → List ℕ → Option ℕ → Type 0
SignsStep gives old new at bytes None = SignsTo gives (old at []) (new at bytes) bytes
SignsStep gives old new at bytes (Some taken) = SignsTo gives (old at []) (new (at + taken) []) (take taken bytes)

-- a side to which a hello may have come was signed before, or its signer may give the signature for its proof to the one whose
-- proof is due now
abbrev pub SignsNext : {R S : Type 0} → (List ℕ → List ℕ → Bool) → Participant R S → Participant R S → Awaited R → Type 0
SignsNext gives old new due =
    (signature : List ℕ) → new.signature ≡ Some signature → (old.signature ≡ Some signature) ⊎ ((other : Hello) × ((due ≡ awaited.Proof other) × (gives (own_message old.role old.hello other) signature ≡ true)))
