-- What stands at the front of bytes of a session, of which more may come.
use Rattle.std.specs.Prelude.{◌≡◌, ℕ, zero, suc, Bool, true, false, List, [], Result, Ok, Err}
use Rattle.spelling.specs.declared.ending.End.{End}
use Rattle.spelling.specs.declared.ending.End.TheVariants as ends
use Rattle.spelling.specs.declared.ending.NoMemory.{NoMemory}
use Rattle.cap_codec.specs.Rows.{RawValue, row_of}
use Rattle.sync_msg.specs.Items.{HasPrints, item_value}
use Rattle.sync_msg.specs.Reader.{ReaderState, moved_on}
use Rattle.sync_msg.specs.declared.reader.BadItem.{BadItem}
use Rattle.sync_msg.specs.declared.reader.Step.{Step}
use Rattle.sync_msg.specs.declared.reader.Step.TheVariants.{Got, More}
use Rattle.sync_hello.specs.HelloForm.{IsHello}
use Rattle.sync_hello.specs.declared.read.HelloStep.{HelloStep}
use Rattle.sync_hello.specs.declared.read.HelloStep.TheVariants as hellos
use Rattle.session_rules.specs.Messages.{ArePart}
use Rattle.row_intake.specs.Found.{IsFound, GoWrong}
use Rattle.sync_link.specs.Readers.{hello_seen, proof_seen, item_seen}
use Rattle.sync_link.specs.declared.side.proof.ProofStep.{ProofStep}
use Rattle.sync_link.specs.declared.side.proof.ProofStep.TheVariants as proofs

-- a hello, a part of one, or neither; for want of memory nothing is said
abbrev pub FindsHello : List ℕ → Result HelloStep NoMemory → Type 0
FindsHello bytes (Ok (hellos.Whole hello taken)) = IsFound hello_seen bytes hello taken × IsHello hello
FindsHello bytes (Ok hellos.More) = ArePart hello_seen [] bytes
FindsHello bytes (Ok hellos.Bad) = GoWrong hello_seen [] bytes
FindsHello bytes (Err e) = Unit {0}

-- the same of a proof
abbrev pub FindsProof : List ℕ → Result ProofStep NoMemory → Type 0
FindsProof bytes (Ok (proofs.Whole signature taken)) = IsFound proof_seen bytes signature taken
FindsProof bytes (Ok proofs.More) = ArePart proof_seen [] bytes
FindsProof bytes (Ok proofs.Bad) = GoWrong proof_seen [] bytes
FindsProof bytes (Err e) = Unit {0}

-- where so many rows are due, one is awaited
abbrev pub is_due : ℕ → Bool
is_due zero = false
is_due (suc due) = true

-- the same of an item, whereupon the reader moves on; if the item is a cut in parts, there is one fingerprint more than points
abbrev pub FindsItem : ReaderState → ReaderState → List ℕ → Result (Step RawValue) (End BadItem) → Type 0
FindsItem old new bytes (Ok (Got item taken)) = IsFound (item_seen old.version (is_due old.due)) bytes (item_value row_of item) taken × ((new ≡ moved_on old (item_value row_of item) taken) × HasPrints (item_value row_of item))
FindsItem old new bytes (Ok More) = ArePart (item_seen old.version (is_due old.due)) [] bytes × (new ≡ old)
FindsItem old new bytes (Err (ends.Refused bad)) = GoWrong (item_seen old.version (is_due old.due)) [] bytes × (new ≡ old)
FindsItem old new bytes (Err ends.NoMemory) = new ≡ old
