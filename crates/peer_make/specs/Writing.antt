-- What `write` does: a row of an entry that is signed under a capability.
use Rattle.std.specs.Prelude.{◌≡◌, ℕ, List, Option, Some, None, Result, Ok, Err, unwrap_or}
use Rattle.willow_path.specs.declared.key.Digest.{Digest}
use Rattle.willow_entry.specs.declared.entry.Entry.{Entry}
use Rattle.lms_core.specs.Use.{peer_rules}
use Rattle.mc_cap.specs.Grant.{receiver_of}
use Rattle.mc_cap.specs.declared.capability.Capability.{Capability}
use Rattle.mc_cap.specs.declared.refusal.RowRefusal.{RowRefusal}
use Rattle.cap_codec.specs.Rows.{RawValue, FitsFrame, frame}
use Rattle.auth_entry.specs.Authorised.{row_refusal}
use Rattle.willow_entry.specs.Message.{entry_message}
use Rattle.peer_words.specs.declared.command.SignerWord.{SignerWord}
use Rattle.peer_stage.specs.Steps.{Step, Then, Inside, OnInput, OnShelf, OnOutput}
use Rattle.peer_stage.specs.Stages.{Writes}
use Rattle.peer_stage.specs.declared.outcome.Done.{Done}
use Rattle.peer_stage.specs.declared.outcome.Done.TheVariants as done
use Rattle.peer_stage.specs.declared.outcome.Stop.{Stop}
use Rattle.peer_stage.specs.declared.outcome.Stop.TheVariants as stop
use Rattle.peer_make.specs.Signing.{Signs}
use Rattle.peer_make.specs.Reading.{ReadsOne}

-- what is said of an entry by words; without a subspace it is the receiver of a capability
pub record EntryWords : Type 0 where
  pub path : List (List ℕ)
  pub time : ℕ
  pub payload_length : ℕ
  pub digest : Digest
  pub subspace : Option (List ℕ)

-- the entry of the words under a capability: in its namespace, and without a subspace in that of its receiver
abbrev pub entry_under : EntryWords → Capability → Entry
entry_under words c =
    record {
      namespace = c.namespace;
      subspace = unwrap_or words.subspace (receiver_of c);
      path = words.path;
      timestamp = words.time;
      length = words.payload_length;
      digest = words.digest;
    }

-- the row of the words under a capability, with a signature
abbrev pub row_under : EntryWords → Capability → List ℕ → RawValue
row_under words c signature = record { entry = entry_under words c; token = record { capability = c; signature = signature } }

-- the first condition that fails of a row in the namespace of its capability
abbrev pub own_refusal : RawValue → Option RowRefusal
own_refusal r = row_refusal peer_rules r.token.capability.namespace r

-- how a row that is made is authorised, which a frame can carry; memory was asked for before, to make it
abbrev pub Authorises : RawValue → Result (Unit {0}) Stop → Type 0
Authorises r (Ok fine) = FitsFrame r × (own_refusal r ≡ None)
Authorises r (Err (stop.Refused refusal)) = own_refusal r ≡ Some refusal
Authorises r (Err stop.NoMemory) = Unit {0}
Authorises r (Err e) = ⊥

-- It authorises a row in the namespace of its capability, and writes its frame.
abbrev pub TellsRow : RawValue → Step Done
TellsRow r =
    Then (Inside (Authorises r)) (λ fine.
    OnOutput (Writes (frame r) done.Made))

-- It reads a capability, signs the entry of the words, and authorises and writes the row.
abbrev pub WritesEntry : SignerWord → EntryWords → Step Done
WritesEntry key words =
    Then (OnInput ReadsOne) (λ c.
    Then (OnShelf (Signs key (entry_message (entry_under words c)))) (λ signature.
    TellsRow (row_under words c signature)))
