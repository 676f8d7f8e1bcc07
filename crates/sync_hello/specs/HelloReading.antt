-- How hellos are read.
use Rattle.std.specs.Prelude.{◌≡◌, ℕ, List, ◌⊎◌, Option, Some, None, Result, Ok, Err}
use Rattle.spelling.specs.Front.{Front, Whole, Part, Wrong, ◌>>=◌}
use Rattle.spelling.specs.Reading.{byte_at, bytes_at, exactly_at}
use Rattle.spelling.specs.declared.ending.NoMemory.{NoMemory}
use Rattle.spelling.specs.declared.input.Unread.{Unread}
use Rattle.spelling.specs.declared.input.Unread.TheVariants as unread
use Rattle.willow_area.specs.AreaSpelling.{area_at}
use Rattle.mc_cap.specs.Forms.{capability_spelling, IsCapability}
use Rattle.mc_cap.specs.declared.capability.Capability.{Capability}
use Rattle.sync_msg.specs.ItemReading.{body_at}
use Rattle.sync_hello.specs.declared.hello.Hello.{Hello}
use Rattle.sync_hello.specs.HelloForm.{Draft, magic, draft_of}

-- a hello before its capability is read: the text WSY, the version, the nonce, the ask, and a length with so many bytes
unfoldable pub draft_at : List ℕ → Front Draft
draft_at bytes = do
  letters ← exactly_at magic bytes
  version ← byte_at letters.1
  nonce ← bytes_at 16 version.1
  ask ← area_at nonce.1
  text ← body_at ask.1
  Whole (record { version = version.0; nonce = nonce.0; ask = ask.0; text = text.0 }) text.1

-- the bytes are the spelling of no capability
abbrev pub IsNoCapability : List ℕ → Type 0
IsNoCapability text = (c : Capability) → IsCapability c → text ≡ capability_spelling c → ⊥

-- the capability that the bytes spell, all of them, or none where there is no such
abbrev pub ReadsText : List ℕ → Result (Option Capability) NoMemory → Type 0
ReadsText text (Ok (Some c)) = IsCapability c × (text ≡ capability_spelling c)
ReadsText text (Ok None) = IsNoCapability text
ReadsText text (Err e) = Unit {0}

-- The hello that was read is what stands in front, with its capability in so many bytes. None was read where none
-- stands there even before its capability is read, or where the bytes of that are none.
abbrev pub GivesHello : Result Hello Unread → List ℕ → Front Draft → Type 0
GivesHello (Ok hello) left front = IsCapability hello.capability × (front ≡ Whole (draft_of hello) left)
GivesHello (Err unread.Part) left front = front ≡ Part
GivesHello (Err unread.Wrong) left front = (front ≡ Wrong) ⊎ ((draft : Draft) × (rest : List ℕ) × (front ≡ Whole draft rest) × IsNoCapability draft.text)
GivesHello (Err unread.NoMemory) left front = Unit {0}
