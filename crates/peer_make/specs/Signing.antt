-- How a message is signed: by an open key, or with the next index of a key file.
use Rattle.std.specs.Prelude.{◌≡◌, ℕ, ◌⊎◌, List, [], ◌∷◌, Result, Ok, Err, None}
use Rattle.std.specs.String.{string_bytes}
use Rattle.std.specs.declared.string.String.{String}
use Rattle.std.specs.declared.alloc.Global.{Global}
use Rattle.std.specs.Global.{Vec}
use Rattle.scheme_core.specs.Open.{open_signature}
use Rattle.willow_outside.specs.Counts.{Rose}
use Rattle.willow_outside.specs.Facts.{ShelfFacts}
use Rattle.willow_outside.specs.Names.{GetsName}
use Rattle.lms_core.specs.Key.{Key}
use Rattle.lms_core.specs.Use.{Use, use_signature}
use Rattle.lms_core.specs.Reserve.{KeepsNames, IsOnlyRead, HandsOut, HoldsNoKey, IsSpent, FailsToPut}
use Rattle.lms_core.specs.declared.reserve.KeyRefusal.{KeyRefusal}
use Rattle.lms_core.specs.declared.reserve.KeyRefusal.TheVariants.{ShelfRead, Missing, BadKeyFile, KeySpent, ShelfWrite}
use Rattle.peer_words.specs.declared.command.SignerWord.{SignerWord}
use Rattle.peer_words.specs.declared.command.SignerWord.TheVariants.{OpenKey, LmsFile}
use Rattle.peer_stage.specs.Shelves.{IsOfName}
use Rattle.peer_stage.specs.declared.outcome.Stop.{Stop}
use Rattle.peer_stage.specs.declared.outcome.Stop.TheVariants as stop
use Rattle.peer_stage.specs.declared.outcome.Origin.TheVariants as origin

-- So many of the next indices of the key under a name are used up: their signers are handed out, in order, and the key's
-- file is put back with its next index raised by as many.
pub record AreUsed (name : List ℕ) (count : ℕ) (old new : ShelfFacts) (signers : List Use) : Type 0 where
  pub key : Key
  pub handed_out : HandsOut name count old new signers key

-- the next index is used up, and its signer is handed out
abbrev pub IsUsed : List ℕ → ShelfFacts → ShelfFacts → Use → Type 0
IsUsed name old new signer = AreUsed name 1 old new (signer ∷ [])

-- The signature is that of the message with the next index of the key under a name, which is used up.
pub record IsSignedNext (name : List ℕ) (old new : ShelfFacts) (message signature : List ℕ) : Type 0 where
  pub signer : Use
  pub used : IsUsed name old new signer
  pub made : signature ≡ use_signature signer message

-- the signature is the signer's of the message: an open key has one of each message, and a key file gives the
-- next index for it
abbrev pub Signed : SignerWord → ShelfFacts → ShelfFacts → List ℕ → List ℕ → Type 0
Signed (OpenKey key) old new message signature = (signature ≡ open_signature key message) × (new ≡ old)
Signed (LmsFile name) old new message signature = IsSignedNext (string_bytes name) old new message signature

-- nothing is changed for an open key, and of a key file no index is used up, or just so many
abbrev pub UsesAtMost : SignerWord → ℕ → ShelfFacts → ShelfFacts → Type 0
UsesAtMost (OpenKey key) count old new = new ≡ old
UsesAtMost (LmsFile name) count old new = KeepsNames old new ⊎ ((signers : List Use) × AreUsed (string_bytes name) count old new signers)

-- nothing is changed for an open key, and at most one index of a key file is used up
abbrev pub UsesAtMostOne : SignerWord → ShelfFacts → ShelfFacts → Type 0
UsesAtMostOne key old new = UsesAtMost key 1 old new

-- The name holds no key file.
pub record HoldsOther (name : List ℕ) (old new : ShelfFacts) : Type 0 where
  pub bytes : List ℕ
  pub no_key : HoldsNoKey name old bytes
  pub kept : IsOnlyRead old new

-- The name's key file has fewer indices left than so many.
pub record HoldsTooFew (name : List ℕ) (count : ℕ) (old new : ShelfFacts) : Type 0 where
  pub key : Key
  pub next : ℕ
  pub spent : IsSpent name count next old new key

-- the name's key file has no index left
abbrev pub HoldsSpent : List ℕ → ShelfFacts → ShelfFacts → Type 0
HoldsSpent name old new = HoldsTooFew name 1 old new

-- why not so many indices of the key file under a name were handed out, or used, and what that left
abbrev pub StopsReserving : String Global → ℕ → ShelfFacts → ShelfFacts → Stop → Type 0
StopsReserving name count old new stop.ReadFault = Rose old.read_faults new.read_faults × IsOnlyRead old new
StopsReserving name count old new (stop.Missing other) = (other ≡ name) × GetsName old.names (string_bytes name) None × IsOnlyRead old new
StopsReserving name count old new (stop.BadInput from at) = IsOfName from name × (at ≡ 0) × HoldsOther (string_bytes name) old new
StopsReserving name count old new stop.KeySpent = HoldsTooFew (string_bytes name) count old new
StopsReserving name count old new stop.WriteFault = (key : Key) × FailsToPut (string_bytes name) count old new key
StopsReserving name count old new stop.NoMemory = UsesAtMost (LmsFile name) count old new
StopsReserving name count old new e = ⊥

-- why no signature was made with the key file under a name, and what that left
abbrev pub StopsNext : String Global → ShelfFacts → ShelfFacts → Stop → Type 0
StopsNext name old new e = StopsReserving name 1 old new e

-- why an open key made no signature
abbrev pub StopsOpen : ShelfFacts → ShelfFacts → Stop → Type 0
StopsOpen old new stop.NoMemory = new ≡ old
StopsOpen old new e = ⊥

-- why not so many signers were handed out, or used, and what that left
abbrev pub StopsSigners : SignerWord → ℕ → ShelfFacts → ShelfFacts → Stop → Type 0
StopsSigners (OpenKey key) count old new e = StopsOpen old new e
StopsSigners (LmsFile name) count old new e = StopsReserving name count old new e

-- why a signer made no signature, and what that left
abbrev pub StopsSigning : SignerWord → ShelfFacts → ShelfFacts → Stop → Type 0
StopsSigning key old new e = StopsSigners key 1 old new e

-- how a message is signed
abbrev pub Signs : SignerWord → List ℕ → ShelfFacts → ShelfFacts → Result (List ℕ) Stop → Type 0
Signs key message old new (Ok signature) = Signed key old new message signature
Signs key message old new (Err e) = StopsSigning key old new e

-- ---- the stages

-- the signature of an open key
abbrev pub SignsOpen : List ℕ → List ℕ → Result (List ℕ) Stop → Type 0
SignsOpen key message (Ok signature) = signature ≡ open_signature key message
SignsOpen key message (Err stop.NoMemory) = Unit {0}
SignsOpen key message (Err e) = ⊥

-- the signature with the next index of a key file
abbrev pub SignsNext : String Global → ShelfFacts → ShelfFacts → List ℕ → Result (List ℕ) Stop → Type 0
SignsNext name old new message (Ok signature) = IsSignedNext (string_bytes name) old new message signature
SignsNext name old new message (Err e) = StopsNext name old new e

-- the signers of so many of the next indices of a key file
abbrev pub HandsUses : String Global → ℕ → ShelfFacts → ShelfFacts → Result (Vec Use) Stop → Type 0
HandsUses name count old new (Ok signers) = AreUsed (string_bytes name) count old new signers.items
HandsUses name count old new (Err e) = StopsReserving name count old new e

-- the signer of the next index of a key file
abbrev pub HandsNext : String Global → ShelfFacts → ShelfFacts → Result Use Stop → Type 0
HandsNext name old new (Ok signer) = IsUsed (string_bytes name) old new signer
HandsNext name old new (Err e) = StopsNext name old new e

-- how a refusal of the key file under a name is told
abbrev pub stop_of : KeyRefusal → String Global → Stop
stop_of ShelfRead name = stop.ReadFault
stop_of Missing name = stop.Missing name
stop_of BadKeyFile name = stop.BadInput (origin.Name name) 0
stop_of (KeySpent next) name = stop.KeySpent
stop_of ShelfWrite name = stop.WriteFault

-- the signature of a signer of one index
abbrev pub SignsOnce : Use → List ℕ → Result (List ℕ) Stop → Type 0
SignsOnce signer message (Ok signature) = signature ≡ use_signature signer message
SignsOnce signer message (Err stop.NoMemory) = Unit {0}
SignsOnce signer message (Err e) = ⊥
