-- The signers that a word names: an open key, or one index of a key file each.
use Rattle.std.specs.Prelude.{◌≡◌, ◌⊎◌, ℕ, Bool, List, map, replicate, Result, Ok, Err}
use Rattle.std.specs.Global.{Vec}
use Rattle.std.specs.String.{string_bytes}
use Rattle.scheme_core.specs.Open.{open_accepts}
use Rattle.willow_outside.specs.Facts.{ShelfFacts}
use Rattle.lms_core.specs.Use.{Use, use_gives, user_key_of}
use Rattle.peer_words.specs.declared.command.SignerWord.{SignerWord}
use Rattle.peer_words.specs.declared.command.SignerWord.TheVariants.{OpenKey, LmsFile}
use Rattle.peer_stage.specs.declared.outcome.Stop.{Stop}
use Rattle.peer_make.specs.Signing.{IsUsed, AreUsed, StopsSigning, StopsSigners}
use Rattle.peer_make.specs.declared.key_signer.KeySigner.{KeySigner}
use Rattle.peer_make.specs.declared.key_signer.KeySigner.TheVariants.{Open, Once}

-- whether it may give this signature of a message: what is accepted for its key, and of a key file's index names that
abbrev pub gives_of : KeySigner → List ℕ → List ℕ → Bool
gives_of (Open key) = open_accepts key
gives_of (Once signer) = use_gives signer

-- how many signatures it has left: an open key is never spent
abbrev pub left_of : KeySigner → ℕ
left_of (Open key) = 1
left_of (Once signer) = signer.left

-- how it may stand behind one call: an open key as it did, an index of a key file as it did or used up
abbrev pub asks_of : KeySigner → KeySigner → Type 0
asks_of (Open key) (Open now) = now ≡ key
asks_of (Open key) (Once now) = ⊥
asks_of (Once signer) (Open now) = ⊥
asks_of (Once signer) (Once now) = (now ≡ signer) ⊎ (now ≡ record signer { left = 0 })

-- the key for which its signatures are accepted
abbrev pub signer_key : KeySigner → List ℕ
signer_key (Open key) = key
signer_key (Once signer) = user_key_of signer.height signer.identifier signer.seed

-- it is the one that the word names: an open key, of which nothing was called, or the next index of a key file
abbrev pub IsSignerOf : SignerWord → ShelfFacts → ShelfFacts → KeySigner → Type 0
IsSignerOf (OpenKey key) old new (Open own) = (own ≡ key) × (new ≡ old)
IsSignerOf (OpenKey key) old new (Once signer) = ⊥
IsSignerOf (LmsFile name) old new (Open own) = ⊥
IsSignerOf (LmsFile name) old new (Once signer) = IsUsed (string_bytes name) old new signer

-- how a signer is handed out, which has not signed, and why none is
abbrev pub HandsSigner : SignerWord → ShelfFacts → ShelfFacts → Result KeySigner Stop → Type 0
HandsSigner key old new (Ok signer) = IsSignerOf key old new signer
HandsSigner key old new (Err e) = StopsSigning key old new e

-- they are so many of the one that the word names: of an open key, of which nothing was called, or those of the next
-- indices of a key file, in order
abbrev pub AreSignersOf : SignerWord → ℕ → ShelfFacts → ShelfFacts → List KeySigner → Type 0
AreSignersOf (OpenKey key) count old new signers = (signers ≡ replicate count (Open key)) × (new ≡ old)
AreSignersOf (LmsFile name) count old new signers = (uses : List Use) × (signers ≡ map Once uses) × AreUsed (string_bytes name) count old new uses

-- how so many signers are handed out, none of which has signed, and why they are not
abbrev pub HandsSigners : SignerWord → ℕ → ShelfFacts → ShelfFacts → Result (Vec KeySigner) Stop → Type 0
HandsSigners key count old new (Ok signers) = AreSignersOf key count old new signers.items
HandsSigners key count old new (Err e) = StopsSigners key count old new e
