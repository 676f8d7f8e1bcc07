-- Who may be named as a signer, and how.
use Rattle.std.specs.Prelude.{◌≡◌, ℕ, List, ◌∷◌, ◌++◌, Ok, codes, slice_index, String}
use Rattle.std.specs.declared.alloc.Global.{Global}
use Rattle.hex.specs.Hex.{decode_sized}
use Rattle.peer_words.specs.Values.{IsNameWord}
use Rattle.peer_words.specs.declared.command.SignerWord.{SignerWord}
use Rattle.peer_words.specs.declared.command.SignerWord.TheVariants.{OpenKey, LmsFile}

-- an open key is of kind 0; a key file is any
abbrev pub IsSigner : SignerWord → Type 0
IsSigner (OpenKey key) = slice_index key 0 ≡ 0
IsSigner (LmsFile name) = Unit {0}

-- 64 hexadecimal digits, of either case: the body of a key of kind 0
pub record IsOpenBody (digits key : List ℕ) : Type 0 where
  pub body : List ℕ
  pub decoded : decode_sized digits 32 ≡ Ok body
  pub of_kind_0 : key ≡ 0 ∷ body

-- `open:` and the body
pub record IsOpenWord (word key : List ℕ) : Type 0 where
  pub digits : List ℕ
  pub spelled : word ≡ codes "open:" ++ digits
  pub is_body : IsOpenBody digits key

-- `lms:` and the name of a key file
pub record IsFileWord (word : List ℕ) (name : String Global) : Type 0 where
  pub file : List ℕ
  pub spelled : word ≡ codes "lms:" ++ file
  pub is_name : IsNameWord file name

abbrev pub SpellsSigner : List ℕ → SignerWord → Type 0
SpellsSigner word (OpenKey key) = IsOpenWord word key
SpellsSigner word (LmsFile name) = IsFileWord word name

-- a word for a signer
pub record IsSignerWord (word : List ℕ) (signer : SignerWord) : Type 0 where
  pub spelled : SpellsSigner word signer
  pub is_signer : IsSigner signer
