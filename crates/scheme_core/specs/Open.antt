-- Open keys: keys of kind 0, whose signatures anyone can make. They show who is meant, and protect nothing.
use Rattle.std.specs.Prelude.{◌≡◌, ℕ, ◌%◌, ◌==◌, ◌&&◌, Bool, List, ◌++◌, slice_index}
use Rattle.std.specs.Str.{bytes_eq}
use Rattle.sha2.specs.Sha256.{sha256}
use Rattle.scheme_core.specs.Rules.{Rules}

-- the one signature of a message under an open key: the digest of the key's bytes and then the message
abbrev pub open_signature : List ℕ → List ℕ → List ℕ
open_signature key message = sha256 (key ++ message)

-- whether the key is of kind 0 and the signature is its signature of the message
unfoldable pub open_accepts : List ℕ → List ℕ → List ℕ → Bool
open_accepts key message signature = slice_index key 0 == 0 && bytes_eq signature (open_signature key message)

-- a namespace is communal where the low bit of its key's last byte is 0
unfoldable pub is_communal : List ℕ → Bool
is_communal key = slice_index key 32 % 2 == 0

-- the rules of open keys, for users and for namespaces
abbrev pub open_rules : Rules
open_rules = record { user = open_accepts; owner = open_accepts; communal = is_communal }

-- The rules accept of an open key, one of kind 0, exactly what is its open signature.
abbrev pub AcceptsOpenKeys : Rules → Type 0
AcceptsOpenKeys rules = (key message signature : List ℕ) → slice_index key 0 ≡ 0 → rules.user key message signature ≡ open_accepts key message signature
