-- Signers of one index, and the signatures that are accepted for keys of both kinds.
use Rattle.std.specs.Prelude.{ℕ, zero, suc, ◌==◌, ◌&&◌, nat_le, bytes_eq, Bool, if◌then◌else◌, List, [], ◌∷◌, ◌++◌, length, take, drop, slice_index}
use Rattle.sha2.specs.Sha256.{sha256}
use Rattle.scheme_core.specs.Rules.{Rules}
use Rattle.scheme_core.specs.Open.{open_accepts, is_communal}
use Rattle.lms_core.specs.declared.height.Height.{Height}
use Rattle.lms_core.specs.Bytes.{u32_at, field}
use Rattle.lms_core.specs.Accepts.{lms_accepts}
use Rattle.lms_core.specs.Signer.{public_key, signature_of}
use Rattle.lms_core.specs.Key.{Key}

-- a signer of one index of a tree: left is 1 before it has signed, and 0 after
pub record Use : Type 0 where
  pub height : Height
  pub identifier : List ℕ
  pub seed : List ℕ
  pub index : ℕ
  pub left : ℕ

-- the user key of a tree: kind 1, and the digest of the public key
unfoldable pub user_key_of : Height → List ℕ → List ℕ → List ℕ
user_key_of height id seed = 1 ∷ sha256 (public_key height id seed)

-- A signature of a key of kind 1 is accepted: it is an LMS public key of 56 bytes, whose digest is the key's
-- body, and an LMS signature that is accepted under that public key.
unfoldable pub lms_key_accepts : List ℕ → List ℕ → List ℕ → Bool
lms_key_accepts key message signature =
    nat_le 56 (length signature)
    && bytes_eq (sha256 (take 56 signature)) (field 1 32 key)
    && lms_accepts (take 56 signature) message (drop 56 signature)

-- a signature is accepted for a key of either kind
unfoldable pub peer_accepts : List ℕ → List ℕ → List ℕ → Bool
peer_accepts key message signature =
    if slice_index key 0 == 0 then open_accepts key message signature else lms_key_accepts key message signature

-- the rules of keys of both kinds, for users and for namespaces
abbrev pub peer_rules : Rules
peer_rules = record { user = peer_accepts; owner = peer_accepts; communal = is_communal }

-- what a signer of one index may give: a signature that is accepted for the tree's user key and names the index
unfoldable pub use_gives : Use → List ℕ → List ℕ → Bool
use_gives s message signature =
    peer_accepts (user_key_of s.height s.identifier s.seed) message signature && u32_at 56 signature == s.index

-- the one signature of a message by a signer of one index
abbrev pub use_signature : Use → List ℕ → List ℕ
use_signature s message = public_key s.height s.identifier s.seed ++ signature_of s.height s.identifier s.seed s.index message

-- the signers of the n indices of a key from an index on, none of which has signed
unfoldable pub uses_from : Key → ℕ → ℕ → List Use
uses_from k index zero = []
uses_from k index (suc n) =
    record { height = k.height; identifier = k.identifier; seed = k.seed; index = index; left = 1 } ∷ uses_from k (suc index) n
