-- Keys of the signer and their files.
use Rattle.std.specs.Prelude.{◌≡◌, ℕ, ◌+◌, ◌≤◌, ◌==◌, ◌&&◌, nat_le, bytes_eq, if◌then◌else◌, List, [], ◌∷◌, ◌++◌, length, take, slice_index, Option, Some, None}
use Rattle.spelling.specs.Form.{AreBytes}
use Rattle.lms_core.specs.declared.height.Height.{Height}
use Rattle.lms_core.specs.declared.height.Height.TheVariants.{H5, H10}
use Rattle.lms_core.specs.Bytes.{u32_str, u32_at, field}
use Rattle.lms_core.specs.Accepts.{levels, leaves}

-- a key: the height of its tree, the identifier I, the seed, and the first index that is not used
pub record Key : Type 0 where
  pub height : Height
  pub identifier : List ℕ
  pub seed : List ℕ
  pub next : ℕ

-- 16 bytes of identifier, 32 of seed, and an index of the tree, or the one behind the last
pub record IsKey (k : Key) : Type 0 where
  pub identifier : (length k.identifier ≡ 16) × AreBytes k.identifier
  pub seed : (length k.seed ≡ 32) × AreBytes k.seed
  pub next : k.next ≤ leaves k.height

-- the text that a key file begins with: WKY1
abbrev pub key_magic : List ℕ
key_magic = 0x57 ∷ 0x4b ∷ 0x59 ∷ 0x31 ∷ []

-- a key file: the magic, the height in one byte, the identifier, the seed and the next index, 57 bytes
unfoldable pub key_file : Key → List ℕ
key_file k = (((key_magic ++ levels k.height ∷ []) ++ k.identifier) ++ k.seed) ++ u32_str k.next

-- the key whose next index is higher by n
abbrev pub raised : ℕ → Key → Key
raised n k = record k { next = k.next + n }

-- the height that a number of levels tells, where it is of the profile
abbrev pub height_at : ℕ → Option Height
height_at n = if n == 5 then Some H5 else (if n == 10 then Some H10 else None)

-- the key of a height that is read in the fields of a file, where its next index is one of the tree
unfoldable pub key_of_height : List ℕ → Option Height → Option Key
key_of_height bytes None = None
key_of_height bytes (Some height) =
    if nat_le (u32_at 53 bytes) (leaves height)
    then Some (record { height = height; identifier = field 5 16 bytes; seed = field 21 32 bytes; next = u32_at 53 bytes })
    else None

-- the key that is read in a file
unfoldable pub key_at : List ℕ → Option Key
key_at bytes =
    if length bytes == 57 && bytes_eq (take 4 bytes) key_magic then key_of_height bytes (height_at (slice_index bytes 4)) else None
