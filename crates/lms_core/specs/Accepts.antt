-- Which LMS signatures RFC 8554 accepts, where the one-time type is LMOTS_SHA256_N32_W8 (4) and the tree's
-- is LMS_SHA256_M32_H5 (5) or LMS_SHA256_M32_H10 (6).
-- A public key is the tree's type, the one-time type, the identifier I and the root T[1]: 4, 4, 16 and 32
-- bytes. A signature is q, the one-time type, the randomizer C, 34 chain values, the tree's type and the
-- path: 4, 4, 32, 1,088, 4 and 32 bytes a level.
use Rattle.std.specs.Prelude.{ℕ, ◌+◌, ◌*◌, ◌^◌, Bool, false, ◌&&◌, List, length, drop, Option, Some, None, if◌then◌else◌, ◌==◌, nat_lt, bytes_eq}
use Rattle.lms_core.specs.declared.height.Height.{Height}
use Rattle.lms_core.specs.declared.height.Height.TheVariants.{H5, H10}
use Rattle.lms_core.specs.Bytes.{field, u32_at}
use Rattle.lms_core.specs.OneTime.{key_told}
use Rattle.lms_core.specs.Tree.{leaf_value, climb}

-- the one-time type of the profile
abbrev pub one_time_type : ℕ
one_time_type = 4

-- h: how many levels a tree has above its leaves
abbrev pub levels : Height → ℕ
levels H5 = 5
levels H10 = 10

-- how many leaves a tree has: 2 ^ h
abbrev pub leaves : Height → ℕ
leaves height = 2 ^ levels height

-- the type that tells a tree's height
abbrev pub type_of : Height → ℕ
type_of H5 = 5
type_of H10 = 6

-- the height that a type tells, where it is of the profile
abbrev pub height_of : ℕ → Option Height
height_of t = if t == 5 then Some H5 else (if t == 6 then Some H10 else None)

-- the length of a signature's bytes: 1,292 or 1,452
abbrev pub signature_length : Height → ℕ
signature_length height = 1132 + 32 * levels height

-- the types are the profile's and agree, the length is that of the height, and q is a leaf's number
unfoldable pub is_sound : Height → List ℕ → List ℕ → Bool
is_sound height public signature =
    (u32_at 4 public == one_time_type)
    && (length signature == signature_length height)
    && (u32_at 4 signature == one_time_type)
    && (u32_at 1128 signature == type_of height)
    && nat_lt (u32_at 0 signature) (leaves height)

-- the height of the tree of a public key and a signature that are sound together
unfoldable pub sound_height : List ℕ → List ℕ → Option Height
sound_height public signature =
    elim (height_of (u32_at 0 public)) [ Some height ↦ if is_sound height public signature then Some height else None | None ↦ None ]

-- T[1]: the root that a signature of a message tells
unfoldable pub root_of : Height → List ℕ → List ℕ → List ℕ → List ℕ
root_of height id message signature =
    let q = u32_at 0 signature in
    let node = leaves height + q in
    let key = key_told id q (field 8 32 signature) (field 40 1088 signature) message in
    climb id node (leaf_value id node key) (levels height) (drop 1132 signature)

-- a signature of a message is accepted: it is sound, and the root that it tells is the public key's
unfoldable pub lms_accepts : List ℕ → List ℕ → List ℕ → Bool
lms_accepts public message signature =
    elim (sound_height public signature) [ Some height ↦ bytes_eq (root_of height (field 8 16 public) message signature) (field 24 32 public) | None ↦ false ]
