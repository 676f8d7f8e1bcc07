-- Bytes that are an image of version 2, and where bytes that are none go wrong.
use Rattle.std.specs.Prelude.{◌≡◌, ℕ, ◌<◌, ◌≤◌, ◌+◌, ◌^◌, ◌⊎◌, List, [], ◌∷◌, ◌++◌, length, map, slice_index_or, Contains, Some, None, Result, Ok, Err}
use Rattle.std.specs.List.{flat_map, AllByRecursion}
use Rattle.std.specs.List.Sorted.{IsStrictlySortedBy}
use Rattle.std.specs.Int.{w32}
use Rattle.spelling.specs.Front.{Front, Whole, ◌>>=◌}
use Rattle.spelling.specs.Memory.{Behind}
use Rattle.spelling.specs.Reading.{exactly_at, number_at, number_up_to, text_at}
use Rattle.spelling.specs.declared.ending.End.{End}
use Rattle.spelling.specs.declared.ending.End.TheVariants.{Refused, NoMemory}
use Rattle.willow_path.specs.Key.{IsKey, key_at}
use Rattle.willow_entry.specs.Entry.{bytes_cmp}
use Rattle.willow_entry.specs.declared.frame.TheConstants.{MAX_FRAME}
use Rattle.mc_cap.specs.Forms.{capability_spelling}
use Rattle.mc_cap.specs.declared.capability.Capability.{Capability}
use Rattle.cap_codec.specs.declared.numbered.NumberedRow.{NumberedRow}
use Rattle.cap_codec.specs.Numbered.{FitsCapability, FitsNumbered, capability_frame, numbered_frame, row_with}
use Rattle.cap_codec.specs.Rows.{RawValue}
use Rattle.cap_codec.specs.Spelled.{no_token}
use Rattle.peer_image.specs.declared.known.ImageHead.{ImageHead}
use Rattle.peer_image.specs.declared.refusal.ImageRefusal.{ImageRefusal}
use Rattle.peer_image.specs.declared.refusal.ImageRefusal.TheVariants.{BadImage, NotRising, Pruned}
use Rattle.peer_image.specs.declared.read.Image.{Image}
use Rattle.peer_image.specs.Image.{magic_two, head_two, trailer}
use Rattle.peer_image.specs.ImageOneReading.{raw_rows}
use Rattle.peer_image.specs.Order.{order_refusal}

-- ---- the head

-- the text WIM2, a key and a number of four bytes
abbrev pub head_two_spelling : ImageHead → List ℕ
head_two_spelling h = head_two h.namespace h.count

pub record IsImageHead (h : ImageHead) : Type 0 where
  pub key : IsKey h.namespace
  pub count_fits : h.count < 2 ^ 32

-- the same, read
unfoldable pub head_two_at : List ℕ → Front ImageHead
head_two_at bytes = do
  text ← exactly_at magic_two bytes
  namespace ← key_at text.1
  count ← number_at w32 namespace.1
  Whole (record { namespace = namespace.0; count = count.0 }) count.1

-- no such head stands in front
abbrev pub HasNoHead : List ℕ → Type 0
HasNoHead bytes = (h : ImageHead) (left : List ℕ) → IsImageHead h → bytes ≡ head_two_spelling h ++ left → ⊥

-- the first length behind the head is above zero, and so many bytes are there
abbrev pub FirstIsWhole : List ℕ → Type 0
FirstIsWhole bytes = Behind (text_at (number_up_to w32 MAX_FRAME) bytes) (λ first rest. 0 < length first)

-- an image asks for memory behind its head, where the first frame has some bytes and they are all there
abbrev pub ImageTwoAsks : List ℕ → Type 0
ImageTwoAsks bytes = Behind (head_two_at bytes) (λ head rest. FirstIsWhole rest)

-- ---- the capabilities

-- they rise strictly by their bytes
abbrev pub AreRising : List Capability → Type 0
AreRising told = IsStrictlySortedBy bytes_cmp (map capability_spelling told)

-- no capability that stands above these is told next
abbrev pub HasNoHigher : List Capability → List ℕ → Type 0
HasNoHigher told left = (c : Capability) (rest : List ℕ) → FitsCapability c → AreRising (told ++ c ∷ []) → left ≡ capability_frame c ++ rest → ⊥

-- these capabilities, at most so many, are told in front of what is left; where they are fewer, no further one is
pub record AreToldInFront (bytes : List ℕ) (count : ℕ) (told : List Capability) (left : List ℕ) : Type 0 where
  pub fit : AllByRecursion FitsCapability told
  pub up : AreRising told
  pub within : length told ≤ count
  pub parts : bytes ≡ flat_map capability_frame told ++ left
  pub ended : length told < count → HasNoHigher told left

-- ---- the rows

-- a row whose number is below that of the capabilities
pub record FitsBelow (count : ℕ) (r : NumberedRow) : Type 0 where
  pub fits : FitsNumbered r
  pub below : r.number < count

-- no such row stands in front
abbrev pub HasNoRow : ℕ → List ℕ → Type 0
HasNoRow count left = (r : NumberedRow) (rest : List ℕ) → FitsBelow count r → left ≡ numbered_frame r ++ rest → ⊥

-- the row with the capability that it tells
abbrev pub row_among : List Capability → NumberedRow → RawValue
row_among told r = row_with (slice_index_or told r.number no_token.capability) r

-- some row tells the capability of this number
abbrev pub IsToldBy : List NumberedRow → ℕ → Type 0
IsToldBy rows k = Contains (map (λ (r : NumberedRow). r.number) rows) k

-- all capabilities, of which there are so many, are told by rows
abbrev pub AreAllTold : ℕ → List NumberedRow → Type 0
AreAllTold count rows = (k : ℕ) → k < count → IsToldBy rows k

-- these rows stand in front of what is left, and no further one
pub record AreNumbered (bytes : List ℕ) (count : ℕ) (rows : List NumberedRow) (left : List ℕ) : Type 0 where
  pub fit : AllByRecursion (FitsBelow count) rows
  pub parts : bytes ≡ flat_map numbered_frame rows ++ left
  pub no_row : HasNoRow count left

-- ---- images

-- The bytes are the image of these rows: the head, with a key and the number of the capabilities; the capabilities, which
-- rise strictly by their bytes, and each of which some row tells; the rows, each telling a capability; the trailer.
pub record IsImageTwo (bytes n : List ℕ) (rows : List RawValue) : Type 0 where
  pub told : List Capability
  pub numbered : List NumberedRow
  pub key : IsKey n
  pub told_count : length told < 2 ^ 32
  pub told_fit : AllByRecursion FitsCapability told
  pub up : AreRising told
  pub fit : AllByRecursion (FitsBelow (length told)) numbered
  pub used : AreAllTold (length told) numbered
  pub count : length numbered < 2 ^ 32
  pub spelled : bytes ≡ head_two n (length told) ++ (flat_map capability_frame told ++ (flat_map numbered_frame numbered ++ trailer (length numbered)))
  pub rows_are : rows ≡ map (row_among told) numbered

-- behind fewer capabilities than are counted no further one is told, from byte `at` on
pub record ToldStopAt (bytes : List ℕ) (at : ℕ) : Type 0 where
  pub head : ImageHead
  pub behind : List ℕ
  pub told : List Capability
  pub left : List ℕ
  pub head_fits : IsImageHead head
  pub parts : bytes ≡ head_two_spelling head ++ behind
  pub are_told : AreToldInFront behind head.count told left
  pub few : length told < head.count
  pub place : at + length left ≡ length bytes

-- Behind all capabilities and some rows no further row stands, and what does is not the end of an image of these rows, or
-- a capability is told by none of them, from byte `at` on.
pub record RowsStopAt (bytes : List ℕ) (at : ℕ) : Type 0 where
  pub head : ImageHead
  pub behind : List ℕ
  pub told : List Capability
  pub middle : List ℕ
  pub numbered : List NumberedRow
  pub left : List ℕ
  pub head_fits : IsImageHead head
  pub parts : bytes ≡ head_two_spelling head ++ behind
  pub are_told : AreToldInFront behind head.count told middle
  pub all : length told ≡ head.count
  pub are_numbered : AreNumbered middle (length told) numbered left
  pub no_end : length numbered < 2 ^ 32 → AreAllTold (length told) numbered → left ≡ trailer (length numbered) → ⊥
  pub place : at + length left ≡ length bytes

-- the bytes are no image: they have no head, and go wrong from their first byte on, or they go wrong behind it
abbrev pub IsWrongTwo : List ℕ → ℕ → Type 0
IsWrongTwo bytes at = (HasNoHead bytes × (at ≡ 0)) ⊎ (ToldStopAt bytes at ⊎ RowsStopAt bytes at)

-- the bytes are an image of rows that are refused for their order
pub record IsMisorderedTwo (bytes : List ℕ) (refusal : ImageRefusal) : Type 0 where
  pub namespace : List ℕ
  pub rows : List RawValue
  pub is_image : IsImageTwo bytes namespace rows
  pub refused : order_refusal (raw_rows rows) ≡ Some refusal

-- the rows of an image in good order, or just why there are none; for want of memory nothing is said
abbrev pub ReadsImageTwo : List ℕ → Result Image (End ImageRefusal) → Type 0
ReadsImageTwo bytes (Ok found) = IsImageTwo bytes found.namespace found.rows.items × (order_refusal (raw_rows found.rows.items) ≡ None)
ReadsImageTwo bytes (Err (Refused (BadImage at))) = IsWrongTwo bytes at
ReadsImageTwo bytes (Err (Refused (NotRising at))) = IsMisorderedTwo bytes (NotRising at)
ReadsImageTwo bytes (Err (Refused (Pruned at by))) = IsMisorderedTwo bytes (Pruned at by)
ReadsImageTwo bytes (Err NoMemory) = Unit {0}

-- the same of bytes whose rows' order is not looked at
abbrev pub ReadsRowsTwo : List ℕ → Result Image (End ImageRefusal) → Type 0
ReadsRowsTwo bytes (Ok found) = IsImageTwo bytes found.namespace found.rows.items
ReadsRowsTwo bytes (Err (Refused (BadImage at))) = IsWrongTwo bytes at
ReadsRowsTwo bytes (Err (Refused (NotRising at))) = ⊥
ReadsRowsTwo bytes (Err (Refused (Pruned at by))) = ⊥
ReadsRowsTwo bytes (Err NoMemory) = Unit {0}
