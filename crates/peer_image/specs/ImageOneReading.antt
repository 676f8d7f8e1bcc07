-- Bytes that are an image, and where bytes that are none go wrong.
use Rattle.std.specs.Prelude.{◌≡◌, ℕ, ◌+◌, ◌<◌, ◌^◌, ◌⊎◌, List, ◌++◌, length, map, Some, None, Result, Ok, Err}
use Rattle.std.specs.List.{flat_map, AllByRecursion}
use Rattle.spelling.specs.Front.{Front, ◌>>=◌}
use Rattle.spelling.specs.Memory.{Behind}
use Rattle.spelling.specs.Reading.{exactly_at}
use Rattle.spelling.specs.declared.ending.End.{End}
use Rattle.spelling.specs.declared.ending.End.TheVariants.{Refused, NoMemory}
use Rattle.willow_path.specs.Key.{IsKey, key_at}
use Rattle.willow_entry.specs.Row.{RowValue, live}
use Rattle.willow_entry.specs.Frame.{FrameAsks, HasFrame}
use Rattle.cap_codec.specs.Rows.{RawValue, row_of, IsRawRow, FitsFrame, frame}
use Rattle.cap_codec.specs.Streams.{HasNoFrame}
use Rattle.peer_image.specs.declared.refusal.ImageRefusal.{ImageRefusal}
use Rattle.peer_image.specs.declared.refusal.ImageRefusal.TheVariants.{BadImage, NotRising, Pruned}
use Rattle.peer_image.specs.declared.read.Image.{Image}
use Rattle.peer_image.specs.Image.{trailer}
use Rattle.peer_image.specs.ImageOne.{image_one, magic_one}
use Rattle.peer_image.specs.Order.{order_refusal, AreOf}

-- what a store sees of the rows
abbrev pub raw_rows : List RawValue → List RowValue
raw_rows = map row_of

-- the text WIM1 and a key
abbrev pub header_spelling : List ℕ → List ℕ
header_spelling n = magic_one ++ n

-- the same, read
unfoldable pub header_at : List ℕ → Front (List ℕ)
header_at bytes = do
  text ← exactly_at magic_one bytes
  key_at text.1

-- an image asks for memory behind its header, where the first frame does
abbrev pub ImageOneAsks : List ℕ → Type 0
ImageOneAsks bytes = Behind (header_at bytes) (λ key rest. FrameAsks rest)

-- the bytes are the image of rows that frames may carry, fewer than a count of four bytes can tell
pub record IsImageOne (bytes n : List ℕ) (rows : List RawValue) : Type 0 where
  pub key : IsKey n
  pub fit : AllByRecursion FitsFrame rows
  pub count : length rows < 2 ^ 32
  pub spelled : bytes ≡ image_one n (raw_rows rows)

-- the text WIM1, a key and the frames of these rows stand in front of what is left
pub record IsFront (bytes n : List ℕ) (rows : List RawValue) (left : List ℕ) : Type 0 where
  pub key : IsKey n
  pub fit : AllByRecursion FitsFrame rows
  pub parts : bytes ≡ (magic_one ++ n) ++ (flat_map frame rows ++ left)

-- no text WIM1 with a key behind it stands in front
abbrev pub HasNoHeader : List ℕ → Type 0
HasNoHeader bytes = (n left : List ℕ) → IsKey n → bytes ≡ (magic_one ++ n) ++ left → ⊥

-- behind these rows stands neither a further frame nor the end of an image
pub record IsStuck (rows : List RawValue) (left : List ℕ) : Type 0 where
  pub no_frame : HasNoFrame left
  pub no_trailer : length rows < 2 ^ 32 → left ≡ trailer (length rows) → ⊥

-- the bytes go wrong behind their frames, from byte `at` on
pub record ImageStopsAt (bytes : List ℕ) (at : ℕ) : Type 0 where
  pub namespace : List ℕ
  pub rows : List RawValue
  pub left : List ℕ
  pub front : IsFront bytes namespace rows left
  pub stuck : IsStuck rows left
  pub place : at + length left ≡ length bytes

-- the bytes are no image: they have no header, and go wrong from their first byte on, or they go wrong
-- behind their frames
abbrev pub IsWrongOne : List ℕ → ℕ → Type 0
IsWrongOne bytes at = (HasNoHeader bytes × (at ≡ 0)) ⊎ ImageStopsAt bytes at

-- the bytes are an image of rows that are refused for their order
pub record IsMisorderedOne (bytes : List ℕ) (refusal : ImageRefusal) : Type 0 where
  pub namespace : List ℕ
  pub rows : List RawValue
  pub is_image : IsImageOne bytes namespace rows
  pub refused : order_refusal (raw_rows rows) ≡ Some refusal

-- the rows of an image in good order, or just why there are none; for want of memory nothing is said
abbrev pub ReadsImageOne : List ℕ → Result Image (End ImageRefusal) → Type 0
ReadsImageOne bytes (Ok found) = IsImageOne bytes found.namespace found.rows.items × (order_refusal (raw_rows found.rows.items) ≡ None)
ReadsImageOne bytes (Err (Refused (BadImage at))) = IsWrongOne bytes at
ReadsImageOne bytes (Err (Refused (NotRising at))) = IsMisorderedOne bytes (NotRising at)
ReadsImageOne bytes (Err (Refused (Pruned at by))) = IsMisorderedOne bytes (Pruned at by)
ReadsImageOne bytes (Err NoMemory) = Unit {0}

-- the same of bytes whose rows' order is not looked at
abbrev pub ReadsRowsOne : List ℕ → Result Image (End ImageRefusal) → Type 0
ReadsRowsOne bytes (Ok found) = IsImageOne bytes found.namespace found.rows.items
ReadsRowsOne bytes (Err (Refused (BadImage at))) = IsWrongOne bytes at
ReadsRowsOne bytes (Err (Refused (NotRising at))) = ⊥
ReadsRowsOne bytes (Err (Refused (Pruned at by))) = ⊥
ReadsRowsOne bytes (Err NoMemory) = Unit {0}

-- what an image tells: a namespace and rows
pub record Told : Type 0 where
  pub namespace : List ℕ
  pub rows : List RawValue

-- a key, and rows that frames may carry, fewer than a count of four bytes can tell
pub record FitsImage (t : Told) : Type 0 where
  pub key : IsKey t.namespace
  pub fit : AllByRecursion FitsFrame t.rows
  pub count : length t.rows < 2 ^ 32

-- the image that tells it
abbrev pub image_one_spelling : Told → List ℕ
image_one_spelling t = image_one t.namespace (raw_rows t.rows)

-- bytes are the image of at most one list of rows, of one namespace
abbrev pub HaveOneImageOne : Type 0
HaveOneImageOne = (bytes n m : List ℕ) (rows others : List RawValue) → IsImageOne bytes n rows → IsImageOne bytes m others → (n ≡ m) × (rows ≡ others)

-- bytes go wrong at one place at most
abbrev pub HaveOnePlaceOne : Type 0
HaveOnePlaceOne = (bytes : List ℕ) (at other : ℕ) → IsWrongOne bytes at → IsWrongOne bytes other → at ≡ other

-- no bytes both are an image and go wrong
abbrev pub ImagesOneNeverGoWrong : Type 0
ImagesOneNeverGoWrong = (bytes n : List ℕ) (rows : List RawValue) (at : ℕ) → IsImageOne bytes n rows → IsWrongOne bytes at → ⊥

-- what was read is these rows of this namespace, or there was no memory
abbrev pub IsBack : List ℕ → List RowValue → Result Image (End ImageRefusal) → Type 0
IsBack n rows (Ok found) = (found.namespace ≡ n) × (raw_rows found.rows.items ≡ rows)
IsBack n rows (Err e) = e ≡ NoMemory

-- The image of live rows of one namespace, whose tokens can be read, and whose bodies frames may carry, is read
-- back as these.
abbrev pub ReadsBackOne : Type 0
ReadsBackOne = (n m : List ℕ) (rows : List RowValue) (result : Result Image (End ImageRefusal)) → IsKey n → AreOf m rows → AllByRecursion IsRawRow rows → AllByRecursion HasFrame rows
    → length rows < 2 ^ 32 → live rows ≡ rows → ReadsImageOne (image_one n rows) result → IsBack n rows result
