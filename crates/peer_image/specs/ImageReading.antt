-- Images of either version, told apart by their first four bytes.
use Rattle.std.specs.Prelude.{◌≡◌, ℕ, ◌<◌, ◌^◌, ◌⊎◌, List, length, take, Some, None, Result, Ok, Err}
use Rattle.std.specs.List.{AllByRecursion}
use Rattle.spelling.specs.declared.ending.End.{End}
use Rattle.spelling.specs.declared.ending.End.TheVariants.{Refused, NoMemory}
use Rattle.willow_path.specs.Key.{IsKey}
use Rattle.willow_entry.specs.Row.{RowValue, live}
use Rattle.willow_entry.specs.Frame.{HasFrame}
use Rattle.cap_codec.specs.Rows.{RawValue, FitsFrame, IsRawRow}
use Rattle.peer_image.specs.declared.refusal.ImageRefusal.{ImageRefusal}
use Rattle.peer_image.specs.declared.refusal.ImageRefusal.TheVariants.{BadImage, NotRising, Pruned}
use Rattle.peer_image.specs.declared.read.Image.{Image}
use Rattle.peer_image.specs.Image.{image, magic_two}
use Rattle.peer_image.specs.ImageOne.{image_one}
pub use Rattle.peer_image.specs.ImageOneReading.{raw_rows}
use Rattle.peer_image.specs.ImageOneReading.{ImageOneAsks, IsBack, IsImageOne, IsWrongOne, ReadsImageOne, Told}
use Rattle.peer_image.specs.ImageTwoReading.{ImageTwoAsks, IsImageTwo, IsWrongTwo, ReadsImageTwo}
use Rattle.peer_image.specs.Order.{AreOf, order_refusal}

-- the first four bytes are the text WIM2
abbrev pub IsOfVersionTwo : List ℕ → Type 0
IsOfVersionTwo bytes = take 4 bytes ≡ magic_two

-- the bytes are the image of these rows, of version 2 or of version 1
abbrev pub IsImage : List ℕ → List ℕ → List RawValue → Type 0
IsImage bytes n rows = IsImageTwo bytes n rows ⊎ IsImageOne bytes n rows

-- from byte `at` on the bytes are no image of the version that the first four of them tell
pub record IsWrong (bytes : List ℕ) (at : ℕ) : Type 0 where
  pub two : IsOfVersionTwo bytes → IsWrongTwo bytes at
  pub one : (IsOfVersionTwo bytes → ⊥) → IsWrongOne bytes at

-- the bytes are an image of rows that are refused for their order
pub record IsMisordered (bytes : List ℕ) (refusal : ImageRefusal) : Type 0 where
  pub namespace : List ℕ
  pub rows : List RawValue
  pub is_image : IsImage bytes namespace rows
  pub refused : order_refusal (raw_rows rows) ≡ Some refusal

-- the rows of an image in good order, or just why there are none; for want of memory nothing is said
abbrev pub ReadsImage : List ℕ → Result Image (End ImageRefusal) → Type 0
ReadsImage bytes (Ok found) = IsImage bytes found.namespace found.rows.items × (order_refusal (raw_rows found.rows.items) ≡ None)
ReadsImage bytes (Err (Refused (BadImage at))) = IsWrong bytes at
ReadsImage bytes (Err (Refused (NotRising at))) = IsMisordered bytes (NotRising at)
ReadsImage bytes (Err (Refused (Pruned at by))) = IsMisordered bytes (Pruned at by)
ReadsImage bytes (Err NoMemory) = Unit {0}

-- bytes of version 2 are read as such, others as an image of version 1
pub record ReadsItsVersion (bytes : List ℕ) (result : Result Image (End ImageRefusal)) : Type 0 where
  pub two : IsOfVersionTwo bytes → ReadsImageTwo bytes result
  pub one : (IsOfVersionTwo bytes → ⊥) → ReadsImageOne bytes result

-- where an image of either version asks for memory
pub record ImageAsks (bytes : List ℕ) : Type 0 where
  pub two : IsOfVersionTwo bytes → ImageTwoAsks bytes
  pub one : (IsOfVersionTwo bytes → ⊥) → ImageOneAsks bytes

-- bytes are the image of at most one list of rows, of one namespace
abbrev pub HaveOneImage : Type 0
HaveOneImage = (bytes n m : List ℕ) (rows others : List RawValue) → IsImage bytes n rows → IsImage bytes m others → (n ≡ m) × (rows ≡ others)

-- bytes go wrong at one place at most
abbrev pub HaveOnePlace : Type 0
HaveOnePlace = (bytes : List ℕ) (at other : ℕ) → IsWrong bytes at → IsWrong bytes other → at ≡ other

-- no bytes both are an image and go wrong
abbrev pub ImagesNeverGoWrong : Type 0
ImagesNeverGoWrong = (bytes n : List ℕ) (rows : List RawValue) (at : ℕ) → IsImage bytes n rows → IsWrong bytes at → ⊥

-- bytes are the image of version 2 of at most one list of rows, of one namespace
abbrev pub HaveOneImageTwo : Type 0
HaveOneImageTwo = (bytes n m : List ℕ) (rows others : List RawValue) → IsImageTwo bytes n rows → IsImageTwo bytes m others → (n ≡ m) × (rows ≡ others)

-- bytes go wrong as an image of version 2 at one place at most
abbrev pub HaveOnePlaceTwo : Type 0
HaveOnePlaceTwo = (bytes : List ℕ) (at other : ℕ) → IsWrongTwo bytes at → IsWrongTwo bytes other → at ≡ other

-- no bytes both are an image of version 2 and go wrong
abbrev pub ImagesTwoNeverGoWrong : Type 0
ImagesTwoNeverGoWrong = (bytes n : List ℕ) (rows : List RawValue) (at : ℕ) → IsImageTwo bytes n rows → IsWrongTwo bytes at → ⊥

-- Bytes that are an image of version 2 are the one spelling of its namespace and rows: read and written again, they are
-- the same.
abbrev pub HaveOneSpellingTwo : Type 0
HaveOneSpellingTwo = (bytes n : List ℕ) (rows : List RawValue) → IsImageTwo bytes n rows → bytes ≡ image n (raw_rows rows)

-- the image of version 2 that tells it
abbrev pub image_two_spelling : Told → List ℕ
image_two_spelling t = image t.namespace (raw_rows t.rows)

-- an image of version 2 may tell it
abbrev pub FitsImageTwo : Told → Type 0
FitsImageTwo t = IsImageTwo (image_two_spelling t) t.namespace t.rows

-- The two spellings of a namespace and rows that frames may carry are images of just these.
abbrev pub SpellTheSame : Type 0
SpellTheSame = (n : List ℕ) (rows : List RawValue) → IsKey n → AllByRecursion FitsFrame rows → length rows < 2 ^ 32
    → IsImageOne (image_one n (raw_rows rows)) n rows × IsImageTwo (image n (raw_rows rows)) n rows

-- Live rows of one namespace, whose tokens can be read, and whose bodies frames may carry, are read back from either
-- spelling.
abbrev pub ReadBackAlike : Type 0
ReadBackAlike = (n m : List ℕ) (rows : List RowValue) (one two : Result Image (End ImageRefusal)) → IsKey n → AreOf m rows → AllByRecursion IsRawRow rows → AllByRecursion HasFrame rows
    → length rows < 2 ^ 32 → live rows ≡ rows → ReadsImageOne (image_one n rows) one → ReadsImageTwo (image n rows) two → IsBack n rows one × IsBack n rows two

-- The image of live rows of one namespace, whose tokens can be read, and whose bodies frames may carry, is read
-- back as these.
abbrev pub ReadsBack : Type 0
ReadsBack = (n m : List ℕ) (rows : List RowValue) (result : Result Image (End ImageRefusal)) → IsKey n → AreOf m rows → AllByRecursion IsRawRow rows → AllByRecursion HasFrame rows
    → length rows < 2 ^ 32 → live rows ≡ rows → ReadsImage (image n rows) result → IsBack n rows result
