-- Images that are read a part at a time.
use Rattle.std.specs.Prelude.{◌≡◌, ℕ, ◌<◌, ◌≤◌, List, ◌++◌, length}
use Rattle.std.specs.List.{AllByRecursion, flat_map}
use Rattle.willow_path.specs.Key.{IsKey}
use Rattle.cap_codec.specs.Rows.{RawValue, FitsFrame, frame}
use Rattle.cap_codec.specs.Streams.{HasNoFrame}
use Rattle.peer_image.specs.ImageOne.{magic_one}

-- the text WIM1 and this key stand in front of what is left
pub record IsHead (bytes n left : List ℕ) : Type 0 where
  pub key : IsKey n
  pub parts : bytes ≡ (magic_one ++ n) ++ left

-- The frames of these rows, at most so many, stand in front of what is left. Where they are fewer, no further frame does.
pub record IsPart (bytes : List ℕ) (most : ℕ) (rows : List RawValue) (left : List ℕ) : Type 0 where
  pub fit : AllByRecursion FitsFrame rows
  pub parts : bytes ≡ flat_map frame rows ++ left
  pub within : length rows ≤ most
  pub ended : length rows < most → HasNoFrame left
