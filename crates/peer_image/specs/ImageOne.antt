-- Images of version 1: all rows of a store as one file, each with its capability.
use Rattle.std.specs.Prelude.{ℕ, List, [], ◌∷◌, ◌++◌, length}
use Rattle.std.specs.List.{flat_map}
use Rattle.willow_entry.specs.Row.{RowValue}
use Rattle.willow_entry.specs.Frame.{row_frame}
use Rattle.peer_image.specs.Image.{trailer}

-- the text WIM1
abbrev pub magic_one : List ℕ
magic_one = 87 ∷ 73 ∷ 77 ∷ 49 ∷ []

-- the text WIM1 and the namespace key, the frames of the rows in order, and the trailer
unfoldable pub image_one : List ℕ → List RowValue → List ℕ
image_one n rows = (magic_one ++ n) ++ (flat_map row_frame rows ++ trailer (length rows))
