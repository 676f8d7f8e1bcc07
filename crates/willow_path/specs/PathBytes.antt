-- How the components of a path stand in its bytes: one after the other, each behind a byte for its length.
use Rattle.std.specs.Prelude.{◌≡◌, ℕ, ◌<◌, List, [], ◌∷◌, length, take, drop}
use Rattle.std.specs.List.{flat_map}
use Rattle.willow_path.specs.Path.{IsPath}
use Rattle.willow_path.specs.PathSpelling.{part_spelling}

-- the components in a row, which is a path's spelling behind its first byte
abbrev pub parts_spelling : List (List ℕ) → List ℕ
parts_spelling parts = flat_map part_spelling parts

-- the components that stand in the bytes, no more than the first list is long
unfoldable pub first_parts : List ℕ → List ℕ → List (List ℕ)
first_parts most [] = []
first_parts [] (n ∷ rest) = []
first_parts (x ∷ most) (n ∷ rest) = take n rest ∷ first_parts most (drop n rest)

-- the components that stand in the bytes: never more than there are bytes
unfoldable pub parts_of : List ℕ → List (List ℕ)
parts_of bytes = first_parts bytes bytes

-- the bytes are those of whole components
pub record AreOfParts (bytes : List ℕ) : Type 0 where
  pub spelled : bytes ≡ parts_spelling (parts_of bytes)

-- the bytes are those of a path's components
pub record AreOfPath (bytes : List ℕ) : Type 0 where
  pub whole : AreOfParts bytes
  pub path : IsPath (parts_of bytes)

-- the first component that stands in the bytes, and the bytes of the others
pub record IsFirstPart (bytes part behind : List ℕ) : Type 0 where
  pub parts : parts_of bytes ≡ part ∷ parts_of behind
  pub whole : AreOfParts behind
  pub fewer : length behind < length bytes
