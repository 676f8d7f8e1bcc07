-- How a path is spelled, and how it is read.
use Rattle.std.specs.Prelude.{ℕ, zero, suc, ◌-◌, min, List, [], ◌∷◌, length}
use Rattle.spelling.specs.Front.{Front, Whole, ◌>>=◌}
use Rattle.spelling.specs.Reading.{byte_up_to, text_at}
use Rattle.spelling.specs.Spelling.{byte_spelling, text_spelling, list_spelling}
use Rattle.willow_path.specs.declared.limits.TheConstants.{MAX_PART, MAX_PARTS, MAX_TOTAL}

-- a byte for the length, and the bytes
abbrev pub part_spelling : List ℕ → List ℕ
part_spelling = text_spelling byte_spelling

-- a byte for the number of components, and the components
abbrev pub path_spelling : List (List ℕ) → List ℕ
path_spelling = list_spelling byte_spelling part_spelling

-- a component of a path that has room for so many bytes; wrong as soon as its length is known to be too great
unfoldable pub part_at : ℕ → List ℕ → Front (List ℕ)
part_at room = text_at (byte_up_to (min MAX_PART room))

-- so many components, which have room for so many bytes together
unfoldable pub parts_at : ℕ → ℕ → List ℕ → Front (List (List ℕ))
parts_at room zero bytes = Whole [] bytes
parts_at room (suc count) bytes = do
  part ← part_at room bytes
  others ← parts_at (room - length part.0) count part.1
  Whole (part.0 ∷ others.0) others.1

-- a path
unfoldable pub path_at : List ℕ → Front (List (List ℕ))
path_at bytes = do
  count ← byte_up_to MAX_PARTS bytes
  parts_at MAX_TOTAL count.0 count.1
