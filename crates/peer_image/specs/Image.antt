-- Images: all rows of a store as one file, of version 2: each capability is told once, and a row tells its own by a number.
use Rattle.std.specs.Prelude.{ℕ, ◌+◌, List, [], ◌∷◌, ◌++◌, length, map, if◌then◌else◌}
use Rattle.std.specs.List.{flat_map}
use Rattle.std.specs.Int.{w32, to_be_bytes}
use Rattle.spelling.specs.Spelling.{text_spelling}
use Rattle.willow_entry.specs.Entry.{bytes_cmp, same_bytes}
use Rattle.willow_entry.specs.EntryForm.{entry_spelling}
use Rattle.willow_entry.specs.Pruning.{rising}
use Rattle.willow_entry.specs.Row.{RowValue}
use Rattle.cap_codec.specs.TokenParts.{capability_in, signature_in}

-- the text WIM2
abbrev pub magic_two : List ℕ
magic_two = 87 ∷ 73 ∷ 77 ∷ 50 ∷ []

-- four bytes 00, where else the length of a frame would stand, and the number of rows in four bytes
abbrev pub trailer : ℕ → List ℕ
trailer count = 0 ∷ 0 ∷ 0 ∷ 0 ∷ to_be_bytes w32 count

-- the text WIM2, the namespace key, and the number of the capabilities in four bytes
abbrev pub head_two : List ℕ → ℕ → List ℕ
head_two n count = (magic_two ++ n) ++ to_be_bytes w32 count

-- the number of the bytes in four bytes, and the bytes
abbrev pub bytes_frame : List ℕ → List ℕ
bytes_frame = text_spelling (to_be_bytes w32)

-- the capability of a row, spelled
abbrev pub capability_bytes : RowValue → List ℕ
capability_bytes r = capability_in r.token

-- the capabilities of the rows, rising by their bytes, each once
abbrev pub capabilities : List RowValue → List (List ℕ)
capabilities rows = rising bytes_cmp (map capability_bytes rows)

-- the place of a capability among others, counted from 0
unfoldable pub place_in : List (List ℕ) → List ℕ → ℕ
place_in [] c = 0
place_in (d ∷ others) c = if same_bytes d c then 0 else place_in others c + 1

-- the entry of a row, a number for its capability in four bytes, and its signature field
abbrev pub numbered_as : ℕ → RowValue → List ℕ
numbered_as number r = entry_spelling r.entry ++ (to_be_bytes w32 number ++ signature_in r.token)

-- with the place of its capability as the number, in a frame
abbrev pub placed_frame : List (List ℕ) → RowValue → List ℕ
placed_frame told r = bytes_frame (numbered_as (place_in told (capability_bytes r)) r)

-- The head with the number of the capabilities, the capabilities of the rows in frames, the rows in frames, in their
-- order and each with the place of its capability, and the trailer.
unfoldable pub image : List ℕ → List RowValue → List ℕ
image n rows =
    head_two n (length (capabilities rows))
    ++ (flat_map bytes_frame (capabilities rows) ++ (flat_map (placed_frame (capabilities rows)) rows ++ trailer (length rows)))
