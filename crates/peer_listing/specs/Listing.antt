-- The lines of a listing.
use Rattle.std.specs.Prelude.{ℕ, List, [], ◌∷◌, ◌++◌, codes, decimal, flat_map}
use Rattle.hex.specs.Hex.{encode_lower}
use Rattle.willow_entry.specs.declared.entry.Entry.{Entry}

-- bytes as lower-case hexadecimal digits, two a byte
abbrev pub hex_text : List ℕ → List ℕ
hex_text = encode_lower

-- a component: its digits behind a `/`
abbrev pub part_text : List ℕ → List ℕ
part_text part = codes "/" ++ hex_text part

-- a path: `.` without components, else the components one after the other
abbrev pub path_text : List (List ℕ) → List ℕ
path_text [] = codes "."
path_text (part ∷ parts) = flat_map part_text (part ∷ parts)

-- subspace, path, timestamp, payload length and digest, with one space between, and a newline
abbrev pub listing_line : Entry → List ℕ
listing_line e = hex_text e.subspace ++ (codes " " ++ (path_text e.path ++ (codes " " ++ (decimal e.timestamp ++ (codes " " ++ (decimal e.length ++ (codes " " ++ (hex_text e.digest.0 ++ 10 ∷ []))))))))

-- `namespace KEY rows C` and a newline
abbrev pub listing_head : List ℕ → ℕ → List ℕ
listing_head namespace rows = codes "namespace " ++ (hex_text namespace ++ (codes " rows " ++ (decimal rows ++ 10 ∷ [])))

-- a key and a newline
abbrev pub key_line : List ℕ → List ℕ
key_line key = hex_text key ++ 10 ∷ []
