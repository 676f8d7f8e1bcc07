-- The forms of a value.
use Rattle.std.specs.Prelude.{◌≡◌, ◌≢◌, ℕ, ◌<◌, ◌≤◌, ◌^◌, Bool, ◌&&◌, ◌||◌, List, [], ◌∷◌, ◌++◌, length, slice_index, EachIndex, Option, Some, None, Ok, codes, nat_le, ◌==◌, IsTrue, String}
use Rattle.std.specs.Fmt.{decimal}
use Rattle.std.specs.List.{list_all}
use Rattle.std.specs.String.{string_bytes}
use Rattle.std.specs.declared.alloc.Global.{Global}
use Rattle.hex.specs.Hex.{decode_of, decode_sized}
use Rattle.lms_core.specs.declared.height.Height.{Height}
use Rattle.lms_core.specs.declared.height.Height.TheVariants.{H5, H10}
use Rattle.mc_cap.specs.declared.capability.Mode.{Mode}
use Rattle.mc_cap.specs.declared.capability.Mode.TheVariants as mode
use Rattle.willow_path.specs.Key.{IsKey}
use Rattle.willow_path.specs.Path.{IsPath}
use Rattle.willow_path.specs.declared.key.Digest.{Digest}
use Rattle.peer_words.specs.declared.limits.TheConstants.{MOST_LINKS, MOST_NAME_BYTES, MOST_PLACE_BYTES, MOST_PORT, MOST_ROWS}

-- 66 hexadecimal digits, of either case, that are the bytes of a key
pub record IsKeyWord (word key : List ℕ) : Type 0 where
  pub digits : decode_sized word 33 ≡ Ok key
  pub is_key : IsKey key

-- `any`, or a key
abbrev pub IsAnyOrKey : List ℕ → Option (List ℕ) → Type 0
IsAnyOrKey word None = word ≡ codes "any"
IsAnyOrKey word (Some key) = IsKeyWord word key

-- 64 hexadecimal digits, of either case
abbrev pub IsDigestWord : List ℕ → Digest → Type 0
IsDigestWord word digest = decode_sized word 32 ≡ Ok digest.0

-- decimal digits without a leading zero, of a number of 64 bits
pub record IsNumber (word : List ℕ) (n : ℕ) : Type 0 where
  pub digits : word ≡ decimal n
  pub fits : n < 2 ^ 64

-- `none`, or a number
abbrev pub IsNumberOrNone : List ℕ → Option ℕ → Type 0
IsNumberOrNone word None = word ≡ codes "none"
IsNumberOrNone word (Some n) = IsNumber word n

-- a number between two bounds
pub record IsNumberWithin (least most : ℕ) (word : List ℕ) (n : ℕ) : Type 0 where
  pub number : IsNumber word n
  pub low : least ≤ n
  pub high : n ≤ most

-- how many rows: at least 1
abbrev pub IsCount : List ℕ → ℕ → Type 0
IsCount = IsNumberWithin 1 MOST_ROWS

-- how many links: at least 1
abbrev pub IsLinks : List ℕ → ℕ → Type 0
IsLinks = IsNumberWithin 1 MOST_LINKS

-- a letter or a digit of ASCII
abbrev pub is_letter_or_digit : ℕ → Bool
is_letter_or_digit c = (nat_le 48 c && nat_le c 57) || ((nat_le 65 c && nat_le c 90) || (nat_le 97 c && nat_le c 122))

-- a letter, a digit, `.`, `_` or `-`
abbrev pub is_name_byte : ℕ → Bool
is_name_byte c = is_letter_or_digit c || ((c == 46) || ((c == 95) || (c == 45)))

-- the name of a file: letters, digits, `.`, `_` and `-`, of which the first is a letter or digit
pub record IsName (word : List ℕ) : Type 0 where
  pub first : IsTrue (is_letter_or_digit (slice_index word 0))
  pub others : IsTrue (list_all is_name_byte word)
  pub short : length word ≤ MOST_NAME_BYTES

-- a text that is the word
abbrev pub IsNameWord : List ℕ → String Global → Type 0
IsNameWord word name = (string_bytes name ≡ word) × IsName word

-- `5` or `10`
abbrev pub IsHeight : List ℕ → Height → Type 0
IsHeight word H5 = word ≡ codes "5"
IsHeight word H10 = word ≡ codes "10"

-- `read` or `write`
abbrev pub IsMode : List ℕ → Mode → Type 0
IsMode word mode.Read = word ≡ codes "read"
IsMode word mode.Write = word ≡ codes "write"

-- a host and a port: a text without `:`, a `:` and a number from 1 to 65,535
pub record IsHostAndPort (word : List ℕ) : Type 0 where
  pub host : List ℕ
  pub port : ℕ
  pub digits : List ℕ
  pub spelled : word ≡ host ++ 58 ∷ digits
  pub is_host : EachIndex host (λ k. slice_index host k ≢ 58)
  pub some_host : 0 < length host
  pub is_port : IsNumberWithin 1 MOST_PORT digits port

-- a host and a port, not too long
pub record IsPlace (word : List ℕ) : Type 0 where
  pub short : length word ≤ MOST_PLACE_BYTES
  pub parts : IsHostAndPort word

abbrev pub IsPlaceWord : List ℕ → String Global → Type 0
IsPlaceWord word place = (string_bytes place ≡ word) × IsPlace word

-- per component `/` and its hexadecimal digits, of either case
abbrev pub AreParts : List ℕ → List (List ℕ) → Type 0
AreParts word [] = word ≡ []
AreParts word (part ∷ parts) = (digits : List ℕ) × (rest : List ℕ) × (word ≡ 47 ∷ digits ++ rest) × (decode_of digits ≡ Ok part) × AreParts rest parts

-- `.` for the path without components, and else the components
abbrev pub SpellsPath : List ℕ → List (List ℕ) → Type 0
SpellsPath word [] = word ≡ codes "."
SpellsPath word (part ∷ parts) = AreParts word (part ∷ parts)

-- a path within the limits
pub record IsPathWord (word : List ℕ) (path : List (List ℕ)) : Type 0 where
  pub spelled : SpellsPath word path
  pub is_path : IsPath path

-- components one after another that are a path within the limits
pub record IsParts (word : List ℕ) (path : List (List ℕ)) : Type 0 where
  pub parts : AreParts word path
  pub is_path : IsPath path
