-- How a range of times is spelled, and how it is read.
use Rattle.std.specs.Prelude.{ℕ, min, List, [], ◌∷◌, ◌++◌, nat_lt, slice_index_or}
use Rattle.std.specs.Int.{w64, from_be_bytes, to_be_bytes}
use Rattle.spelling.specs.Front.{Front, Whole, ◌>>=◌}
use Rattle.spelling.specs.Reading.{guard, number_at, option_at}
use Rattle.spelling.specs.Spelling.{option_spelling}
use Rattle.willow_area.specs.Times.{Times}

-- the start, and a byte 00 for no end or a byte 01 and the end
abbrev pub times_spelling : Times → List ℕ
times_spelling times = to_be_bytes w64 times.start ++ option_spelling (to_be_bytes w64) times.end

-- the byte at a place, or ff behind the end
abbrev pub byte_or_ff : List ℕ → ℕ → ℕ
byte_or_ff bytes i = min (slice_index_or bytes i 255) 255

-- the highest number of eight bytes that begins with the bytes, or that they begin with
unfoldable pub highest : List ℕ → ℕ
highest bytes = from_be_bytes w64 (byte_or_ff bytes 0 ∷ byte_or_ff bytes 1 ∷ byte_or_ff bytes 2 ∷ byte_or_ff bytes 3 ∷ byte_or_ff bytes 4 ∷ byte_or_ff bytes 5 ∷ byte_or_ff bytes 6 ∷ byte_or_ff bytes 7 ∷ [])

-- a number above the start; wrong as soon as no number that begins with the bytes is above it
unfoldable pub above_at : ℕ → List ℕ → Front ℕ
above_at start bytes = guard (nat_lt start (highest bytes)) (number_at w64 bytes)

-- a range of times
unfoldable pub times_at : List ℕ → Front Times
times_at bytes = do
  start ← number_at w64 bytes
  end ← option_at (above_at start.0) start.1
  Whole (record { start = start.0; end = end.0 }) end.1
