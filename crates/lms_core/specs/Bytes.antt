-- Numbers and fields as RFC 8554 reads and writes them in strings of bytes, high byte first.
use Rattle.std.specs.Prelude.{ℕ, List, take, drop}
use Rattle.std.specs.Int.{w16, w32, to_be_bytes, from_be_bytes}

-- u32str: a number in four bytes
unfoldable pub u32_str : ℕ → List ℕ
u32_str n = to_be_bytes w32 n

-- u16str: a number in two bytes
unfoldable pub u16_str : ℕ → List ℕ
u16_str n = to_be_bytes w16 n

-- the n bytes of a string from byte at on
abbrev pub field : ℕ → ℕ → List ℕ → List ℕ
field at n bytes = take n (drop at bytes)

-- strTou32 of the four bytes of a string from byte at on
unfoldable pub u32_at : ℕ → List ℕ → ℕ
u32_at at bytes = from_be_bytes w32 (field at 4 bytes)
