-- The readers of fields: each answers what stands at the front of bytes.
use Rattle.std.specs.Prelude.{ℕ, zero, suc, List, [], ◌∷◌, length, take, drop, Option, Some, None, Bool, true, false, Result, Ok, Err, IfErr, ◌≡◌, ◌≢◌, nat_lt, nat_le, ◌==◌, if◌then◌else◌}
use Rattle.std.specs.Int.{Width, byte_len, from_be_bytes}
use Rattle.spelling.specs.Front.{Front, Whole, Part, Wrong, ◌>>=◌}
use Rattle.spelling.specs.declared.ending.End.{End}
use Rattle.spelling.specs.declared.ending.End.TheVariants as ends
use Rattle.spelling.specs.declared.ending.NotHere.{NotHere}
use Rattle.spelling.specs.declared.input.Unread.{Unread}
use Rattle.spelling.specs.declared.input.Unread.TheVariants as unread

-- what a test that fails makes wrong
abbrev pub guard : {A : Type 0} → Bool → Front A → Front A
guard true front = front
guard false front = Wrong

-- no byte, where the test holds: a line of its own between the fields
abbrev pub holds_at : Bool → List ℕ → Front (Unit {0})
holds_at true bytes = Whole tt bytes
holds_at false bytes = Wrong

-- one byte
abbrev pub byte_at : List ℕ → Front ℕ
byte_at [] = Part
byte_at (b ∷ rest) = Whole b rest

-- one byte up to a limit
abbrev pub byte_up_to : ℕ → List ℕ → Front ℕ
byte_up_to limit [] = Part
byte_up_to limit (b ∷ rest) = guard (nat_le b limit) (Whole b rest)

-- so many bytes
abbrev pub bytes_at : ℕ → List ℕ → Front (List ℕ)
bytes_at n bytes = if nat_lt (length bytes) n then Part else Whole (take n bytes) (drop n bytes)

-- a number of a width, the highest byte first
abbrev pub number_at : Width → List ℕ → Front ℕ
number_at w bytes = if nat_lt (length bytes) (byte_len w) then Part else Whole (from_be_bytes w (take (byte_len w) bytes)) (drop (byte_len w) bytes)

-- A number of a width up to a limit, the highest byte first. It is wrong as soon as no such number begins with the
-- bytes: the least that does has zeros in place of the bytes that are not there.
abbrev pub number_up_to : Width → ℕ → List ℕ → Front ℕ
number_up_to w limit bytes = guard (nat_le (from_be_bytes w bytes) limit) (number_at w bytes)

-- just these bytes; wrong at the first that differs
unfoldable pub exactly_at : List ℕ → List ℕ → Front (Unit {0})
exactly_at [] bytes = Whole tt bytes
exactly_at (b ∷ due) [] = Part
exactly_at (b ∷ due) (c ∷ bytes) = guard (c == b) (exactly_at due bytes)

-- so many values in a row
unfoldable pub many_at : {A : Type 0} → (List ℕ → Front A) → ℕ → List ℕ → Front (List A)
many_at at zero bytes = Whole [] bytes
many_at at (suc n) bytes = do
  first ← at bytes
  others ← many_at at n first.1
  Whole (first.0 ∷ others.0) others.1

-- what stands behind the flag of an optional value
unfoldable pub behind_flag : {A : Type 0} → (List ℕ → Front A) → ℕ → List ℕ → Front (Option A)
behind_flag at zero bytes = Whole None bytes
behind_flag at (suc zero) bytes = do
  x ← at bytes
  Whole (Some x.0) x.1
behind_flag at (suc (suc flag)) bytes = Wrong

-- a byte 00 for none, or a byte 01 and the value
unfoldable pub option_at : {A : Type 0} → (List ℕ → Front A) → List ℕ → Front (Option A)
option_at at bytes = do
  flag ← byte_at bytes
  behind_flag at flag.0 flag.1

-- a count of bytes, and that many bytes
unfoldable pub text_at : (List ℕ → Front ℕ) → List ℕ → Front (List ℕ)
text_at count_at bytes = do
  n ← count_at bytes
  bytes_at n.0 n.1

-- a count of values, and that many values
unfoldable pub list_at : {A : Type 0} → (List ℕ → Front ℕ) → (List ℕ → Front A) → List ℕ → Front (List A)
list_at count_at at bytes = do
  n ← count_at bytes
  many_at at n.0 n.1

-- why no value was read is what stands at the front; for want of memory nothing is said
abbrev pub Fails : {Y : Type 0} → Unread → Front Y → Type 0
Fails unread.Part front = front ≡ Part
Fails unread.Wrong front = front ≡ Wrong
Fails unread.NoMemory front = Unit {0}

-- what a reader returned, seen by view, is what stands at the front, and the bytes behind it are left
abbrev pub Gives : {X Y : Type 0} → (X → Y) → Result X Unread → List ℕ → Front Y → Type 0
Gives view (Ok x) left front = front ≡ Whole (view x) left
Gives view (Err e) left front = Fails e front

-- the answer is not want of memory
abbrev pub NeedsNoMemory : {X : Type 0} → Result X Unread → Type 0
NeedsNoMemory result = IfErr result (λ e. e ≢ unread.NoMemory)

-- how a decoder ends where its reader read no value
abbrev pub IsEndOf : Unread → End NotHere → Type 0
IsEndOf unread.NoMemory e = e ≡ ends.NoMemory
IsEndOf unread.Part e = e ≡ ends.Refused (record {})
IsEndOf unread.Wrong e = e ≡ ends.Refused (record {})
