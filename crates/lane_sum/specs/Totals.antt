-- Totals of rows, and their fingerprints. A row is told as two strings of bytes: those of its entry, and of its token.
use Rattle.std.specs.Prelude.{ℕ, ◌+◌, ◌-◌, ◌*◌, ◌%◌, ◌^◌, ◌<◌, List, ◌++◌, take, drop, length, sum_by}
use Rattle.std.specs.Int.{w64, to_be_bytes, from_be_bytes}
use Rattle.sha2.specs.Sha256.{sha256}
use Rattle.sha_lanes.specs.declared.message.Message.{Message}
use Rattle.lane_sum.specs.declared.lanes.Lanes.{Lanes}

-- word i of a digest: eight bytes of it, high byte first
unfoldable pub word : ℕ → List ℕ → ℕ
word i digest = from_be_bytes w64 (take 8 (drop (8 * i) digest))

-- word i of a row's leaf, which is the digest of its two strings, one after the other
abbrev pub leaf_word : ℕ → List ℕ × List ℕ → ℕ
leaf_word i row = word i (sha256 (row.0 ++ row.1))

-- one row, and the words of its leaf
abbrev pub leaf_of : List ℕ × List ℕ → Lanes
leaf_of row = record { count = 1; a = leaf_word 0 row; b = leaf_word 1 row; c = leaf_word 2 row; d = leaf_word 3 row }

-- the sum of a word over a list, modulo 2^64
abbrev pub lane_by : {X : Type 0} → (X → ℕ) → List X → ℕ
lane_by f rows = sum_by f rows % 2 ^ 64

-- of a list whose members are told as rows by a function: the number of its members, and the sums of the
-- words of their leaves, each modulo 2^64
abbrev pub total_by : {X : Type 0} → (X → List ℕ × List ℕ) → List X → Lanes
total_by row xs = record {
  count = length xs % 2 ^ 64;
  a = lane_by (λ x. leaf_word 0 (row x)) xs;
  b = lane_by (λ x. leaf_word 1 (row x)) xs;
  c = lane_by (λ x. leaf_word 2 (row x)) xs;
  d = lane_by (λ x. leaf_word 3 (row x)) xs;
}

-- the total of a list of rows
abbrev pub total : List (List ℕ × List ℕ) → Lanes
total rows = total_by (λ row. row) rows

-- a row that is told as the two pieces of a message
abbrev pub told : Message → List ℕ × List ℕ
told m = (m.front.now, m.rest.now)

-- the sum of two numbers modulo 2^64
abbrev pub add64 : ℕ → ℕ → ℕ
add64 m n = (m + n) % 2 ^ 64

-- the difference of two numbers below 2^64, modulo 2^64
abbrev pub less64 : ℕ → ℕ → ℕ
less64 m n = (m + (2 ^ 64 - n)) % 2 ^ 64

-- field by field the sum
abbrev pub sum_of : Lanes → Lanes → Lanes
sum_of x y = record { count = add64 x.count y.count; a = add64 x.a y.a; b = add64 x.b y.b; c = add64 x.c y.c; d = add64 x.d y.d }

-- field by field the difference
abbrev pub rest_of : Lanes → Lanes → Lanes
rest_of x y = record { count = less64 x.count y.count; a = less64 x.a y.a; b = less64 x.b y.b; c = less64 x.c y.c; d = less64 x.d y.d }

-- each field is below 2^64
pub record AreWords (x : Lanes) : Type 0 where
  pub count : x.count < 2 ^ 64
  pub a : x.a < 2 ^ 64
  pub b : x.b < 2 ^ 64
  pub c : x.c < 2 ^ 64
  pub d : x.d < 2 ^ 64

-- a number in eight bytes, high byte first
unfoldable pub word_bytes : ℕ → List ℕ
word_bytes n = to_be_bytes w64 n

-- the digest of the five fields, each in eight bytes
abbrev pub finish_of : Lanes → List ℕ
finish_of x = sha256 ((((word_bytes x.count ++ word_bytes x.a) ++ word_bytes x.b) ++ word_bytes x.c) ++ word_bytes x.d)

-- the fingerprint of a list whose members are told as rows by a function
abbrev pub fingerprint_by : {X : Type 0} → (X → List ℕ × List ℕ) → List X → List ℕ
fingerprint_by row xs = finish_of (total_by row xs)

-- the fingerprint of a list of rows
abbrev pub fingerprint : List (List ℕ × List ℕ) → List ℕ
fingerprint rows = finish_of (total rows)
