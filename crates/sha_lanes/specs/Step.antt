-- The block of a chain's step: 22 bytes of a front, a number in one byte, the 32 bytes of a value, and the padding. What
-- the steps of one run of a chain share.
use Rattle.std.specs.Prelude.{◌≡◌, ◌<◌, ◌+◌, ◌*◌, ℕ, List, [], ◌∷◌, ◌++◌, length, slice_index}
use Rattle.std.specs.Int.{w32, to_be_bytes, from_be_bytes}
use Rattle.sha2.specs.Sha256.{add32, digest_bytes, initial_hash_256, padding, rounds, schedule, small_sigma1, word_at}
use Rattle.sha_lanes.specs.Lanes.{hash_in, words_of}
use Rattle.sha_lanes.specs.declared.compression.State.{State}
use Rattle.sha_lanes.specs.declared.step.Midstate.{Midstate}
use Rattle.sha_lanes.specs.declared.step.Sums.{Sums}

-- the word of the last three bytes of x and the first of y
abbrev pub joined : ℕ → ℕ → ℕ
joined x y = from_be_bytes w32
    (slice_index (to_be_bytes w32 x) 1 ∷ slice_index (to_be_bytes w32 x) 2 ∷ slice_index (to_be_bytes w32 x) 3
    ∷ slice_index (to_be_bytes w32 y) 0 ∷ [])

-- the words are those of a front without a number: five whole ones, and the last two bytes in the middle of the sixth
pub record IsFront (words front : List ℕ) : Type 0 where
  pub long : length front ≡ 22
  pub word_0 : slice_index words 0 ≡ word_at front 0
  pub word_1 : slice_index words 1 ≡ word_at front 4
  pub word_2 : slice_index words 2 ≡ word_at front 8
  pub word_3 : slice_index words 3 ≡ word_at front 12
  pub word_4 : slice_index words 4 ≡ word_at front 16
  pub word_5 : slice_index words 5 ≡ (slice_index front 20 * 256 + slice_index front 21) * 256
  pub byte_20 : slice_index front 20 < 256
  pub byte_21 : slice_index front 21 < 256

-- the last three bytes of the word are those of the 23 bytes of a front and a number
pub record IsNumbered (word : ℕ) (bytes : List ℕ) : Type 0 where
  pub long : length bytes ≡ 23
  pub byte_20 : slice_index (to_be_bytes w32 word) 1 ≡ slice_index bytes 20
  pub byte_21 : slice_index (to_be_bytes w32 word) 2 ≡ slice_index bytes 21
  pub byte_22 : slice_index (to_be_bytes w32 word) 3 ≡ slice_index bytes 22

-- the block of a step: a front, a number, a value and the padding of 55 bytes
abbrev pub step_block : List ℕ → ℕ → List ℕ → List ℕ
step_block front j value = (front ++ j ∷ []) ++ (value ++ padding 55)

-- the block begins with the first five of these words, and its last two words are those of the padding of 55 bytes
pub record IsStepOf (words b : List ℕ) : Type 0 where
  pub begins : (t : ℕ) → t < 5 → word_at b (4 * t) ≡ slice_index words t
  pub word_14 : word_at b 56 ≡ 0
  pub word_15 : word_at b 60 ≡ 440

-- of 64 words the first five are a front's, and words 14 and 15 are those of the padding of 55 bytes
pub record IsBegun (words front : List ℕ) : Type 0 where
  pub many : length words ≡ 64
  pub long : length front ≡ 22
  pub begins : (t : ℕ) → t < 5 → slice_index words t ≡ word_at front (4 * t)
  pub word_14 : slice_index words 14 ≡ 0
  pub word_15 : slice_index words 15 ≡ 440

-- word t of the schedule of a block
abbrev pub scheduled : List ℕ → ℕ → ℕ
scheduled b t = slice_index (schedule b 48) t

-- In lane l the sums make words 16 to 19 of the schedule of a block, with words 9 to 12 and with σ1 of words 16 and 17.
pub record AreSums (sums : Sums) (l : ℕ) (b : List ℕ) : Type 0 where
  pub word_16 : scheduled b 16 ≡ add32 (slice_index sums.word_16 l) (scheduled b 9)
  pub word_17 : scheduled b 17 ≡ add32 (slice_index sums.word_17 l) (scheduled b 10)
  pub word_18 : scheduled b 18 ≡ add32 (small_sigma1 (scheduled b 16)) (add32 (slice_index sums.word_18 l) (scheduled b 11))
  pub word_19 : scheduled b 19 ≡ add32 (small_sigma1 (scheduled b 17)) (add32 (slice_index sums.word_19 l) (scheduled b 12))

-- In lane l stand the working variables after the first five rounds of a block, and the sums of its schedule.
pub record IsMidstate (midstate : Midstate) (l : ℕ) (b : List ℕ) : Type 0 where
  pub state : hash_in midstate.state l ≡ rounds initial_hash_256 (schedule b 48) 5
  pub sums : AreSums midstate.sums l b

-- In lane l all is there for a step: the words that the steps share, the number behind the front, and what the step's
-- block has in common with the others.
pub record IsReady (words : List (List ℕ)) (midstate : Midstate) (ends : List ℕ) (value : State) (l : ℕ) (front : List ℕ) (j : ℕ) : Type 0 where
  pub begun : IsBegun (words_of words l) front
  pub numbered : IsNumbered (slice_index ends l) (front ++ j ∷ [])
  pub shared : IsMidstate midstate l (step_block front j (digest_bytes (hash_in value l) 8))
