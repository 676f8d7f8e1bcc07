-- A step of a chain hashes a message of 55 bytes, which is one block with its padding.
use Rattle.std.proofs.Common.{◌≡◌, ℕ, ◌+◌, ◌-◌, ◌*◌, ◌/◌, ◌%◌, ◌^◌, ◌<◌, ◌≤◌, List, [], ◌∷◌, ◌++◌, length, slice_index, refl, sym, ap, ◌∙◌, arith, length-append}
use Rattle.std.proofs.lemmas.List.{get_or_append_left, get_or-append_right, take_all}
use Rattle.std.specs.Int.{w32, to_be_bytes, from_be_bytes}
use Rattle.sha2.specs.Sha256.{add32, compress, digest_bytes, first_words, hash_after, initial_hash_256, padding, sha256, word_at}
use Rattle.sha2.proofs.Schedule256.{slice_index-first_words, slice_index-schedule_first}
use Rattle.sha_lanes.specs.Step.{IsBegun, IsFront, IsNumbered, joined, scheduled, step_block}

-- three bytes of x and one of y, by shifts
pub joined_shifts : (x y : ℕ) → x < 2 ^ 32 → y < 2 ^ 32 → add32 (x * 2 ^ 8 % 2 ^ 32) (y / 2 ^ 24) ≡ joined x y
joined_shifts x y hx hy = omega arith

-- a word that lies behind the first bytes
word_behind : (f r : List ℕ) (n i j : ℕ) → length f ≡ n → i ≡ n + j → word_at (f ++ r) i ≡ word_at r j
word_behind f r n i j lf e =
    let at = λ (a b : ℕ) (g : n ≤ a) (same : a - n ≡ b). get_or-append_right f r n a 0 lf g ∙ ap (λ (k : ℕ). slice_index r k) same in
    let p0 = at i j (omega arith) (omega arith) in
    let p1 = at (i + 1) (j + 1) (omega arith) (omega arith) in
    let p2 = at (i + 2) (j + 2) (omega arith) (omega arith) in
    let p3 = at (i + 3) (j + 3) (omega arith) (omega arith) in
    ap (from_be_bytes w32) (λ k. p0 k ∷ p1 k ∷ p2 k ∷ p3 k ∷ [])

-- a word of the first bytes
pub word_before : (f r : List ℕ) (i : ℕ) → i + 4 ≤ length f → word_at (f ++ r) i ≡ word_at f i
word_before f r i h =
    let p0 = get_or_append_left f r 0 i (omega arith) in
    let p1 = get_or_append_left f r 0 (i + 1) (omega arith) in
    let p2 = get_or_append_left f r 0 (i + 2) (omega arith) in
    let p3 = get_or_append_left f r 0 (i + 3) (omega arith) in
    ap (from_be_bytes w32) (λ k. p0 k ∷ p1 k ∷ p2 k ∷ p3 k ∷ [])

-- the word across the end of the first 23 bytes
word_across : (f r : List ℕ) → length f ≡ 23 → word_at (f ++ r) 20 ≡ from_be_bytes w32 (slice_index f 20 ∷ slice_index f 21 ∷ slice_index f 22 ∷ slice_index r 0 ∷ [])
word_across f r lf =
    let p0 = get_or_append_left f r 0 20 (omega arith) in
    let p1 = get_or_append_left f r 0 21 (omega arith) in
    let p2 = get_or_append_left f r 0 22 (omega arith) in
    let p3 = get_or-append_right f r 23 23 0 lf (omega arith) in
    ap (from_be_bytes w32) (λ k. p0 k ∷ p1 k ∷ p2 k ∷ p3 k ∷ [])

-- the first five words of a step's block are the front's
pub step_begins : (front : List ℕ) (j : ℕ) (value : List ℕ) → length front ≡ 22 → (t : ℕ) → t < 5 → word_at (step_block front j value) (4 * t) ≡ word_at front (4 * t)
step_begins front j value long t lt =
    word_before (front ++ j ∷ []) (value ++ padding 55) (4 * t) (omega (arith, length-append front (j ∷ []), long, lt))
    ∙ word_before front (j ∷ []) (4 * t) (omega (arith, long, lt))

-- and the last two are the padding's
step_ends : (front : List ℕ) (j : ℕ) (value : List ℕ) (t n : ℕ) → length front ≡ 22 → length value ≡ 32 → t ≡ 55 + n
    → word_at (step_block front j value) t ≡ word_at (padding 55) n
step_ends front j value t n lf lv e =
    word_behind (front ++ j ∷ []) (value ++ padding 55) 23 t (32 + n) (omega (arith, length-append front (j ∷ []), lf)) (omega (arith, e))
    ∙ word_behind value (padding 55) 32 (32 + n) n lv refl

pub step_word_14 : (front : List ℕ) (j : ℕ) (value : List ℕ) → length front ≡ 22 → length value ≡ 32 → word_at (step_block front j value) 56 ≡ 0
step_word_14 front j value lf lv = step_ends front j value 56 1 lf lv refl

pub step_word_15 : (front : List ℕ) (j : ℕ) (value : List ℕ) → length front ≡ 22 → length value ≡ 32 → word_at (step_block front j value) 60 ≡ 440
step_word_15 front j value lf lv = step_ends front j value 60 5 lf lv refl

-- the words of a step's block, where the value is a digest
block_words : (w front : List ℕ) (at ends a b c d e g h j : ℕ) → IsBegun w front → IsNumbered ends (front ++ at ∷ [])
    → (slice_index w 0 ∷ slice_index w 1 ∷ slice_index w 2 ∷ slice_index w 3 ∷ slice_index w 4 ∷ joined ends a
    ∷ joined a b ∷ joined b c ∷ joined c d ∷ joined d e ∷ joined e g ∷ joined g h ∷ joined h j ∷ joined j 0x80000000 ∷ 0 ∷ 440 ∷ [])
    ≡ first_words (step_block front at (digest_bytes (a ∷ b ∷ c ∷ d ∷ e ∷ g ∷ h ∷ j ∷ []) 8)) 16
unfolding first_words digest_bytes
block_words w front at ends a b c d e g h j begun numbered =
    let f = front ++ at ∷ [] in
    let value = digest_bytes (a ∷ b ∷ c ∷ d ∷ e ∷ g ∷ h ∷ j ∷ []) 8 in
    let r = value ++ padding 55 in
    let lf = numbered.long in
    let late = λ (i n : ℕ) (s : i ≡ 23 + n). sym (word_behind f r 23 i n lf s) in
    let early = λ (t : ℕ) (lt : t < 5). begun.begins t lt ∙ sym (step_begins front at value begun.long t lt) in
    let w0 = early 0 (omega arith) in
    let w1 = early 1 (omega arith) in
    let w2 = early 2 (omega arith) in
    let w3 = early 3 (omega arith) in
    let w4 = early 4 (omega arith) in
    let w5 : joined ends a ≡ word_at (f ++ r) 20 =
    (λ i. from_be_bytes w32 (numbered.byte_20 i ∷ numbered.byte_21 i ∷ numbered.byte_22 i ∷ slice_index (to_be_bytes w32 a) 0 ∷ [])) ∙ sym (word_across f r lf) in
    let w6 = late 24 1 refl in
    let w7 = late 28 5 refl in
    let w8 = late 32 9 refl in
    let w9 = late 36 13 refl in
    let w10 = late 40 17 refl in
    let w11 = late 44 21 refl in
    let w12 = late 48 25 refl in
    let w13 = late 52 29 refl in
    let w14 = late 56 33 refl in
    let w15 = late 60 37 refl in
    (λ i. w0 i ∷ w1 i ∷ w2 i ∷ w3 i ∷ w4 i ∷ w5 i ∷ w6 i ∷ w7 i ∷ w8 i ∷ w9 i ∷ w10 i ∷ w11 i ∷ w12 i ∷ w13 i ∷ w14 i ∷ w15 i ∷ [])

-- words 5 to 15 of a block's schedule, where these are the last word of its front and the words of its value
pub record HasStepWords (block : List ℕ) (ends a b c d e g h j : ℕ) : Type 0 where
  pub word_5 : joined ends a ≡ scheduled block 5
  pub word_6 : joined a b ≡ scheduled block 6
  pub word_7 : joined b c ≡ scheduled block 7
  pub word_8 : joined c d ≡ scheduled block 8
  pub word_9 : joined d e ≡ scheduled block 9
  pub word_10 : joined e g ≡ scheduled block 10
  pub word_11 : joined g h ≡ scheduled block 11
  pub word_12 : joined h j ≡ scheduled block 12
  pub word_13 : joined j 0x80000000 ≡ scheduled block 13
  pub word_14 : 0 ≡ scheduled block 14
  pub word_15 : 440 ≡ scheduled block 15

pub HasStepWords-step : (w front : List ℕ) (at ends a b c d e g h j : ℕ) → IsBegun w front → IsNumbered ends (front ++ at ∷ [])
    → HasStepWords (step_block front at (digest_bytes (a ∷ b ∷ c ∷ d ∷ e ∷ g ∷ h ∷ j ∷ []) 8)) ends a b c d e g h j
HasStepWords-step w front at ends a b c d e g h j begun numbered =
    let block = step_block front at (digest_bytes (a ∷ b ∷ c ∷ d ∷ e ∷ g ∷ h ∷ j ∷ []) 8) in
    let same = block_words w front at ends a b c d e g h j begun numbered in
    let of = λ (t : ℕ) (low : t < 16). ap (λ (words : List ℕ). slice_index words t) same ∙ slice_index-first_words block 16 t low ∙ sym (slice_index-schedule_first block 48 t low) in
    record {
      word_5 = of 5 (omega arith);
      word_6 = of 6 (omega arith);
      word_7 = of 7 (omega arith);
      word_8 = of 8 (omega arith);
      word_9 = of 9 (omega arith);
      word_10 = of 10 (omega arith);
      word_11 = of 11 (omega arith);
      word_12 = of 12 (omega arith);
      word_13 = of 13 (omega arith);
      word_14 = of 14 (omega arith);
      word_15 = of 15 (omega arith);
    }

-- the digest of a message of one block
pub one_block : (m : List ℕ) → length m ≡ 55 → sha256 m ≡ digest_bytes (compress initial_hash_256 (m ++ padding 55)) 8
unfolding sha256 hash_after
one_block m lm =
    let p = m ++ padding 55 in
    let lp : length p ≡ 64 = omega (arith, length-append m (padding 55), lm) in
    let n : length p / 64 ≡ 1 = omega arith in
    rw (lm, n, take_all 64 p (omega arith)) refl

pub length-digest : (a b c d e g h j : ℕ) → length (digest_bytes (a ∷ b ∷ c ∷ d ∷ e ∷ g ∷ h ∷ j ∷ []) 8) ≡ 32
unfolding digest_bytes
length-digest a b c d e g h j = refl

number_bytes : (x y z : ℕ) → x < 256 → y < 256 → z < 256 →
    (slice_index (to_be_bytes w32 (add32 ((x * 256 + y) * 256) z)) 1 ≡ x)
    × (slice_index (to_be_bytes w32 (add32 ((x * 256 + y) * 256) z)) 2 ≡ y)
    × (slice_index (to_be_bytes w32 (add32 ((x * 256 + y) * 256) z)) 3 ≡ z)
number_bytes x y z hx hy hz = (omega arith, omega arith, omega arith)

-- a front with a number behind it
pub front_numbered : (w f : List ℕ) (x at : ℕ) → at < 256 → IsFront w f → x ≡ add32 (slice_index w 5) at → IsNumbered x (f ++ at ∷ [])
front_numbered w f x at low u is =
    let lf = u.long in
    let r = at ∷ [] in
    let whole : x ≡ add32 ((slice_index f 20 * 256 + slice_index f 21) * 256) at = is ∙ ap (λ (x : ℕ). add32 x at) u.word_5 in
    let bytes = number_bytes (slice_index f 20) (slice_index f 21) at u.byte_20 u.byte_21 low in
    let of = λ (k : ℕ). ap (λ (x : ℕ). slice_index (to_be_bytes w32 x) k) whole in
    record {
      long = omega (arith, length-append f r, lf);
      byte_20 = of 1 ∙ bytes.0 ∙ sym (get_or_append_left f r 0 20 (omega arith));
      byte_21 = of 2 ∙ bytes.1 ∙ sym (get_or_append_left f r 0 21 (omega arith));
      byte_22 = of 3 ∙ bytes.2 ∙ sym (get_or-append_right f r 22 22 0 lf (omega arith));
    }

-- the last two bytes of a front, out of its last whole word
pub last_two : (v : List ℕ) → ((i : ℕ) → slice_index v i < 256) → word_at v 18 * 2 ^ 16 % 2 ^ 32 / 2 ^ 8 ≡ (slice_index v 20 * 256 + slice_index v 21) * 256
last_two v bytes = omega (arith, bytes 18, bytes 19, bytes 20, bytes 21)
