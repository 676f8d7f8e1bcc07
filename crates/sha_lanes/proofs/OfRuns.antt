-- What the steps of one run of a chain have in common.
use Rattle.std.proofs.Common.{◌≡◌, ℕ, zero, suc, ◌+◌, ◌*◌, ◌<◌, ◌≤◌, List, [], length, slice_index, slice_set, refl, sym, ap, ◌∙◌, arith}
use Rattle.std.proofs.lemmas.List.{get_or-set_same, length-set}
use Rattle.sha2.specs.Sha256.{add32, small_sigma0, small_sigma1, word_at}
use Rattle.sha2.proofs.Schedule256.{slice_index-schedule_first, slice_index-schedule_next}
use Rattle.sha_lanes.specs.Lanes.{IsSchedule, words_of}
use Rattle.sha_lanes.specs.Step.{AreSums, IsBegun, IsFront, IsStepOf, scheduled, step_block}
use Rattle.sha_lanes.specs.declared.step.Sums.{Sums}
use Rattle.sha_lanes.proofs.OfSchedules.{IsSchedule-set, IsSchedule-there, words_of-set, words_of-set_other}
use Rattle.sha_lanes.proofs.OfSteps.{step_begins, step_word_14, step_word_15}

-- a fact of each of five places
in_five : (P : ℕ → Type 0) → P 0 → P 1 → P 2 → P 3 → P 4 → (t : ℕ) → t < 5 → P t
in_five P a b c d e zero h = a
in_five P a b c d e (suc zero) h = b
in_five P a b c d e (suc (suc zero)) h = c
in_five P a b c d e (suc (suc (suc zero))) h = d
in_five P a b c d e (suc (suc (suc (suc zero)))) h = e
in_five P a b c d e (suc (suc (suc (suc (suc t))))) h = absurd (omega arith)

-- the block of any step of a run
pub IsStepOf-step : (w front : List ℕ) (j : ℕ) (value : List ℕ) → IsFront w front → length value ≡ 32 → IsStepOf w (step_block front j value)
IsStepOf-step w front j value is long =
    let at = step_begins front j value is.long in
    let begins : (t : ℕ) → t < 5 → word_at (step_block front j value) (4 * t) ≡ slice_index w t = in_five (λ t. word_at (step_block front j value) (4 * t) ≡ slice_index w t)
    (at 0 (omega arith) ∙ sym is.word_0) (at 1 (omega arith) ∙ sym is.word_1) (at 2 (omega arith) ∙ sym is.word_2)
    (at 3 (omega arith) ∙ sym is.word_3) (at 4 (omega arith) ∙ sym is.word_4) in
    record { begins = begins; word_14 = step_word_14 front j value is.long long; word_15 = step_word_15 front j value is.long long }

-- the first five words of a step's schedule
pub scheduled-front : (front : List ℕ) (j : ℕ) (value : List ℕ) (t : ℕ) → length front ≡ 22 → t < 5 → scheduled (step_block front j value) t ≡ word_at front (4 * t)
scheduled-front front j value t long low = slice_index-schedule_first (step_block front j value) 48 t (omega arith) ∙ step_begins front j value long t low

-- words that begin with a front's are those of each step's schedule
pub IsSchedule-begun : (w front : List ℕ) (j : ℕ) (value : List ℕ) → IsBegun w front → IsSchedule w (step_block front j value) 5
IsSchedule-begun w front j value begun = record {
  long = begun.many;
  each = λ t low. begun.begins t low ∙ sym (scheduled-front front j value t begun.long low);
}

-- after a step its schedule is there, and with it what the next step begins with
pub IsBegun-schedule : (w front : List ℕ) (j : ℕ) (value : List ℕ) → length front ≡ 22 → length value ≡ 32 → IsSchedule w (step_block front j value) 64 → IsBegun w front
IsBegun-schedule w front j value lf lv held =
    let at = λ (t : ℕ) (low : t < 16). held.each t (omega arith) ∙ slice_index-schedule_first (step_block front j value) 48 t low in
    record {
      many = held.long;
      long = lf;
      begins = λ t low. at t (omega (arith, low)) ∙ step_begins front j value lf t low;
      word_14 = at 14 (omega arith) ∙ step_word_14 front j value lf lv;
      word_15 = at 15 (omega arith) ∙ step_word_15 front j value lf lv;
    }

-- the padding's words, put behind the front's
pub IsBegun-put : (vectors : List (List ℕ)) (x y front : List ℕ) (l : ℕ) → length front ≡ 22 → IsSchedule (words_of vectors l) (step_block front 0 []) 5
    → slice_index x l ≡ 0 → slice_index y l ≡ 440 → IsBegun (words_of (slice_set (slice_set vectors 14 x) 15 y) l) front
IsBegun-put vectors x y front l long held ex ey =
    let w = words_of vectors l in
    let inner = slice_set vectors 14 x in
    let e14 : words_of inner l ≡ slice_set w 14 (slice_index x l) = words_of-set vectors x l 14 in
    let e15 : words_of (slice_set inner 15 y) l ≡ slice_set (words_of inner l) 15 (slice_index y l) = words_of-set inner y l 15 in
    let l14 : length (words_of inner l) ≡ 64 = ap length e14 ∙ length-set w 14 (slice_index x l) ∙ held.long in
    record {
      many = ap length e15 ∙ length-set (words_of inner l) 15 (slice_index y l) ∙ l14;
      long = long;
      begins = λ t low. words_of-set_other inner y l 15 t (omega (arith, low)) ∙ words_of-set_other vectors x l 14 t (omega (arith, low))
          ∙ held.each t low ∙ scheduled-front front 0 [] t long low;
      word_14 = words_of-set_other inner y l 15 14 (omega arith) ∙ ap (λ (ws : List ℕ). slice_index ws 14) e14
          ∙ get_or-set_same w 14 (slice_index x l) 0 (omega (arith, held.long)) ∙ ex;
      word_15 = ap (λ (ws : List ℕ). slice_index ws 15) e15 ∙ get_or-set_same (words_of inner l) 15 (slice_index y l) 0 (omega (arith, l14)) ∙ ey;
    }

-- The first t words are those of the schedule of a block, and those behind the value stay as they were.
pub record IsFilled (old words b : List ℕ) (t : ℕ) : Type 0 where
  pub schedule : IsSchedule words b t
  pub stays : (k : ℕ) → 14 ≤ k → slice_index words k ≡ slice_index old k

pub IsFilled-begun : (old front : List ℕ) (j : ℕ) (value : List ℕ) → IsBegun old front → IsFilled old old (step_block front j value) 5
IsFilled-begun old front j value begun = record { schedule = IsSchedule-begun old front j value begun; stays = λ k behind. refl }

pub IsFilled-set : (vectors : List (List ℕ)) (x old b : List ℕ) (l t : ℕ) → t < 14 → IsFilled old (words_of vectors l) b t → slice_index x l ≡ scheduled b t
    → IsFilled old (words_of (slice_set vectors t x) l) b (t + 1)
IsFilled-set vectors x old b l t low filled is = record {
  schedule = IsSchedule-set vectors x b l t (omega (arith, low)) filled.schedule is;
  stays = λ k behind. words_of-set_other vectors x l t k (omega (arith, low, behind)) ∙ filled.stays k behind;
}

pub IsFilled-all : (old words b : List ℕ) → IsFilled old words b 14 → slice_index old 14 ≡ scheduled b 14 → slice_index old 15 ≡ scheduled b 15 → IsSchedule words b 16
IsFilled-all old words b filled e14 e15 =
    let s15 = IsSchedule-there words b 14 filled.schedule (filled.stays 14 (omega arith) ∙ e14) in
    IsSchedule-there words b 15 s15 (filled.stays 15 (omega arith) ∙ e15)

-- sums in another order
sum_16 : (a b c : ℕ) → add32 (add32 (add32 0 c) a) b ≡ add32 (add32 a b) c
sum_16 a b c = omega arith

sum_17 : (k a b c : ℕ) → add32 (add32 (add32 k c) a) b ≡ add32 (add32 (add32 k a) b) c
sum_17 k a b c = omega arith

sum_18 : (k a b c : ℕ) → add32 (add32 (add32 k c) a) b ≡ add32 k (add32 (add32 a b) c)
sum_18 k a b c = omega arith

-- what words 16 to 19 have of the words that the steps share
pub AreSums-shared : (sums : Sums) (w b : List ℕ) (l : ℕ) → IsStepOf w b
    → slice_index sums.word_16 l ≡ add32 (small_sigma0 (slice_index w 1)) (slice_index w 0)
    → slice_index sums.word_17 l ≡ add32 (add32 (small_sigma1 440) (small_sigma0 (slice_index w 2))) (slice_index w 1)
    → slice_index sums.word_18 l ≡ add32 (small_sigma0 (slice_index w 3)) (slice_index w 2)
    → slice_index sums.word_19 l ≡ add32 (small_sigma0 (slice_index w 4)) (slice_index w 3)
    → AreSums sums l b
AreSums-shared sums w b l of e0 e1 e2 e3 =
    let at = λ (t : ℕ) (low : t < 5). slice_index-schedule_first b 48 t (omega arith) ∙ of.begins t low in
    let w0 = at 0 (omega arith) in
    let w1 = at 1 (omega arith) in
    let w2 = at 2 (omega arith) in
    let w3 = at 3 (omega arith) in
    let w4 = at 4 (omega arith) in
    let w14 = slice_index-schedule_first b 48 14 (omega arith) ∙ of.word_14 in
    let w15 = slice_index-schedule_first b 48 15 (omega arith) ∙ of.word_15 in
    record {
      word_16 = slice_index-schedule_next b 48 16 (omega arith) (omega arith)
          ∙ (λ i. add32 (add32 (add32 (small_sigma1 (w14 i)) (scheduled b 9)) (small_sigma0 (w1 i))) (w0 i))
          ∙ sum_16 (small_sigma0 (slice_index w 1)) (slice_index w 0) (scheduled b 9) ∙ sym (ap (λ (x : ℕ). add32 x (scheduled b 9)) e0);
      word_17 = slice_index-schedule_next b 48 17 (omega arith) (omega arith)
          ∙ (λ i. add32 (add32 (add32 (small_sigma1 (w15 i)) (scheduled b 10)) (small_sigma0 (w2 i))) (w1 i))
          ∙ sum_17 (small_sigma1 440) (small_sigma0 (slice_index w 2)) (slice_index w 1) (scheduled b 10) ∙ sym (ap (λ (x : ℕ). add32 x (scheduled b 10)) e1);
      word_18 = slice_index-schedule_next b 48 18 (omega arith) (omega arith)
          ∙ (λ i. add32 (add32 (add32 (small_sigma1 (scheduled b 16)) (scheduled b 11)) (small_sigma0 (w3 i))) (w2 i))
          ∙ sum_18 (small_sigma1 (scheduled b 16)) (small_sigma0 (slice_index w 3)) (slice_index w 2) (scheduled b 11)
          ∙ sym (ap (λ (x : ℕ). add32 (small_sigma1 (scheduled b 16)) (add32 x (scheduled b 11))) e2);
      word_19 = slice_index-schedule_next b 48 19 (omega arith) (omega arith)
          ∙ (λ i. add32 (add32 (add32 (small_sigma1 (scheduled b 17)) (scheduled b 12)) (small_sigma0 (w4 i))) (w3 i))
          ∙ sum_18 (small_sigma1 (scheduled b 17)) (small_sigma0 (slice_index w 4)) (slice_index w 3) (scheduled b 12)
          ∙ sym (ap (λ (x : ℕ). add32 (small_sigma1 (scheduled b 17)) (add32 x (scheduled b 12))) e3);
    }
