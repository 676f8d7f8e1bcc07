-- Operations on vectors, lane by lane.
use Rattle.std.proofs.Common.{◌≡◌, ℕ, zero, suc, ◌<◌, ◌^◌, List, length, slice_index, get_or, replicate, w32, Fits, ◌∙◌, ap, sym, arith}
use Rattle.std.proofs.lemmas.Simd.{get_or-zip2, length-zip2, get_or-replicate, length-replicate, Each1-get_or}
use Rattle.std.specs.Simd.Lanes.{zip2, Each1}
use Rattle.std.proofs.lemmas.List.{get_or-map}
use Rattle.sha_lanes.specs.Lanes.{HasLanes, words_of}

-- an operation on two vectors
pub HasLanes-zip2 : (f : ℕ → ℕ → ℕ) (x y : List ℕ) → length x ≡ 4 → length y ≡ 4 → HasLanes (zip2 f x y) (λ l. f (slice_index x l) (slice_index y l))
HasLanes-zip2 f x y lx ly = record {
  long = length-zip2 f x y (omega (arith, lx, ly)) ∙ lx;
  each = λ l h. get_or-zip2 f x y l 0 0 0 (omega (arith, lx)) (omega (arith, ly));
}

-- a lane of a vector whose lanes are all k
pub splat_at : (k l : ℕ) → l < 4 → slice_index (replicate 4 k) l ≡ k
splat_at k l h = get_or-replicate 4 l k 0 h

-- a vector whose lanes are all k
pub HasLanes-replicate : (k : ℕ) → HasLanes (replicate 4 k) (λ l. k)
HasLanes-replicate k = record { long = length-replicate 4 k; each = λ l h. splat_at k l h }

-- an operation on a vector and a number
pub HasLanes-splat : (f : ℕ → ℕ → ℕ) (x : List ℕ) (k : ℕ) → length x ≡ 4 → HasLanes (zip2 f x (replicate 4 k)) (λ l. f (slice_index x l) k)
HasLanes-splat f x k lx = record {
  long = length-zip2 f x (replicate 4 k) lx ∙ lx;
  each = λ l h. get_or-zip2 f x (replicate 4 k) l 0 0 0 (omega (arith, lx)) h ∙ ap (f (slice_index x l)) (splat_at k l h);
}

-- what lanes hold, said another way
pub HasLanes-same : (v : List ℕ) (p q : ℕ → ℕ) → ((l : ℕ) → l < 4 → p l ≡ q l) → HasLanes v p → HasLanes v q
HasLanes-same v p q same hv = record { long = hv.long; each = λ l h. hv.each l h ∙ same l h }

-- an operation on one vector, where it is known what its lanes hold
pub HasLanes-one : (f : ℕ → ℕ) (v x : List ℕ) (p : ℕ → ℕ) → HasLanes v (λ l. f (slice_index x l)) → HasLanes x p → HasLanes v (λ l. f (p l))
HasLanes-one f v x p hv hx = record { long = hv.long; each = λ l h. hv.each l h ∙ ap f (hx.each l h) }

-- an operation on two vectors, where it is known what the lanes of both hold
pub HasLanes-two : (f : ℕ → ℕ → ℕ) (v x y : List ℕ) (p q : ℕ → ℕ) → HasLanes v (λ l. f (slice_index x l) (slice_index y l)) → HasLanes x p → HasLanes y q
    → HasLanes v (λ l. f (p l) (q l))
HasLanes-two f v x y p q hv hx hy = record { long = hv.long; each = λ l h. hv.each l h ∙ (λ i. f (hx.each l h i) (hy.each l h i)) }

-- the same, where it is known of the first alone
pub HasLanes-left : (f : ℕ → ℕ → ℕ) (v x y : List ℕ) (p : ℕ → ℕ) → HasLanes v (λ l. f (slice_index x l) (slice_index y l)) → HasLanes x p
    → HasLanes v (λ l. f (p l) (slice_index y l))
HasLanes-left f v x y p hv hx = record { long = hv.long; each = λ l h. hv.each l h ∙ ap (λ (n : ℕ). f n (slice_index y l)) (hx.each l h) }

-- the same, where it is known of the second alone
pub HasLanes-right : (f : ℕ → ℕ → ℕ) (v x y : List ℕ) (q : ℕ → ℕ) → HasLanes v (λ l. f (slice_index x l) (slice_index y l)) → HasLanes y q
    → HasLanes v (λ l. f (slice_index x l) (q l))
HasLanes-right f v x y q hv hy = record { long = hv.long; each = λ l h. hv.each l h ∙ ap (f (slice_index x l)) (hy.each l h) }

-- a lane of a vector is a word
pub lane_lt : (v : List ℕ) (l : ℕ) → (length v ≡ 4) × Each1 (Fits w32) v → l < 4 → slice_index v l < 2 ^ 32
lane_lt v l fits h = (Each1-get_or (Fits w32) v l 0 (omega (arith, fits.0)) fits.1).fits

-- a lane of the vector at place i of a list
pub words_of-at : (vectors : List (List ℕ)) (i l : ℕ) (d : List ℕ) → i < length vectors → slice_index (get_or vectors i d) l ≡ slice_index (words_of vectors l) i
words_of-at vectors i l d h = sym (get_or-map (λ v. slice_index v l) vectors i d 0 h)

-- a fact of each lane
pub in_lanes : (P : ℕ → Type 0) → P 0 → P 1 → P 2 → P 3 → (l : ℕ) → l < 4 → P l
in_lanes P a b c d zero h = a
in_lanes P a b c d (suc zero) h = b
in_lanes P a b c d (suc (suc zero)) h = c
in_lanes P a b c d (suc (suc (suc zero))) h = d
in_lanes P a b c d (suc (suc (suc (suc l)))) h = absurd (omega arith)
