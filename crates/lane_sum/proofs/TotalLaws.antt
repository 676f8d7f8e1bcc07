-- Totals of joined lists, of lists in another order, and of what is left of a list.
use Rattle.std.proofs.Common.{◌≡◌, ℕ, ◌+◌, ◌<◌, ◌%◌, ◌^◌, List, [], ◌++◌, length, sum_by, replicate, IsPermutation, sym, ap, ◌∙◌, length-append, arith, refl}
use Rattle.std.proofs.lemmas.List.Sums.{sum_by-append}
use Rattle.std.proofs.lemmas.List.Sorted.{sum_by-IsPermutation, length_permutation, IsPermutation-trans, IsPermutation-append_comm}
use Rattle.sha2.specs.Sha256.{sha256}
use Rattle.lane_sum.specs.declared.lanes.Lanes.{Lanes}
use Rattle.lane_sum.specs.Totals.{leaf_word, lane_by, total_by, add64, sum_of, rest_of, word_bytes, fingerprint, AreWords}
use Rattle.lane_sum.proofs.Fields.{lanes_alike, sum_then_rest}

add_mods : (m n k : ℕ) → k ≡ m + n → add64 (m % 2 ^ 64) (n % 2 ^ 64) ≡ k % 2 ^ 64
add_mods m n k e = omega (arith, e)

below : (n : ℕ) → n % 2 ^ 64 < 2 ^ 64
below n = omega arith

module _ {X : Type 0} (row : X → List ℕ × List ℕ) where
  lane_joined : (f : X → ℕ) (xs ys : List X) → add64 (lane_by f xs) (lane_by f ys) ≡ lane_by f (xs ++ ys)
  lane_joined f xs ys = add_mods (sum_by f xs) (sum_by f ys) (sum_by f (xs ++ ys)) (sum_by-append f xs ys)

  lane_moved : (f : X → ℕ) (xs ys : List X) → IsPermutation xs ys → lane_by f xs ≡ lane_by f ys
  lane_moved f xs ys p = ap (λ (n : ℕ). n % 2 ^ 64) (sym (sum_by-IsPermutation f xs ys p))

  -- the total of a list is made of words
  pub total_words : (xs : List X) → AreWords (total_by row xs)
  total_words xs = record {
    count = below (length xs);
    a = below (sum_by (λ x. leaf_word 0 (row x)) xs);
    b = below (sum_by (λ x. leaf_word 1 (row x)) xs);
    c = below (sum_by (λ x. leaf_word 2 (row x)) xs);
    d = below (sum_by (λ x. leaf_word 3 (row x)) xs);
  }

  -- the total of two lists joined
  pub total_joined : (xs ys : List X) → sum_of (total_by row xs) (total_by row ys) ≡ total_by row (xs ++ ys)
  total_joined xs ys = lanes_alike (sum_of (total_by row xs) (total_by row ys)) (total_by row (xs ++ ys))
      (add_mods (length xs) (length ys) (length (xs ++ ys)) (length-append xs ys))
      (lane_joined (λ x. leaf_word 0 (row x)) xs ys) (lane_joined (λ x. leaf_word 1 (row x)) xs ys)
      (lane_joined (λ x. leaf_word 2 (row x)) xs ys) (lane_joined (λ x. leaf_word 3 (row x)) xs ys)

  -- the total does not rest on the order
  pub total_moved : (xs ys : List X) → IsPermutation xs ys → total_by row xs ≡ total_by row ys
  total_moved xs ys p = lanes_alike (total_by row xs) (total_by row ys)
      (ap (λ (n : ℕ). n % 2 ^ 64) (sym (length_permutation xs ys p)))
      (lane_moved (λ x. leaf_word 0 (row x)) xs ys p) (lane_moved (λ x. leaf_word 1 (row x)) xs ys p)
      (lane_moved (λ x. leaf_word 2 (row x)) xs ys p) (lane_moved (λ x. leaf_word 3 (row x)) xs ys p)

  -- the total of a list less that of some of its members is the total of the others
  pub total_left : (xs taken left : List X) → IsPermutation xs (taken ++ left) → rest_of (total_by row xs) (total_by row taken) ≡ total_by row left
  total_left xs taken left p =
      let moved = total_moved xs (left ++ taken) (IsPermutation-trans xs (taken ++ left) (left ++ taken) p (IsPermutation-append_comm taken left)) in
      let parts = moved ∙ sym (total_joined left taken) in
      ap (λ (t : Lanes). rest_of t (total_by row taken)) parts ∙ sum_then_rest (total_by row left) (total_by row taken) (total_words left) (total_words taken)

-- the fingerprint of no row
pub fingerprint_none : fingerprint [] ≡ sha256 (replicate 40 0)
unfolding word_bytes
fingerprint_none = refl
