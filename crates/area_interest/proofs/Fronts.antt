-- What limits leave of a list.
use Rattle.std.proofs.Common.{◌≡◌, ℕ, zero, suc, ◌+◌, ◌≤◌, Bool, true, false, ◌&&◌, cond, List, [], ◌∷◌, length, take, Option, None, Some, refl, sym, ap, ◌∙◌, arith}
use Rattle.std.specs.List.{sum_by}
use Rattle.std.proofs.lemmas.List.Sums.{sum_by-cons}
use Rattle.std.proofs.lemmas.Bool.{leb-true, le-leb, false≢true, and_parts, and_from}
use Rattle.area_interest.specs.Interest.{is_within, front, IsLongest}

within_less : (limit : Option ℕ) (n k : ℕ) → k ≤ n → is_within limit n ≡ true → is_within limit k ≡ true
within_less None n k le e = refl
within_less (Some most) n k le e = le-leb k most (omega (arith, le, leb-true n most e))

within_zero : (limit : Option ℕ) → is_within limit 0 ≡ true
within_zero None = refl
within_zero (Some most) = le-leb 0 most (omega arith)

module _ {A : Type 0} (size : A → ℕ) (count bytes : Option ℕ) where
  -- what is taken is a front
  pub front_is_take : (n s : ℕ) (xs : List A) → front size count bytes n s xs ≡ take (length (front size count bytes n s xs)) xs
  front_is_take n s [] = refl
  front_is_take n s (x ∷ xs) = step (is_within count (n + 1) && is_within bytes (s + size x)) (front_is_take (n + 1) (s + size x) xs) where
    rest : List A
    rest = front size count bytes (n + 1) (s + size x) xs

    step : (b : Bool) → rest ≡ take (length rest) xs → cond b (x ∷ rest) [] ≡ take (length (cond b (x ∷ rest) [])) (x ∷ xs)
    step true h = ap (λ l. x ∷ l) h
    step false h = refl

  -- the front of so many items keeps both limits, behind others of this number and sum
  record Keeps (n s : ℕ) (xs : List A) (k : ℕ) : Type 0 where
    within : k ≤ length xs
    few : is_within count (n + k) ≡ true
    small : is_within bytes (s + sum_by size (take k xs)) ≡ true

  none_taken : (n s : ℕ) (xs : List A) → is_within count n ≡ true → is_within bytes s ≡ true → Keeps n s xs 0
  none_taken n s xs few small = record {
    within = omega arith;
    few = within_less count n (n + 0) (omega arith) few;
    small = within_less bytes s (s + 0) (omega arith) small;
  }

  keeps : (n s : ℕ) (xs : List A) → is_within count n ≡ true → is_within bytes s ≡ true → Keeps n s xs (length (front size count bytes n s xs))
  keeps n s [] few small = none_taken n s [] few small
  keeps n s (x ∷ xs) few small = step (is_within count (n + 1) && is_within bytes (s + size x)) refl (keeps (n + 1) (s + size x) xs) where
    rest : List A
    rest = front size count bytes (n + 1) (s + size x) xs

    step : (b : Bool) → (is_within count (n + 1) && is_within bytes (s + size x)) ≡ b → (is_within count (n + 1) ≡ true → is_within bytes (s + size x) ≡ true → Keeps (n + 1) (s + size x) xs (length rest)) → Keeps n s (x ∷ xs) (length (cond b (x ∷ rest) []))
    step true e h =
        let parts = and_parts (is_within count (n + 1)) (is_within bytes (s + size x)) e in
        let more = h parts.0 parts.1 in
        record {
          within = omega (arith, more.within);
          few = within_less count (n + 1 + length rest) (n + suc (length rest)) (omega arith) more.few;
          small = within_less bytes (s + size x + sum_by size (take (length rest) xs)) (s + sum_by size (x ∷ take (length rest) xs)) (omega (arith, sum_by-cons size x (take (length rest) xs))) more.small;
        }
    step false e h = none_taken n s (x ∷ xs) few small

  most : (n s : ℕ) (xs : List A) (k : ℕ) → Keeps n s xs k → k ≤ length (front size count bytes n s xs)
  most n s xs zero kept = omega arith
  most n s [] (suc k) kept = absurd (omega (arith, kept.within))
  most n s (x ∷ xs) (suc k) kept = step (is_within count (n + 1) && is_within bytes (s + size x)) refl (most (n + 1) (s + size x) xs k) where
    rest : List A
    rest = front size count bytes (n + 1) (s + size x) xs

    step : (b : Bool) → (is_within count (n + 1) && is_within bytes (s + size x)) ≡ b → (Keeps (n + 1) (s + size x) xs k → k ≤ length rest) → suc k ≤ length (cond b (x ∷ rest) [])
    step true e h = omega (
      arith,
      h (record {
        within = omega (arith, kept.within);
        few = within_less count (n + suc k) (n + 1 + k) (omega arith) kept.few;
        small = within_less bytes (s + sum_by size (x ∷ take k xs)) (s + size x + sum_by size (take k xs)) (omega (arith, sum_by-cons size x (take k xs))) kept.small;
      }),
    )
    step false e h = absurd (false≢true (sym e ∙ and_from (is_within count (n + 1)) (is_within bytes (s + size x))
        (within_less count (n + suc k) (n + 1) (omega arith) kept.few)
        (within_less bytes (s + sum_by size (x ∷ take k xs)) (s + size x) (omega (arith, sum_by-cons size x (take k xs))) kept.small)))

  pub is_longest : (xs : List A) → IsLongest size count bytes xs (length (front size count bytes 0 0 xs))
  is_longest xs =
      let held = keeps 0 0 xs (within_zero count) (within_zero bytes) in
      record {
        keeps = record {
          within = held.within;
          few = within_less count (0 + length (front size count bytes 0 0 xs)) (length (front size count bytes 0 0 xs)) (omega arith) held.few;
          small = within_less bytes (0 + sum_by size (take (length (front size count bytes 0 0 xs)) xs)) (sum_by size (take (length (front size count bytes 0 0 xs)) xs)) (omega arith) held.small;
        };
        most = λ k kept. most 0 0 xs k (record {
          within = kept.within;
          few = within_less count k (0 + k) (omega arith) kept.few;
          small = within_less bytes (sum_by size (take k xs)) (0 + sum_by size (take k xs)) (omega arith) kept.small;
        });
      }

  pub front_taken : (xs : List A) → front size count bytes 0 0 xs ≡ take (length (front size count bytes 0 0 xs)) xs
  front_taken xs = front_is_take 0 0 xs
