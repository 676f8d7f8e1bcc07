-- The signer's chain values: how they follow one another, how long they are, and where their chains end.
use Rattle.std.proofs.Common.{◌≡◌, ℕ, zero, suc, ◌+◌, ◌-◌, ◌*◌, ◌^◌, ◌<◌, ◌≤◌, List, [], ◌∷◌, ◌++◌, length, refl, arith, length-append}
use Rattle.std.specs.List.{AllByRecursion}
use Rattle.std.proofs.lemmas.List.{take_at, drop_at}
use Rattle.sha2.proofs.Facts256.{length-sha256}
use Rattle.lms_core.specs.OneTime.{front, step, run, chain_ends}
use Rattle.lms_core.specs.Signer.{chain_start, values_at, last_digits}

-- the steps of a chain in two parts
pub run_join : (bytes : List ℕ) (j m n : ℕ) (value : List ℕ) → run bytes (j + m) n (run bytes j m value) ≡ run bytes j (m + n) value
unfolding run
run_join bytes j zero n value =
    let e : j + 0 ≡ j = omega arith in
    let f : 0 + n ≡ n = omega arith in
    rw (e, f) refl
run_join bytes j (suc m) n value =
    let e : j + suc m ≡ suc j + m = omega arith in
    let f : suc m + n ≡ suc (m + n) = omega arith in
    rw (e, f) (run_join bytes (suc j) m n (step bytes j value))

-- what a chain reaches from a digit's value on is its end
pub run_end : (bytes : List ℕ) (digit : ℕ) (value : List ℕ) → digit ≤ 255 → run bytes digit (255 - digit) (run bytes 0 digit value) ≡ run bytes 0 255 value
run_end bytes digit value h =
    let e : 0 + digit ≡ digit = omega arith in
    let f : digit + (255 - digit) ≡ 255 = omega arith in
    rw (e, f) at (run_join bytes 0 digit (255 - digit) value)

pub length_run : (bytes : List ℕ) (j n : ℕ) (value : List ℕ) → length value ≡ 32 → length (run bytes j n value) ≡ 32
unfolding run
length_run bytes j zero value h = h
length_run bytes j (suc n) value h = length_run bytes (suc j) n (step bytes j value) (length-sha256 ((bytes ++ j ∷ []) ++ value))

pub length_chain_start : (id seed : List ℕ) (q i : ℕ) → length (chain_start id seed q i) ≡ 32
unfolding chain_start
length_chain_start id seed q i = length-sha256 ((front id q i ++ 255 ∷ []) ++ seed)

pub length_value : (id seed : List ℕ) (q i digit : ℕ) → length (run (front id q i) 0 digit (chain_start id seed q i)) ≡ 32
length_value id seed q i digit = length_run (front id q i) 0 digit (chain_start id seed q i) (length_chain_start id seed q i)

pub length_values_at : (id seed : List ℕ) (q i : ℕ) (digits : List ℕ) → length (values_at id seed q i digits) ≡ 32 * length digits
unfolding values_at
length_values_at id seed q i [] = refl
length_values_at id seed q i (d ∷ digits) =
    let first = run (front id q i) 0 d (chain_start id seed q i) in
    let rest = values_at id seed q (suc i) digits in
    omega (arith, length-append first rest, length_value id seed q i d, length_values_at id seed q (suc i) digits)

-- from their values at the digits the chains reach their ends
pub ends_of_values : (id seed : List ℕ) (q i : ℕ) (digits : List ℕ) → AllByRecursion (λ d. d < 2 ^ 8) digits → chain_ends id q i digits (values_at id seed q i digits) ≡ values_at id seed q i (last_digits (length digits))
unfolding chain_ends values_at last_digits
ends_of_values id seed q i [] h = refl
ends_of_values id seed q i (d ∷ digits) h =
    let bytes = front id q i in
    let start = chain_start id seed q i in
    let first = run bytes 0 d start in
    let rest = values_at id seed q (suc i) digits in
    let t = take_at first rest 32 (length_value id seed q i d) in
    let u = drop_at first rest 32 (length_value id seed q i d) in
    rw (t, u, run_end bytes d start (omega arith), ends_of_values id seed q (suc i) digits h.1) refl
