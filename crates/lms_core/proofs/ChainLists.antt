-- The chains of a one-time key as lists: what their values are when they have run.
use Rattle.std.proofs.Common.{◌≡◌, ℕ, zero, suc, ◌+◌, ◌-◌, ◌*◌, ◌^◌, ◌<◌, List, [], ◌∷◌, ◌++◌, length, map, take, drop, get_or, refl, sym, ap, ◌∙◌, arith}
use Rattle.std.specs.List.{AllByRecursion}
use Rattle.std.proofs.lemmas.List.{drop-drop, ext_get_or}
use Rattle.sha_lanes.specs.declared.chain.Chain.{Chain}
use Rattle.sha_lanes.specs.Chain.{ended, run as chain_run}
use Rattle.lms_core.specs.Bytes.{field}
use Rattle.lms_core.specs.OneTime.{front, step, run, chain_ends}
use Rattle.lms_core.specs.Signer.{chain_start, values_at, last_digits}
use Rattle.lms_core.specs.KeyChains.{lengthened, secret_chains, told_chains, values_of}
use Rattle.lms_core.proofs.Values.{run_end}

-- the steps of a chain are the same in lanes
chain_run-is : (bytes : List ℕ) (j n : ℕ) (value : List ℕ) → chain_run bytes j n value ≡ run bytes j n value
unfolding chain_run run
chain_run-is bytes j zero value = refl
chain_run-is bytes j (suc n) value = chain_run-is bytes (suc j) n (step bytes j value)

pub length-told_chains : (id : List ℕ) (q i : ℕ) (digits values : List ℕ) → length (told_chains id q i digits values) ≡ length digits
unfolding told_chains
length-told_chains id q i [] values = refl
length-told_chains id q i (d ∷ digits) values = ap suc (length-told_chains id q (suc i) digits (drop 32 values))

pub length-secret_chains : (id seed : List ℕ) (q i : ℕ) (digits : List ℕ) → length (secret_chains id seed q i digits) ≡ length digits
unfolding secret_chains
length-secret_chains id seed q i [] = refl
length-secret_chains id seed q i (d ∷ digits) = ap suc (length-secret_chains id seed q (suc i) digits)

-- the chain at a place of a signature's
pub get_or-told_chains : (id : List ℕ) (q i : ℕ) (digits values : List ℕ) (k : ℕ) (none : Chain) → k < length digits
    → get_or (told_chains id q i digits values) k none ≡ record { front = front id q (i + k); at = get_or digits k 0; to = 255; value = field (32 * k) 32 values }
unfolding told_chains
get_or-told_chains id q i [] values k none low = absurd (omega (arith, low))
get_or-told_chains id q i (d ∷ digits) values zero none low =
    let here : i + 0 ≡ i = omega arith in
    rw here refl
get_or-told_chains id q i (d ∷ digits) values (suc k) none low =
    let next : suc i + k ≡ i + suc k = omega arith in
    let place : 32 + 32 * k ≡ 32 * suc k = omega arith in
    rw (next, drop-drop (32 * k) 32 values, place) at (get_or-told_chains id q (suc i) digits (drop 32 values) k none (omega (arith, low)))

-- the chain at a place of a leaf's
pub get_or-secret_chains : (id seed : List ℕ) (q i : ℕ) (digits : List ℕ) (k : ℕ) (none : Chain) → k < length digits
    → get_or (secret_chains id seed q i digits) k none ≡ record { front = front id q (i + k); at = 0; to = get_or digits k 0; value = chain_start id seed q (i + k) }
unfolding secret_chains
get_or-secret_chains id seed q i [] k none low = absurd (omega (arith, low))
get_or-secret_chains id seed q i (d ∷ digits) zero none low =
    let here : i + 0 ≡ i = omega arith in
    rw here refl
get_or-secret_chains id seed q i (d ∷ digits) (suc k) none low =
    let next : suc i + k ≡ i + suc k = omega arith in
    rw next at (get_or-secret_chains id seed q (suc i) digits k none (omega (arith, low)))

-- where the chains of a signature end
pub values_of-told : (id : List ℕ) (q i : ℕ) (digits values : List ℕ) → values_of (map ended (told_chains id q i digits values)) ≡ chain_ends id q i digits values
unfolding told_chains chain_ends
values_of-told id q i [] values = refl
values_of-told id q i (d ∷ digits) values = (λ k. chain_run-is (front id q i) d (255 - d) (take 32 values) k ++ values_of-told id q (suc i) digits (drop 32 values) k)

-- the values of a leaf's chains at their digits
pub values_of-secret : (id seed : List ℕ) (q i : ℕ) (digits : List ℕ) → values_of (map ended (secret_chains id seed q i digits)) ≡ values_at id seed q i digits
unfolding secret_chains values_at
values_of-secret id seed q i [] = refl
values_of-secret id seed q i (d ∷ digits) =
    let all : d - 0 ≡ d = omega arith in
    let first = ap (λ (n : ℕ). chain_run (front id q i) 0 n (chain_start id seed q i)) all ∙ chain_run-is (front id q i) 0 d (chain_start id seed q i) in
    (λ k. first k ++ values_of-secret id seed q (suc i) digits k)

-- and their ends, when they have gone on from there
pub values_of-ends : (id seed : List ℕ) (q i : ℕ) (digits : List ℕ) → AllByRecursion (λ d. d < 2 ^ 8) digits
    → values_of (map ended (map lengthened (map ended (secret_chains id seed q i digits)))) ≡ values_at id seed q i (last_digits (length digits))
unfolding secret_chains values_at last_digits
values_of-ends id seed q i [] bytes = refl
values_of-ends id seed q i (d ∷ digits) bytes =
    let f = front id q i in
    let start = chain_start id seed q i in
    let all : d - 0 ≡ d = omega arith in
    let here : 0 + (d - 0) ≡ d = omega arith in
    let there : chain_run f (0 + (d - 0)) (255 - (0 + (d - 0))) (chain_run f 0 (d - 0) start) ≡ run f 0 255 start =
    rw (here, all, chain_run-is f 0 d start, chain_run-is f d (255 - d) (run f 0 d start)) (run_end f d start (omega (arith, bytes.0))) in
    (λ k. there k ++ values_of-ends id seed q (suc i) digits bytes.1 k)

-- chain number k of a signature, and of a leaf
abbrev pub told_chain : List ℕ → ℕ → List ℕ → List ℕ → ℕ → Chain
told_chain id q digits values k = record { front = front id q k; at = get_or digits k 0; to = 255; value = field (32 * k) 32 values }

abbrev pub secret_chain : List ℕ → List ℕ → ℕ → List ℕ → ℕ → Chain
secret_chain id seed q digits k = record { front = front id q k; at = 0; to = get_or digits k 0; value = chain_start id seed q k }

-- chains that are so at each place
pub told_chains-from : (id : List ℕ) (q : ℕ) (digits values : List ℕ) (chains : List Chain) (none : Chain) → length chains ≡ length digits
    → ((k : ℕ) → k < length digits → get_or chains k none ≡ told_chain id q digits values k) → chains ≡ told_chains id q 0 digits values
told_chains-from id q digits values chains none long each = ext_get_or none _ _ (long ∙ sym (length-told_chains id q 0 digits values)) (λ k low.
    let zero_more : 0 + k ≡ k = omega arith in
    let there : k < length digits = omega (arith, low, long) in
    each k there ∙ sym (rw zero_more at (get_or-told_chains id q 0 digits values k none there)))

pub secret_chains-from : (id seed : List ℕ) (q : ℕ) (digits : List ℕ) (chains : List Chain) (none : Chain) → length chains ≡ length digits
    → ((k : ℕ) → k < length digits → get_or chains k none ≡ secret_chain id seed q digits k) → chains ≡ secret_chains id seed q 0 digits
secret_chains-from id seed q digits chains none long each = ext_get_or none _ _ (long ∙ sym (length-secret_chains id seed q 0 digits)) (λ k low.
    let zero_more : 0 + k ≡ k = omega arith in
    let there : k < length digits = omega (arith, low, long) in
    each k there ∙ sym (rw zero_more at (get_or-secret_chains id seed q 0 digits k none there)))
