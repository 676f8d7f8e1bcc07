-- Chains step by step.
use Rattle.std.proofs.Common.{◌≡◌, ℕ, zero, suc, ◌+◌, ◌-◌, ◌≤◌, ◌<◌, List, [], length, map, slice_set, refl, sym, ap, ◌∙◌, inl, inr, arith}
use Rattle.std.proofs.lemmas.List.{map-set, length-set, set-get_or, get_or-set_same, get_or-set_other, length-map, ext_get_or, get_or-map as get_or-map_in}
use Rattle.std.proofs.Math.ListN.{get_or-map}
use Rattle.std.proofs.lemmas.Bool.{cases_eq, cases_lt}
use Rattle.sha_lanes.specs.declared.chain.Chain.{Chain}
use Rattle.sha_lanes.specs.Chain.{advanced, ended, run, step}
use Rattle.sha_lanes.specs.Running.{Advances, IsUnfinished, chain_at}

-- no step
pub run_none : (front : List ℕ) (j : ℕ) (value : List ℕ) → run front j 0 value ≡ value
unfolding run
run_none front j value = refl

-- one step more
pub run_more : (front : List ℕ) (j n : ℕ) (value : List ℕ) → run front j (n + 1) value ≡ step front (j + n) (run front j n value)
unfolding run
run_more front j zero value =
    let here : j + 0 ≡ j = omega arith in
    rw here refl
run_more front j (suc n) value =
    let more : suc n + 1 ≡ suc (n + 1) = omega arith in
    let here : suc j + n ≡ j + suc n = omega arith in
    rw more (run_more front (suc j) n (step front j value) ∙ ap (λ (k : ℕ). step front k (run front (suc j) n (step front j value))) here)

-- steps and then more steps
run-run : (front : List ℕ) (j n m : ℕ) (value : List ℕ) → run front j (n + m) value ≡ run front (j + n) m (run front j n value)
unfolding run
run-run front j zero m value =
    let none : 0 + m ≡ m = omega arith in
    let here : j + 0 ≡ j = omega arith in
    rw (none, here) refl
run-run front j (suc n) m value =
    let more : suc n + m ≡ suc (n + m) = omega arith in
    let here : suc j + n ≡ j + suc n = omega arith in
    rw more (run-run front (suc j) n m (step front j value) ∙ ap (λ (k : ℕ). run front k m (run front (suc j) n (step front j value))) here)

-- a chain on its way has the same end
ended-advanced : (n : ℕ) (c : Chain) → c.at + n ≤ c.to → ended (advanced n c) ≡ ended c
ended-advanced n c room =
    let left = c.to - (c.at + n) in
    let parts : c.to - c.at ≡ n + left = omega arith in
    let place : c.at + n + left ≡ c.at + (c.to - c.at) = omega arith in
    let value : run c.front (c.at + n) left (run c.front c.at n c.value) ≡ run c.front c.at (c.to - c.at) c.value =
    sym (rw parts (run-run c.front c.at n left c.value)) in
    (λ i. record c { at = place i; value = value i })

-- a chain that is at its end
pub ended-done : (c : Chain) → c.to ≤ c.at → ended c ≡ c
unfolding run
ended-done c done =
    let none : c.to - c.at ≡ 0 = omega arith in
    let place : c.at + 0 ≡ c.at = omega arith in
    rw (none, place) refl

-- each chain of a list is as it was or further on its way
record Keeps (old new : List Chain) : Type 0 where
  long : length new ≡ length old
  ends : map ended new ≡ map ended old
  stay : (k : ℕ) → (chain_at old k).to ≤ (chain_at old k).at → (chain_at new k).to ≤ (chain_at new k).at

Keeps-set : (old new : List Chain) (i n : ℕ) (c : Chain) → Keeps old new → IsUnfinished old i → (chain_at old i).at + n ≤ (chain_at old i).to
    → c ≡ advanced n (chain_at old i) → Keeps old (slice_set new i c)
Keeps-set old new i n c kept unfinished room is =
    let none : Chain = record { front = []; at = 0; to = 0; value = [] } in
    let same : ended c ≡ ended (chain_at old i) = ap ended is ∙ ended-advanced n (chain_at old i) room in
    record {
      long = length-set new i c ∙ kept.long;
      ends = map-set ended new i c ∙ (λ j. slice_set (kept.ends j) i (same j))
          ∙ ap (slice_set (map ended old) i) (sym (get_or-map ended old i none)) ∙ set-get_or (map ended old) i (ended none);
      stay = λ k done. elim (cases_eq k i) [
        | inl here ↦
            let other : (chain_at old i).to ≤ (chain_at old i).at = rw here at done in
            absurd (omega (arith, other, unfinished.before))
        | inr apart ↦ rw (get_or-set_other new i k c none apart) (kept.stay k done)
      ];
    }

Keeps-same : (chains : List Chain) → Keeps chains chains
Keeps-same chains = record { long = refl; ends = refl; stay = λ k done. done }

-- four chains, each n steps on, written back from the last to the first
pub Advances-four : (chains : List Chain) (a b c d n : ℕ) (p q r s : Chain)
    → IsUnfinished chains a → IsUnfinished chains b → IsUnfinished chains c → IsUnfinished chains d → 0 < n
    → (chain_at chains a).at + n ≤ (chain_at chains a).to → (chain_at chains b).at + n ≤ (chain_at chains b).to
    → (chain_at chains c).at + n ≤ (chain_at chains c).to → (chain_at chains d).at + n ≤ (chain_at chains d).to
    → p ≡ advanced n (chain_at chains a) → q ≡ advanced n (chain_at chains b) → r ≡ advanced n (chain_at chains c) → s ≡ advanced n (chain_at chains d)
    → Advances chains (slice_set (slice_set (slice_set (slice_set chains d s) c r) b q) a p) a
Advances-four chains a b c d n p q r s ua ub uc ud some ra rb rc rd ep eq er es =
    let none : Chain = record { front = []; at = 0; to = 0; value = [] } in
    let k1 = Keeps-set chains chains d n s (Keeps-same chains) ud rd es in
    let k2 = Keeps-set chains _ c n r k1 uc rc er in
    let k3 = Keeps-set chains _ b n q k2 ub rb eq in
    let k4 = Keeps-set chains _ a n p k3 ua ra ep in
    let there = slice_set (slice_set (slice_set chains d s) c r) b q in
    let written : chain_at (slice_set there a p) a ≡ advanced n (chain_at chains a) =
    get_or-set_same there a p none (omega (arith, k3.long, ua.in_list)) ∙ ep in
    record {
      long = k4.long;
      ends = k4.ends;
      stay = k4.stay;
      nearer = rw written (omega (arith, ua.before, some));
    }

-- the chains of a list are on their way to the ends that they had, and the first n are there
pub record AreRun (old new : List Chain) (n : ℕ) : Type 0 where
  pub long : length new ≡ length old
  pub ends : map ended new ≡ map ended old
  pub done : (k : ℕ) → k < n → (chain_at new k).to ≤ (chain_at new k).at

pub AreRun-none : (chains : List Chain) → AreRun chains chains 0
AreRun-none chains = record { long = refl; ends = refl; done = λ k none. absurd (omega arith) }

pub AreRun-advanced : (old chains new : List Chain) (n i : ℕ) → AreRun old chains n → Advances chains new i → AreRun old new n
AreRun-advanced old chains new n i are on = record {
  long = on.long ∙ are.long;
  ends = on.ends ∙ are.ends;
  done = λ k low. on.stay k (are.done k low);
}

pub AreRun-more : (old new : List Chain) (n : ℕ) → AreRun old new n → (chain_at new n).to ≤ (chain_at new n).at → AreRun old new (n + 1)
AreRun-more old new n are here = record {
  long = are.long;
  ends = are.ends;
  done = λ k low. elim (cases_lt k n) [
    | inl before ↦ are.done k before
    | inr past ↦
        let same : n ≡ k = omega arith in
        rw same at here
  ];
}

-- chains that are all at their ends
pub AreRun-all : (old new : List Chain) (n : ℕ) → AreRun old new n → length new ≤ n → new ≡ map ended old
AreRun-all old new n are all =
    let none : Chain = record { front = []; at = 0; to = 0; value = [] } in
    let stay = ext_get_or none (map ended new) new (length-map new ended)
    (λ k low.
    let there : k < length new = omega (arith, low, length-map new ended) in
    get_or-map_in ended new k none none there ∙ ended-done (chain_at new k) (are.done k (omega (arith, there, all)))) in
    sym stay ∙ are.ends
