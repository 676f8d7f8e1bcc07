use Rattle.std.proofs.Common.{◌≡◌, ℕ, List, [], ◌∷◌, ◌+◌, ◌<◌, ◌≤◌, slice_index, slice_index_or, ap, ◌∙◌, arith}
use Rattle.sha_lanes.specs.declared.chain.Chain.{Chain}
use Rattle.sha_lanes.specs.Lanes.{one_of}
use Rattle.sha_lanes.specs.Chain.{run}
use Rattle.sha_lanes.proofs.running.advanced_four.Goals as goal

pub returns : goal.returns
returns c =
    let a = c.args in
    let numbers = c.from.result ∷ c.from-2.result ∷ c.from-3.result ∷ c.from-4.result ∷ [] in
    let front = one_of a.first.front a.second.front a.third.front a.fourth.front in
    let value = one_of a.first.value a.second.value a.third.value a.fourth.value in
    let reached = λ (l : ℕ) (h : l < 4) (room : slice_index numbers l + a.count ≤ 256).
    c.run_steps.ensures l (front l) h room (c.load_fronts-fronts.ensures l h)
    ∙ ap (run (front l) (slice_index numbers l) a.count) (c.load_digests-values.ensures l h) in
    let made = λ (l : ℕ). ap (λ (digests : List (List ℕ)). slice_index_or digests l []) c.digests-reached.ensures in
    let from = λ (chain : Chain) (n : ℕ). run chain.front n a.count chain.value in
    let first : slice_index_or c.digests-reached.result 0 [] ≡ from a.first a.first.at =
    made 0 ∙ reached 0 (omega arith) (omega arith) ∙ ap (from a.first) c.from.ensures in
    let second : slice_index_or c.digests-reached.result 1 [] ≡ from a.second a.second.at =
    made 1 ∙ reached 1 (omega arith) (omega arith) ∙ ap (from a.second) c.from-2.ensures in
    let third : slice_index_or c.digests-reached.result 2 [] ≡ from a.third a.third.at =
    made 2 ∙ reached 2 (omega arith) (omega arith) ∙ ap (from a.third) c.from-3.ensures in
    let fourth : slice_index_or c.digests-reached.result 3 [] ≡ from a.fourth a.fourth.at =
    made 3 ∙ reached 3 (omega arith) (omega arith) ∙ ap (from a.fourth) c.from-4.ensures in
    let on = λ (chain : Chain) (value : List ℕ). record chain { at = chain.at + a.count; value = value } in
    (λ i. on a.first (first i) ∷ on a.second (second i) ∷ on a.third (third i) ∷ on a.fourth (fourth i) ∷ [])
