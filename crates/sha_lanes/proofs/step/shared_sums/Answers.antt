use Rattle.std.proofs.Common.{◌<◌, ℕ, [], ap, ◌∙◌, arith}
use Rattle.sha2.specs.Sha256.{add32, small_sigma0, small_sigma1}
use Rattle.sha_lanes.proofs.OfLanes.{words_of-at, splat_at}
use Rattle.sha_lanes.proofs.OfRuns.{AreSums-shared}
use Rattle.sha_lanes.proofs.step.shared_sums.Goals as goal

pub returns : goal.returns
returns c = λ l b low is.
    let w = c.args.fronts.now in
    let at = λ (k : ℕ) (lt : k < 6). words_of-at w k l [] (omega (arith, c.told-fronts, lt)) in
    let w0 = at 0 (omega arith) in
    let w1 = at 1 (omega arith) in
    let w2 = at 2 (omega arith) in
    let w3 = at 3 (omega arith) in
    let of1 = c.small_sigma0.ensures.each l low ∙ ap small_sigma0 w1 in
    let of2 = c.small_sigma0-2.ensures.each l low ∙ ap small_sigma0 w2 in
    let of3 = c.small_sigma0-3.ensures.each l low ∙ ap small_sigma0 w3 in
    let of4 = c.small_sigma0-4.ensures.each l low ∙ ap small_sigma0 (at 4 (omega arith)) in
    let length = c.small_sigma1-length.ensures.each l low ∙ ap small_sigma1 (splat_at 440 l low) in
    AreSums-shared _ _ b l is
    (c.add.ensures.each l low ∙ (λ i. add32 (of1 i) (w0 i)))
    (c.add-3.ensures.each l low ∙ (λ i. add32 ((c.add-2.ensures.each l low ∙ (λ i. add32 (length i) (of2 i))) i) (w1 i)))
    (c.add-4.ensures.each l low ∙ (λ i. add32 (of3 i) (w2 i)))
    (c.add-5.ensures.each l low ∙ (λ i. add32 (of4 i) (w3 i)))
