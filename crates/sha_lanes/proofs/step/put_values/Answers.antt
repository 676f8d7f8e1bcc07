use Rattle.std.proofs.Common.{ℕ, slice_index, ap, ◌∙◌, arith}
use Rattle.sha2.specs.Sha256.{digest_bytes}
use Rattle.sha_lanes.specs.Lanes.{hash_in, words_of}
use Rattle.sha_lanes.specs.Step.{joined, step_block}
use Rattle.sha_lanes.proofs.OfLanes.{splat_at}
use Rattle.sha_lanes.proofs.OfSteps.{HasStepWords-step}
use Rattle.sha_lanes.proofs.OfRuns.{IsFilled-all, IsFilled-begun, IsFilled-set}
use Rattle.sha_lanes.proofs.step.put_values.Goals as goal

pub returns : goal.returns
returns c = λ l j front low begun numbered.
    let v = c.args.value in
    let old = words_of c.args.words.now l in
    let value = digest_bytes (hash_in v l) 8 in
    let b = step_block front j value in
    let words = HasStepWords-step old front j (slice_index c.args.ends l) (slice_index v.a l) (slice_index v.b l) (slice_index v.c l)
    (slice_index v.d l) (slice_index v.e l) (slice_index v.f l) (slice_index v.g l) (slice_index v.h l) begun numbered in
    let s5 = IsFilled-begun old front j value begun in
    let s6 = IsFilled-set _ _ old b l 5 (omega arith) s5 (c.joined.ensures.each l low ∙ words.word_5) in
    let s7 = IsFilled-set _ _ old b l 6 (omega arith) s6 (c.joined-2.ensures.each l low ∙ words.word_6) in
    let s8 = IsFilled-set _ _ old b l 7 (omega arith) s7 (c.joined-3.ensures.each l low ∙ words.word_7) in
    let s9 = IsFilled-set _ _ old b l 8 (omega arith) s8 (c.joined-4.ensures.each l low ∙ words.word_8) in
    let s10 = IsFilled-set _ _ old b l 9 (omega arith) s9 (c.joined-5.ensures.each l low ∙ words.word_9) in
    let s11 = IsFilled-set _ _ old b l 10 (omega arith) s10 (c.joined-6.ensures.each l low ∙ words.word_10) in
    let s12 = IsFilled-set _ _ old b l 11 (omega arith) s11 (c.joined-7.ensures.each l low ∙ words.word_11) in
    let s13 = IsFilled-set _ _ old b l 12 (omega arith) s12 (c.joined-8.ensures.each l low ∙ words.word_12) in
    let last = c.joined-9.ensures.each l low ∙ ap (λ (y : ℕ). joined (slice_index v.h l) y) (splat_at 0x80000000 l low) in
    let s14 = IsFilled-set _ _ old b l 13 (omega arith) s13 (last ∙ words.word_13) in
    IsFilled-all old _ b s14 (begun.word_14 ∙ words.word_14) (begun.word_15 ∙ words.word_15)
