use Rattle.std.proofs.Common.{◌<◌, ℕ, List, [], sym, ap, ◌∙◌, arith}
use Rattle.sha2.specs.Sha256.{rounds, schedule}
use Rattle.sha_lanes.specs.Step.{step_block}
use Rattle.sha_lanes.proofs.OfLanes.{words_of-at, splat_at}
use Rattle.sha_lanes.proofs.OfSchedules.{IsSchedule-none, IsSchedule-set}
use Rattle.sha_lanes.proofs.OfRuns.{IsBegun-put, IsSchedule-begun, IsStepOf-step, scheduled-front}
use Rattle.sha_lanes.proofs.step.begin.Goals as goal

pub returns-clause-words : goal.returns-clause-words
returns-clause-words c = λ l front low is.
    let w = c.args.fronts.now in
    let b = step_block front 0 [] in
    let at = λ (k : ℕ) (lt : k < 6). words_of-at w k l [] (omega (arith, c.told-fronts, lt)) in
    let of = λ (t : ℕ) (lt : t < 5). sym (scheduled-front front 0 [] t is.long lt) in
    let s0 = IsSchedule-none c.args.words.now b l c.told-words in
    let s1 = IsSchedule-set _ _ b l 0 (omega arith) s0 (at 0 (omega arith) ∙ is.word_0 ∙ of 0 (omega arith)) in
    let s2 = IsSchedule-set _ _ b l 1 (omega arith) s1 (at 1 (omega arith) ∙ is.word_1 ∙ of 1 (omega arith)) in
    let s3 = IsSchedule-set _ _ b l 2 (omega arith) s2 (at 2 (omega arith) ∙ is.word_2 ∙ of 2 (omega arith)) in
    let s4 = IsSchedule-set _ _ b l 3 (omega arith) s3 (at 3 (omega arith) ∙ is.word_3 ∙ of 3 (omega arith)) in
    let s5 = IsSchedule-set _ _ b l 4 (omega arith) s4 (at 4 (omega arith) ∙ is.word_4 ∙ of 4 (omega arith)) in
    IsBegun-put _ _ _ front l is.long s5 (splat_at 0 l low) (splat_at 440 l low)

pub returns-clause-midstate : goal.returns-clause-midstate
returns-clause-midstate c = λ l j front value low is long.
    let b = step_block front j value in
    let words = IsSchedule-begun _ front j value (returns-clause-words c l front low is) in
    record {
      state = c.first_five_rounds.ensures l b low words ∙ ap (λ (h : List ℕ). rounds h (schedule b 48) 5) (c.initial_state.ensures l low);
      sums = c.shared_sums.ensures l b low (IsStepOf-step _ front j value is long);
    }
