use Rattle.std.proofs.Common.{◌+◌, ◌∙◌, arith}
use Rattle.sha_lanes.specs.Lanes.{words_of}
use Rattle.sha_lanes.proofs.OfSchedules.{IsSchedule-at, IsSchedule-less, IsSchedule-set, next_word-scheduled}
use Rattle.sha_lanes.proofs.compression.round_and_word.Goals as goal

pub returns-clause-words : goal.returns-clause-words
returns-clause-words c = λ l b low held.
    let w = c.args.words.now in
    let t = c.args.t in
    let word = c.next_word.ensures.each l low ∙ next_word-scheduled (words_of w l) b (t + 16) (omega arith) (omega (arith, c.requires)) held in
    IsSchedule-at _ b _ _ (omega arith) (IsSchedule-set w c.next_word.result b l (t + 16) (omega (arith, c.requires)) held word)

pub returns-clause-state : goal.returns-clause-state
returns-clause-state c = λ l b h low held before. c.round_at-v.ensures l b h low (IsSchedule-less _ b _ _ (omega arith) held) before
