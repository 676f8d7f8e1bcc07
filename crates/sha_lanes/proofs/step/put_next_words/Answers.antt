use Rattle.std.proofs.Common.{slice_index, sym, ap, ◌∙◌, arith}
use Rattle.sha2.specs.Sha256.{add32, small_sigma1}
use Rattle.sha_lanes.proofs.OfSchedules.{IsSchedule-read, IsSchedule-set, next_word-scheduled}
use Rattle.sha_lanes.proofs.step.put_next_words.Goals as goal

pub returns : goal.returns
returns c = λ l b low sums held.
    let all = c.args.midstate.now.sums in
    let r9 = IsSchedule-read _ b l 9 16 (omega arith) (omega arith) held in
    let s17 = IsSchedule-set _ _ b l 16 (omega arith) held (c.add.ensures.each l low ∙ ap (add32 (slice_index all.word_16 l)) r9 ∙ sym sums.word_16) in
    let r10 = IsSchedule-read _ b l 10 17 (omega arith) (omega arith) s17 in
    let s18 = IsSchedule-set _ _ b l 17 (omega arith) s17 (c.add-2.ensures.each l low ∙ ap (add32 (slice_index all.word_17 l)) r10 ∙ sym sums.word_17) in
    let r11 = c.add-3.ensures.each l low ∙ ap (add32 (slice_index all.word_18 l)) (IsSchedule-read _ b l 11 18 (omega arith) (omega arith) s18) in
    let r16 = c.small_sigma1.ensures.each l low ∙ ap small_sigma1 (IsSchedule-read _ b l 16 18 (omega arith) (omega arith) s18) in
    let s19 = IsSchedule-set _ _ b l 18 (omega arith) s18 (c.add-4.ensures.each l low ∙ (λ i. add32 (r16 i) (r11 i)) ∙ sym sums.word_18) in
    let r12 = c.add-5.ensures.each l low ∙ ap (add32 (slice_index all.word_19 l)) (IsSchedule-read _ b l 12 19 (omega arith) (omega arith) s19) in
    let r17 = c.small_sigma1-2.ensures.each l low ∙ ap small_sigma1 (IsSchedule-read _ b l 17 19 (omega arith) (omega arith) s19) in
    let s20 = IsSchedule-set _ _ b l 19 (omega arith) s19 (c.add-6.ensures.each l low ∙ (λ i. add32 (r17 i) (r12 i)) ∙ sym sums.word_19) in
    IsSchedule-set _ _ b l 20 (omega arith) s20 (c.next_word.ensures.each l low ∙ next_word-scheduled _ b 20 (omega arith) (omega arith) s20)
