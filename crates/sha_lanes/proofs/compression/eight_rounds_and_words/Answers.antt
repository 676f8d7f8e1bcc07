use Rattle.std.proofs.Common.{◌+◌, arith}
use Rattle.sha_lanes.proofs.OfSchedules.{IsSchedule-at, rounds-at}
use Rattle.sha_lanes.proofs.compression.eight_rounds_and_words.Goals as goal

pub returns-clause-words : goal.returns-clause-words
returns-clause-words c = λ l b low held.
    let w1 = c.round_and_word-v.ensures.words l b low held in
    let w2 = c.round_and_word-v-2.ensures.words l b low (IsSchedule-at _ b _ _ (omega arith) w1) in
    let w3 = c.round_and_word-v-3.ensures.words l b low (IsSchedule-at _ b _ _ (omega arith) w2) in
    let w4 = c.round_and_word-v-4.ensures.words l b low (IsSchedule-at _ b _ _ (omega arith) w3) in
    let w5 = c.round_and_word-v-5.ensures.words l b low (IsSchedule-at _ b _ _ (omega arith) w4) in
    let w6 = c.round_and_word-v-6.ensures.words l b low (IsSchedule-at _ b _ _ (omega arith) w5) in
    let w7 = c.round_and_word-v-7.ensures.words l b low (IsSchedule-at _ b _ _ (omega arith) w6) in
    IsSchedule-at _ b _ _ (omega arith) (c.round_and_word.ensures.words l b low (IsSchedule-at _ b _ _ (omega arith) w7))

pub returns-clause-state : goal.returns-clause-state
returns-clause-state c = λ l b h low held before.
    let t = c.args.t in
    let w1 = IsSchedule-at _ b (t + 17) (t + 1 + 16) (omega arith) (c.round_and_word-v.ensures.words l b low held) in
    let w2 = IsSchedule-at _ b (t + 1 + 17) (t + 2 + 16) (omega arith) (c.round_and_word-v-2.ensures.words l b low w1) in
    let w3 = IsSchedule-at _ b (t + 2 + 17) (t + 3 + 16) (omega arith) (c.round_and_word-v-3.ensures.words l b low w2) in
    let w4 = IsSchedule-at _ b (t + 3 + 17) (t + 4 + 16) (omega arith) (c.round_and_word-v-4.ensures.words l b low w3) in
    let w5 = IsSchedule-at _ b (t + 4 + 17) (t + 5 + 16) (omega arith) (c.round_and_word-v-5.ensures.words l b low w4) in
    let w6 = IsSchedule-at _ b (t + 5 + 17) (t + 6 + 16) (omega arith) (c.round_and_word-v-6.ensures.words l b low w5) in
    let w7 = IsSchedule-at _ b (t + 6 + 17) (t + 7 + 16) (omega arith) (c.round_and_word-v-7.ensures.words l b low w6) in
    let s1 = c.round_and_word-v.ensures.state l b h low held before in
    let s2 = c.round_and_word-v-2.ensures.state l b h low w1 s1 in
    let s3 = c.round_and_word-v-3.ensures.state l b h low w2 (rounds-at h _ _ (t + 1 + 1) (t + 2) (omega arith) s2) in
    let s4 = c.round_and_word-v-4.ensures.state l b h low w3 (rounds-at h _ _ (t + 2 + 1) (t + 3) (omega arith) s3) in
    let s5 = c.round_and_word-v-5.ensures.state l b h low w4 (rounds-at h _ _ (t + 3 + 1) (t + 4) (omega arith) s4) in
    let s6 = c.round_and_word-v-6.ensures.state l b h low w5 (rounds-at h _ _ (t + 4 + 1) (t + 5) (omega arith) s5) in
    let s7 = c.round_and_word-v-7.ensures.state l b h low w6 (rounds-at h _ _ (t + 5 + 1) (t + 6) (omega arith) s6) in
    let s8 = c.round_and_word.ensures.state l b h low w7 (rounds-at h _ _ (t + 6 + 1) (t + 7) (omega arith) s7) in
    rounds-at h _ _ (t + 7 + 1) (t + 8) (omega arith) s8
