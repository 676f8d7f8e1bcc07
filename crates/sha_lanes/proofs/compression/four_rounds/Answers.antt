use Rattle.std.proofs.Common.{arith}
use Rattle.sha_lanes.proofs.OfSchedules.{IsSchedule-less, rounds-at}
use Rattle.sha_lanes.proofs.compression.four_rounds.Goals as goal

pub returns : goal.returns
returns c = λ l b h low held before.
    let s1 = c.round_at-v.ensures l b h low (IsSchedule-less _ b _ _ (omega arith) held) before in
    let s2 = c.round_at-v-2.ensures l b h low (IsSchedule-less _ b _ _ (omega arith) held) s1 in
    let s3 = c.round_at-v-3.ensures l b h low (IsSchedule-less _ b _ _ (omega arith) held) (rounds-at h _ _ _ _ (omega arith) s2) in
    rounds-at h _ _ _ _ (omega arith) (c.round_at.ensures l b h low (IsSchedule-less _ b _ _ (omega arith) held) (rounds-at h _ _ _ _ (omega arith) s3))
