use Rattle.std.proofs.Common.{refl, arith}
use Rattle.sha2.specs.Sha256.{rounds}
use Rattle.sha_lanes.specs.Lanes.{hash_in}
use Rattle.sha_lanes.proofs.OfSchedules.{IsSchedule-less}
use Rattle.sha_lanes.proofs.compression.first_five_rounds.Goals as goal

pub returns : goal.returns
unfolding rounds
returns c = λ l b low held.
    let h = hash_in c.args.v l in
    c.round_at.ensures l b h low held (c.four_rounds-v.ensures l b h low (IsSchedule-less _ b _ _ (omega arith) held) refl)
