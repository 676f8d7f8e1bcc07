use Rattle.std.proofs.Common.{refl, ap, ◌∙◌}
use Rattle.sha2.specs.Sha256.{add_state, compress, rounds}
use Rattle.sha_lanes.specs.Lanes.{hash_in}
use Rattle.sha_lanes.proofs.OfSchedules.{IsSchedule-block}
use Rattle.sha_lanes.proofs.compression.compress.Goals as goal

pub returns : goal.returns
unfolding compress rounds
returns c = λ l b low block.
    let start = hash_in c.args.state l in
    let words = IsSchedule-block _ _ _ b l c.copy_from_slice.ensures.after block refl in
    c.add_states.ensures l low ∙ ap (add_state start) (c.rounds_from.ensures.state l b start low words refl)
