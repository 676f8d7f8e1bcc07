use Rattle.std.proofs.Common.{refl, ◌∙◌, arith}
use Rattle.sha2.specs.Sha256.{schedule}
use Rattle.sha_lanes.proofs.OfLanes.{words_of-at}
use Rattle.sha_lanes.proofs.OfSchedules.{rounds-more}
use Rattle.sha_lanes.proofs.compression.round_at.Goals as goal

pub returns : goal.returns
returns c = λ l b h low held before.
    let w = c.args.words.now in
    let t = c.args.t in
    rounds-more h (schedule b 48) _ t _ _ _ before refl
    (words_of-at w t l _ (omega (arith, c.told-words, c.requires)) ∙ held.each t (omega arith)) (c.round.ensures l low)
