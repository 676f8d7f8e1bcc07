use Rattle.std.proofs.Common.{[], ◌∷◌, slice_index}
use Rattle.sha2.specs.Sha256.{add32}
use Rattle.sha_lanes.proofs.OfLanes.{HasLanes-two, HasLanes-right}
use Rattle.sha_lanes.proofs.compression.round.Goals as goal

pub returns : goal.returns
returns c = λ l h.
    let v = c.args.v in
    let first = HasLanes-two add32 _ _ _ _ _ c.add.ensures c.temp1-first.ensures c.temp2-second.ensures in
    let last = HasLanes-right add32 _ _ _ _ c.add-2.ensures c.temp1-first.ensures in
    (λ i. first.each l h i ∷ slice_index v.a l ∷ slice_index v.b l ∷ slice_index v.c l
    ∷ last.each l h i ∷ slice_index v.e l ∷ slice_index v.f l ∷ slice_index v.g l ∷ [])
