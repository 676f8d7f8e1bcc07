use Rattle.std.proofs.Common.{ℕ, [], slice_index, ap, ◌∙◌, arith}
use Rattle.sha2.specs.Sha256.{add32}
use Rattle.sha_lanes.specs.Lanes.{words_of}
use Rattle.sha_lanes.proofs.OfLanes.{words_of-at}
use Rattle.sha_lanes.proofs.OfSteps.{front_numbered}
use Rattle.sha_lanes.proofs.step.numbered.Goals as goal

pub returns : goal.returns
returns c = λ l f h low front.
    let w = c.args.fronts.now in
    let number = slice_index c.args.numbers l in
    front_numbered (words_of w l) f _ number low front
    (c.add.ensures.each l h ∙ ap (λ (x : ℕ). add32 x number) (words_of-at w 5 l [] (omega (arith, c.told-fronts))))
