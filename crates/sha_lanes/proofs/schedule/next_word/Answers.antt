use Rattle.std.proofs.Common.{[], ◌-◌, arith}
use Rattle.sha2.specs.Sha256.{add32, small_sigma0, small_sigma1}
use Rattle.sha_lanes.proofs.OfLanes.{HasLanes-left, HasLanes-two, HasLanes-same, words_of-at}
use Rattle.sha_lanes.proofs.schedule.next_word.Goals as goal

pub returns : goal.returns
returns c =
    let w = c.args.words.now in
    let t = c.args.t in
    let first = HasLanes-left add32 _ _ _ _ c.add-first.ensures c.small_sigma1.ensures in
    let second = HasLanes-two add32 _ _ _ _ _ c.add-second.ensures first c.small_sigma0.ensures in
    HasLanes-same _ _ _ (λ l h i. add32 (add32 (add32
    (small_sigma1 (words_of-at w (t - 2) l [] (omega (arith, c.told-words, c.requires.high)) i))
    (words_of-at w (t - 7) l [] (omega (arith, c.told-words, c.requires.high)) i))
    (small_sigma0 (words_of-at w (t - 15) l [] (omega (arith, c.told-words, c.requires.high)) i)))
    (words_of-at w (t - 16) l [] (omega (arith, c.told-words, c.requires.high)) i))
    (HasLanes-left add32 _ _ _ _ c.add.ensures second)
