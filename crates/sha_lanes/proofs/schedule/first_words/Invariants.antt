use Rattle.std.proofs.Common.{◌≡◌, ℕ, ◌<◌, ◌*◌, length, get_or, []}
use Rattle.sha2.specs.Sha256.{word_at}
use Rattle.sha_lanes.specs.Lanes.{HasLanes, one_of}
use Rattle.sha_lanes.proofs.schedule.first_words.Given as goal

abbrev pub invariant-words : goal.invariant-words
invariant-words s = (length s.words ≡ 16)
    × ((t : ℕ) → t < s.t → HasLanes (get_or s.words t []) (λ l. word_at (one_of s.first s.second s.third s.fourth l) (4 * t)))
