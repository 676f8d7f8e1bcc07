use Rattle.std.proofs.Common.{◌≡◌, ℕ, List, ◌<◌, ◌+◌, ◌*◌}
use Rattle.sha2.specs.Sha256.{rounds, schedule}
use Rattle.sha_lanes.specs.Lanes.{IsSchedule, hash_in, words_of}
use Rattle.sha_lanes.proofs.compression.rounds_from.Given as goal

abbrev pub invariant-turns : goal.invariant-turns
invariant-turns s = ((l : ℕ) (b : List ℕ) → l < 4 → IsSchedule (words_of s.fn.words l) b (8 * s.fn.begin + 16) → IsSchedule (words_of s.words l) b (8 * s.turn + 16))
    × ((l : ℕ) (b h : List ℕ) → l < 4 → IsSchedule (words_of s.fn.words l) b (8 * s.fn.begin + 16)
    → hash_in s.fn.v l ≡ rounds h (schedule b 48) (8 * s.fn.begin) → hash_in s.reached l ≡ rounds h (schedule b 48) (8 * s.turn))

abbrev pub invariant-ends : goal.invariant-ends
invariant-ends s = ((l : ℕ) (b : List ℕ) → l < 4 → IsSchedule (words_of s.fn.words l) b (8 * s.fn.begin + 16) → IsSchedule (words_of s.words l) b 64)
    × ((l : ℕ) (b h : List ℕ) → l < 4 → IsSchedule (words_of s.fn.words l) b (8 * s.fn.begin + 16)
    → hash_in s.fn.v l ≡ rounds h (schedule b 48) (8 * s.fn.begin) → hash_in s.reached l ≡ rounds h (schedule b 48) (8 * s.turn))
