use Rattle.std.proofs.Common.{◌≡◌, ℕ, List, ◌<◌, ◌≤◌, ◌+◌, slice_index}
use Rattle.sha2.specs.Sha256.{digest_bytes}
use Rattle.sha_lanes.specs.Lanes.{hash_in, words_of}
use Rattle.sha_lanes.specs.Step.{IsBegun, IsFront}
use Rattle.sha_lanes.specs.Chain.{run}
use Rattle.sha_lanes.proofs.step.run_steps.Given as goal

abbrev pub invariant-steps : goal.invariant-steps
invariant-steps s = (l : ℕ) (front : List ℕ) → l < 4 → slice_index s.numbers l + s.count ≤ 256 → IsFront (words_of s.fronts l) front
    → (digest_bytes (hash_in s.reached l) 8 ≡ run front (slice_index s.numbers l) s.done (digest_bytes (hash_in s.fn.values l) 8))
    × IsBegun (words_of s.words l) front
