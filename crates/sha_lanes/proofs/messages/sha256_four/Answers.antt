use Rattle.sha2.specs.Sha256.{hash_after}
use Rattle.sha_lanes.proofs.messages.sha256_four.Goals as goal

pub digests_from-requires-clause-state : goal.digests_from-requires-clause-state
unfolding hash_after
digests_from-requires-clause-state c = λ l h. c.initial_state.ensures l h
