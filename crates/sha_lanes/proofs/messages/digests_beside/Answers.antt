use Rattle.std.proofs.Common.{◌≡◌, ◌*◌, ℕ, take, drop, ap, sym, ◌∙◌}
use Rattle.sha2.specs.Sha256.{compress, hash_after, initial_hash_256, padded_message}
use Rattle.sha2.proofs.Absorbing256.{hash_after_next}
use Rattle.sha_lanes.specs.Lanes.{one_of}
use Rattle.sha_lanes.specs.Message.{bytes_of}
use Rattle.sha_lanes.specs.Windows.{message_at}
use Rattle.sha_lanes.proofs.OfLanes.{in_lanes}
use Rattle.sha_lanes.proofs.messages.digests_beside.Goals as goal

pub digests_from-requires-clause-state : goal.digests_from-requires-clause-state
unfolding hash_after
digests_from-requires-clause-state c = λ l h.
    let padded = λ (k : ℕ). padded_message (bytes_of (message_at c.args.messages.now k)) in
    let blocks = one_of c.block.result c.block-2.result c.block-3.result c.block-4.result in
    let block = in_lanes (λ k. blocks k ≡ take 64 (drop (0 * 64) (padded k))) c.block.ensures c.block-2.ensures c.block-3.ensures c.block-4.ensures l h in
    c.state_behind-state.ensures l h ∙ ap (compress initial_hash_256) block ∙ sym (hash_after_next initial_hash_256 (padded l) 0)
