use Rattle.std.proofs.Common.{◌≡◌, ◌*◌, ◌<◌, ℕ, [], ◌∷◌, take, drop, sym, ◌∙◌, arith}
use Rattle.sha2.specs.Sha256.{compress, initial_hash_256, padded_message}
use Rattle.sha2.proofs.Absorbing256.{hash_after_next}
use Rattle.sha_lanes.specs.Lanes.{hash_in, one_of}
use Rattle.sha_lanes.specs.Message.{bytes_of, digest_of}
use Rattle.sha_lanes.specs.Windows.{message_at}
use Rattle.sha_lanes.proofs.OfLanes.{in_lanes}
use Rattle.sha_lanes.proofs.OfMessages.{block_count-alike, digest_bytes-hash_after, map-four}
use Rattle.sha_lanes.proofs.messages.digests_from.Goals as goal

pub numbers-preserved : goal.numbers-preserved
numbers-preserved c = λ l h.
    let padded = λ (k : ℕ). padded_message (bytes_of (message_at c.args.messages.now k)) in
    let number = c.numbers.number in
    let blocks = one_of c.block.result c.block-in-numbers.result c.block-in-numbers-2.result c.block-in-numbers-3.result in
    let block = in_lanes (λ k. blocks k ≡ take 64 (drop (number * 64) (padded k)))
    c.block.ensures c.block-in-numbers.ensures c.block-in-numbers-2.ensures c.block-in-numbers-3.ensures l h in
    c.compress-state.ensures l (blocks l) h (c.first_words-words.ensures l h)
    ∙ (λ i. compress (c.numbers.invariant l h i) (block i)) ∙ sym (hash_after_next initial_hash_256 (padded l) number)

pub returns : goal.returns
returns c =
    let messages = c.args.messages.now in
    let all : c.numbers.number ≡ c.block_count-number-end.result = omega (arith, c.block_count-number-end.ensures, c.requires.from) in
    let digest = λ (l : ℕ) (h : l < 4). digest_bytes-hash_after (bytes_of (message_at messages l)) (hash_in c.numbers.state l) c.numbers.number
    (c.numbers.invariant l h) (all ∙ c.block_count-number-end.ensures ∙ block_count-alike messages l c.told-messages h c.requires.alike) in
    let d0 = digest 0 (omega arith) in
    let d1 = digest 1 (omega arith) in
    let d2 = digest 2 (omega arith) in
    let d3 = digest 3 (omega arith) in
    c.digests.ensures ∙ (λ i. d0 i ∷ d1 i ∷ d2 i ∷ d3 i ∷ []) ∙ sym (map-four digest_of messages c.told-messages)
