use Rattle.std.proofs.Common.{sym, ◌∙◌}
use Rattle.sha_lanes.specs.Windows.{message_at}
use Rattle.signature_trials.proofs.Alike.{AreAlike-counted_four}
use Rattle.signature_trials.proofs.digests.four.Goals as goal

pub sha256_four-requires : goal.sha256_four-requires
sha256_four-requires c =
    let messages = c.args.messages.now in
    let first = sym c.block_count-count.ensures in
    let second = sym c.block_count.ensures ∙ c.if-block_count-count.true in
    let third = sym c.block_count-then-block_count-count.ensures ∙ c.if-block_count-count-2.true in
    let fourth = sym c.block_count-then-block_count-count-2.ensures ∙ c.if-block_count-count-3.true in
    AreAlike-counted_four c.block_count-count.result (message_at messages 0) (message_at messages 1) (message_at messages 2) (message_at messages 3) first second third fourth
