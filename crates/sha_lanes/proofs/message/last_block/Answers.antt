use Rattle.std.proofs.Common.{length, drop, replicate, slice_set, ◌++◌, ◌∙◌}
use Rattle.sha_lanes.proofs.OfMessages.{last_block-written}
use borrow.Rule.Slice.PartMut.{put_mid}
use Rattle.sha_lanes.proofs.message.last_block.Goals as goal

pub returns : goal.returns
returns c =
    let n = length c.args.bytes.now in
    (λ i. put_mid 56 8 (slice_set (c.copy_from_slice.ensures.after i ++ drop n (replicate 64 0)) n 0x80) (c.copy_from_slice-2.ensures.after i))
    ∙ last_block-written c.args.bytes.now c.args.bit_length c.requires
