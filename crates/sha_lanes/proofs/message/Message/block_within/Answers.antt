use Rattle.std.proofs.Common.{◌≡◌, ◌-◌, length, arith, ◌∙◌}
use Rattle.sha_lanes.proofs.OfMessages.{block-behind, block-piece, block-whole}
use Rattle.sha_lanes.proofs.message.Message.block_within.Goals as goal

pub returns-then-self-start : goal.returns-then-self-start
returns-then-self-start c = c.block_at.ensures ∙ block-behind c.args.self.now.front.now c.args.self.now.rest.now c.args.start (omega arith)

pub returns : goal.returns
returns c =
    let front = c.args.self.now.front.now in
    let rest = c.args.self.now.rest.now in
    let at_rest : 0 ≡ c.args.start - length front = omega arith in
    let one = c.put_piece-used.ensures in
    let two = c.put_piece.ensures in
    let held = block-piece front rest c.args.start _ _ _ _ _ one.room c.put_piece-used.array_long one.put at_rest two.put in
    block-whole _ _ c.args.start _ two.room c.put_piece.array_long c.requires held
