use Rattle.std.proofs.Common.{arith}
use Rattle.block_store.proofs.Spots.{spot_inside}
use Rattle.block_store.proofs.reading.boxes.block_behind.Goals as goal

pub returns-then-last-len-clause-behind : goal.returns-then-last-len-clause-behind
returns-then-last-len-clause-behind g c =
    omega (arith, spot_inside c.args.listing.now.pieces.items c.args.run.now.to c.requires.to_is (omega (arith, c.len.ensures, c.args.listing.now.pieces.ok.0)))
