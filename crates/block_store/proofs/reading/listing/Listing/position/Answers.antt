use Rattle.std.proofs.Common.{◌≡◌, length, take, arith}
use Rattle.block_store.specs.Blocks.{block_rows}
use Rattle.block_store.proofs.Spots.{spot_within, start_read}
use Rattle.block_store.proofs.reading.listing.Listing.position.Goals as goal

start_is : (g : _) (c : goal.After-struct_known-1 g) → c.index.result.now ≡ length (block_rows (take c.args.spot.block c.args.self.now.pieces.items))
start_is g c = start_read c.args.self.now.starts.items c.args.self.now.pieces.items c.args.spot.block c.index.result.now c.index.result.now c.args.self.now.placed c.requires.within c.index.ensures

pub overflow_cast-result : goal.overflow_cast-result
overflow_cast-result g c = omega (arith, start_is g c, spot_within c.args.self.now.pieces.items c.args.spot c.requires, c.args.self.now.few)

pub overflow_add-result : goal.overflow_add-result
overflow_add-result g c = omega (arith, start_is g c, spot_within c.args.self.now.pieces.items c.args.spot c.requires, c.args.self.now.few)

pub returns-clause-within : goal.returns-clause-within
returns-clause-within g c = omega (arith, start_is g c, spot_within c.args.self.now.pieces.items c.args.spot c.requires, c.args.self.now.few)
