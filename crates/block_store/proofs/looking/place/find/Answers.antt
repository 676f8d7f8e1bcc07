use Rattle.std.proofs.Common.{Some, None, sym}
use Rattle.willow_entry.proofs.Covering.{covering_found, covering_none}
use Rattle.block_store.specs.Blocks.{block_values}
use Rattle.block_store.proofs.looking.place.find.Goals as goal

pub returns-in-Ok-clause-free : goal.returns-in-Ok-clause-free
returns-in-Ok-clause-free g c = covering_none (block_values g.R.Row.value c.args.pieces.now) (g.R.Row.value c.args.row.now) None (sym c.in-Ok.ensures.free)

pub returns-in-Err-clause-found : goal.returns-in-Err-clause-found
returns-in-Err-clause-found g c = covering_found (block_values g.R.Row.value c.args.pieces.now) (g.R.Row.value c.args.row.now) (Some c.in-Err.by) (sym c.in-Err.ensures.covered)
