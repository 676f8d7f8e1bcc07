use Rattle.std.proofs.Common.{◌≡◌, ◌-◌, ◌<◌, true, get_or}
use Rattle.block_store.specs.Blocks.{last_passes}
use Rattle.block_store.specs.Held.{values_of}
use Rattle.block_store.specs.declared.block.Piece.{Piece}
use Rattle.block_store.proofs.looking.near.passing_blocks_from.Given as goal

abbrev pub invariant-loop-block : goal.invariant-loop-block
invariant-loop-block g l = (p : Piece g.row.R.Denot g.R.Row) → 0 < l.block → last_passes (g.T.Test.test l.test) (values_of g.R.Row.value (get_or l.pieces (l.block - 1) p).block.value.rows.items) ≡ true
