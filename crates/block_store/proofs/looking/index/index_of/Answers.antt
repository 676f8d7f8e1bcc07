use Rattle.std.proofs.Common.{◌≡◌, ◌+◌, length, get_or, take, ap, arith}
use Rattle.block_store.specs.Blocks.{block_rows}
use Rattle.block_store.proofs.Pieces.{rows_next, rows_within, index_bound}
use Rattle.block_store.proofs.looking.index.index_of.Goals as goal

pub overflow_add-before : goal.overflow_add-before
overflow_add-before g c =
    let pieces = c.args.pieces.now in
    let piece = get_or pieces c.loop-at.at c.index-pieces-at.result in
    omega (
      arith,
      c.loop-at.invariant,
      piece.counted,
      piece.block.value.rows.ok.0,
      rows_next pieces c.loop-at.at c.index-pieces-at.result (omega (arith, c.requires.spot.within)),
      rows_within pieces (c.loop-at.at + 1),
      c.requires.few,
    )

pub loop-at-preserved : goal.loop-at-preserved
loop-at-preserved g c =
    let pieces = c.args.pieces.now in
    let piece = get_or pieces c.loop-at.at c.index-pieces-at.result in
    omega (
      arith,
      c.loop-at.invariant,
      piece.counted,
      piece.block.value.rows.ok.0,
      rows_next pieces c.loop-at.at c.index-pieces-at.result (omega (arith, c.requires.spot.within)),
    )

pub overflow_add-result : goal.overflow_add-result
overflow_add-result g c =
    let last : c.loop-at.at ≡ c.args.spot.block = omega arith in
    omega (arith, c.loop-at.invariant, ap (λ n. length (block_rows (take n c.args.pieces.now))) last, index_bound c.args.pieces.now c.args.spot c.requires.spot, c.requires.few)

pub returns-clause-bound : goal.returns-clause-bound
returns-clause-bound g c =
    let last : c.loop-at.at ≡ c.args.spot.block = omega arith in
    omega (arith, c.loop-at.invariant, ap (λ n. length (block_rows (take n c.args.pieces.now))) last, index_bound c.args.pieces.now c.args.spot c.requires.spot)
