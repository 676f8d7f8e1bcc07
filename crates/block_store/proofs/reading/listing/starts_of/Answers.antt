use Rattle.std.proofs.Common.{◌+◌, length, take, get_or, ap, arith}
use Rattle.std.proofs.lemmas.List.{length-append, length-map}
use Rattle.block_store.specs.Blocks.{block_rows}
use Rattle.block_store.specs.Held.{rows_of}
use Rattle.block_store.proofs.Spans.{piece_more, front_short}
use Rattle.block_store.proofs.reading.listing.starts_of.Goals as goal

pub overflow_add-at : goal.overflow_add-at
overflow_add-at g c =
    let pieces = c.args.pieces.now in
    let piece = get_or pieces c.loop-i.i c.index-pieces-i.result in
    let more = ap length (piece_more (λ p. rows_of p.block.value.rows.items) pieces c.loop-i.i c.index-pieces-i.result (omega arith)) in
    omega (
      arith,
      more,
      front_short (λ p. rows_of p.block.value.rows.items) pieces (c.loop-i.i + 1),
      length-append (block_rows (take c.loop-i.i pieces)) (rows_of piece.block.value.rows.items),
      length-map piece.block.value.rows.items (λ a. a.value),
      piece.counted,
      piece.block.value.rows.ok.0,
    )
