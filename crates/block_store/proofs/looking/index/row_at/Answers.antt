use Rattle.std.proofs.Common.{◌≡◌, ◌<◌, Some, get_or, length, sym, ap, ◌∙◌, arith}
use Rattle.std.proofs.lemmas.List.{get_or-map}
use Rattle.std.proofs.lemmas.Option.{slice_get-get_or}
use Rattle.block_store.specs.Blocks.{block_rows, index_of}
use Rattle.block_store.specs.Held.{rows_of}
use Rattle.block_store.proofs.Pieces.{index_inside, index_end, row_inside, row_there}
use Rattle.block_store.proofs.looking.index.row_at.Goals as goal

pub returns : goal.returns
returns g c =
    let pieces = c.args.pieces.now in
    let spot = c.args.spot in
    let piece = c.index-pieces-spot.result in
    let rows = (get_or pieces spot.block piece).block.value.rows.items in
    let inside : spot.block < length pieces = omega arith in
    let held = c.index.result.now in
    let row = c.deref-2.result.now in
    let read : held ≡ get_or rows spot.row held = c.index.ensures ∙ ap (λ b. get_or b.rows.items spot.row held) c.deref.ensures in
    let seen : get_or (rows_of rows) spot.row row ≡ row =
    get_or-map (λ a. a.value) rows spot.row held row (row_inside pieces spot c.requires piece inside) ∙ ap (λ a. a.value) (sym read) ∙ sym c.deref-2.ensures in
    slice_get-get_or (block_rows pieces) (index_of pieces spot) row (index_inside pieces spot c.requires piece inside)
    ∙ ap (λ r. Some r) (row_there pieces spot c.requires piece inside row ∙ seen)

pub returns-then-spot-pieces : goal.returns-then-spot-pieces
returns-then-spot-pieces g c = omega (arith, index_end c.args.pieces.now c.args.spot c.requires (omega arith))
