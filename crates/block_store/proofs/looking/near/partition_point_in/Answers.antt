use Rattle.std.proofs.Common.{◌≡◌, ◌+◌, ◌<◌, true, false, length, map, take, get_or, ap, ◌∙◌, subst, sym, Global, arith}
use Rattle.std.specs.declared.sync.Arc.{Arc}
use Rattle.std.specs.List.Sorted.{IsPartitionedBy, IsPartitionPoint}
use Rattle.std.proofs.lemmas.List.{length-map}
use Rattle.willow_entry.specs.Row.{RowValue}
use Rattle.block_store.specs.Blocks.{block_values, index_of}
use Rattle.block_store.specs.declared.block.Piece.{Piece}
use Rattle.block_store.proofs.Finding.{piece_split, found_inside, start}
use Rattle.block_store.proofs.Pieces.{some_rows, values_long}
use Rattle.block_store.proofs.looking.near.partition_point_in.Goals as goal

pub passing_rows-row-requires : goal.passing_rows-row-requires
passing_rows-row-requires g c =
    let value : Arc g.row.R.Denot Global → RowValue = λ a. g.R.Row.value a.value in
    let test = g.T.Test.test c.args.test.now in
    let same = c.deref-2.ensures.value ∙ ap (λ b. b.rows.items) c.deref.ensures in
    subst (λ l. IsPartitionedBy test (map value l)) (sym same)
    (piece_split (λ (p : Piece g.row.R.Denot g.R.Row). map value p.block.value.rows.items) test (some_rows g.R.Row.value) c.args.pieces.now c.requires c.args.block c.index-pieces-block.result (omega arith))

pub returns-clause-point : goal.returns-clause-point
returns-clause-point g c =
    let value : Arc g.row.R.Denot Global → RowValue = λ a. g.R.Row.value a.value in
    let test = g.T.Test.test c.args.test.now in
    let pieces = c.args.pieces.now in
    let row = c.passing_rows-row.result in
    let piece = c.index-pieces-block.result in
    let same = c.deref-2.ensures.value ∙ ap (λ b. b.rows.items) c.deref.ensures in
    let rows = (get_or pieces c.args.block piece).block.value.rows.items in
    let here : IsPartitionPoint (λ r. test r ≡ true) (λ r. test r ≡ false) (map value rows) row =
    subst (λ l. IsPartitionPoint (λ r. test r ≡ true) (λ r. test r ≡ false) (map value l) row) same c.passing_rows-row.ensures.point in
    let short : row < length (map value rows) = omega (arith, c.if-row-len.false, c.len.ensures, c.deref-2.ensures.len, ap length same, length-map rows value) in
    let f = λ (p : Piece g.row.R.Denot g.R.Row). map value p.block.value.rows.items in
    let at : start f pieces c.args.block + row ≡ index_of pieces (record { block = c.args.block; row = row }) = omega (arith, values_long g.R.Row.value (take c.args.block pieces)) in
    subst (λ n. IsPartitionPoint (λ r. test r ≡ true) (λ r. test r ≡ false) (block_values g.R.Row.value pieces) n) at
    (found_inside f test (some_rows g.R.Row.value) pieces c.requires c.args.block piece (omega arith) row (omega arith) short here)
