use Rattle.std.proofs.Common.{◌≡◌, ◌+◌, ◌≤◌, true, false, length, map, take, get_or, ap, ◌∙◌, subst, sym, Global, arith}
use Rattle.std.specs.declared.sync.Arc.{Arc}
use Rattle.std.specs.List.Sorted.{IsPartitionedBy, IsPartitionPoint}
use Rattle.std.proofs.lemmas.List.{length-map, get_or_default, take_all}
use Rattle.willow_entry.specs.Row.{RowValue}
use Rattle.block_store.specs.Blocks.{block_rows, block_values, index_of, last_passes}
use Rattle.block_store.specs.declared.block.Piece.{Piece}
use Rattle.block_store.proofs.Finding.{piece_split, off_inside, found_in, found_end, start}
use Rattle.block_store.proofs.Pieces.{some_rows, values_long}
use Rattle.block_store.proofs.looking.search.spot_in.Goals as goal

-- all blocks end passing
pub returns-then-block-pieces-clause-point : goal.returns-then-block-pieces-clause-point
returns-then-block-pieces-clause-point g c =
    let value : Arc g.row.R.Denot Global → RowValue = λ a. g.R.Row.value a.value in
    let test = g.T.Test.test c.args.test.now in
    let pieces = c.args.pieces.now in
    let block = c.args.block in
    let whole : block ≡ length pieces = omega (arith, c.requires.bound) in
    let at : length (block_values g.R.Row.value pieces) ≡ length (block_rows (take block pieces)) + 0 =
    omega (arith, values_long g.R.Row.value pieces, ap (λ l. length (block_rows l)) (take_all block pieces (omega arith))) in
    subst (λ n. IsPartitionPoint (λ r. test r ≡ true) (λ r. test r ≡ false) (block_values g.R.Row.value pieces) n) at
    (found_end (λ p. map value p.block.value.rows.items) test (some_rows g.R.Row.value) pieces c.requires.split
    (subst (λ n. IsPartitionPoint (λ p. last_passes test (map value p.block.value.rows.items) ≡ true) (λ p. last_passes test (map value p.block.value.rows.items) ≡ false) pieces n) whole c.requires.point))

pub passing_rows-row-requires : goal.passing_rows-row-requires
passing_rows-row-requires g c =
    let value : Arc g.row.R.Denot Global → RowValue = λ a. g.R.Row.value a.value in
    let test = g.T.Test.test c.args.test.now in
    let same = c.deref-2.ensures.value ∙ ap (λ b. b.rows.items) c.deref.ensures in
    subst (λ l. IsPartitionedBy test (map value l)) (sym same)
    (piece_split (λ (p : Piece g.row.R.Denot g.R.Row). map value p.block.value.rows.items) test (some_rows g.R.Row.value) c.args.pieces.now c.requires.split c.args.block c.index-pieces-block.result (omega arith))

pub returns-clause-spot : goal.returns-clause-spot
returns-clause-spot g c =
    let value : Arc g.row.R.Denot Global → RowValue = λ a. g.R.Row.value a.value in
    let test = g.T.Test.test c.args.test.now in
    let pieces = c.args.pieces.now in
    let block = c.args.block in
    let row = c.passing_rows-row.result in
    let piece = c.index-pieces-block.result in
    let same = c.deref-2.ensures.value ∙ ap (λ b. b.rows.items) c.deref.ensures in
    let rows = (get_or pieces block piece).block.value.rows.items in
    let here : IsPartitionPoint (λ r. test r ≡ true) (λ r. test r ≡ false) (map value rows) row =
    subst (λ l. IsPartitionPoint (λ r. test r ≡ true) (λ r. test r ≡ false) (map value l) row) same c.passing_rows-row.ensures.point in
    let bound : row ≤ length (map value rows) = omega (arith, c.passing_rows-row.ensures.bound, ap length same, length-map rows value) in
    let short = off_inside (λ (p : Piece g.row.R.Denot g.R.Row). map value p.block.value.rows.items) test (some_rows g.R.Row.value) pieces c.requires.split block piece (omega arith) c.requires.point row here bound in
    record {
      within = omega (arith, c.requires.bound);
      row = λ p h. omega (
        arith,
        short,
        length-map rows value,
        length-map (get_or pieces block p).block.value.rows.items (λ a. a.value),
        ap (λ q. length q.block.value.rows.items) (get_or_default pieces block p piece h),
      );
      end = λ h. absurd (omega arith);
    }

pub returns-clause-point : goal.returns-clause-point
returns-clause-point g c =
    let value : Arc g.row.R.Denot Global → RowValue = λ a. g.R.Row.value a.value in
    let test = g.T.Test.test c.args.test.now in
    let pieces = c.args.pieces.now in
    let block = c.args.block in
    let row = c.passing_rows-row.result in
    let piece = c.index-pieces-block.result in
    let same = c.deref-2.ensures.value ∙ ap (λ b. b.rows.items) c.deref.ensures in
    let rows = (get_or pieces block piece).block.value.rows.items in
    let here : IsPartitionPoint (λ r. test r ≡ true) (λ r. test r ≡ false) (map value rows) row =
    subst (λ l. IsPartitionPoint (λ r. test r ≡ true) (λ r. test r ≡ false) (map value l) row) same c.passing_rows-row.ensures.point in
    let bound : row ≤ length (map value rows) = omega (arith, c.passing_rows-row.ensures.bound, ap length same, length-map rows value) in
    let f = λ (p : Piece g.row.R.Denot g.R.Row). map value p.block.value.rows.items in
    let short = off_inside f test (some_rows g.R.Row.value) pieces c.requires.split block piece (omega arith) c.requires.point row here bound in
    let at : start f pieces block + row ≡ index_of pieces (record { block = block; row = row }) = omega (arith, values_long g.R.Row.value (take block pieces)) in
    subst (λ n. IsPartitionPoint (λ r. test r ≡ true) (λ r. test r ≡ false) (block_values g.R.Row.value pieces) n) at
    (found_in f test (some_rows g.R.Row.value) pieces c.requires.split block piece (omega arith) c.requires.point row here short)
