use Rattle.std.proofs.Common.{◌≡◌, ◌+◌, ◌<◌, ◌≤◌, length, take, insert, get_or, ap, ◌∙◌, arith}
use Rattle.std.proofs.lemmas.List.{length-map, get_or-map}
use Rattle.std.proofs.lemmas.Result.{on_ok_weaker, on_err_weaker}
use Rattle.block_store.specs.Blocks.{block_values, index_of}
use Rattle.block_store.specs.Held.{rows_of, values_of}
use Rattle.block_store.specs.declared.block.Piece.{Piece}
use Rattle.block_store.proofs.Entering.{set_same, set_insert}
use Rattle.block_store.proofs.Growing.{packed_changed}
use Rattle.block_store.proofs.Finding.{start}
use Rattle.block_store.proofs.Pieces.{values_long}
use Rattle.block_store.proofs.changing.enter.enter.Goals as goal

pub returns-clause-rows : goal.returns-clause-rows
returns-clause-rows g c =
    let pieces = c.args.pieces.now.items in
    let at = c.args.at in
    let old = c.index_mut.result.now in
    let inside : at.block < length pieces = omega (arith, c.args.pieces.now.ok.0) in
    let same : values_of g.R.Row.value old.block.value.rows.items ≡ values_of g.R.Row.value (get_or pieces at.block old).block.value.rows.items =
    ap (λ (p : Piece g.row.R.Denot g.R.Row). values_of g.R.Row.value p.block.value.rows.items) c.index_mut.ensures.value in
    let long = get_or-map (λ (p : Piece g.row.R.Denot g.R.Row). length p.block.value.rows.items) pieces at.block old 0 inside in
    let within : at.row ≤ length (values_of g.R.Row.value (get_or pieces at.block old).block.value.rows.items) =
    omega (arith, long, length-map (get_or pieces at.block old).block.value.rows.items (λ a. g.R.Row.value a.value)) in
    let sum : start (λ (p : Piece g.row.R.Denot g.R.Row). values_of g.R.Row.value p.block.value.rows.items) pieces at.block + at.row ≡ index_of pieces at =
    omega (arith, values_long g.R.Row.value (take at.block pieces)) in
    on_ok_weaker c.enter_piece.result
    (λ e. set_insert (λ (p : Piece g.row.R.Denot g.R.Row). values_of g.R.Row.value p.block.value.rows.items) pieces at.block at.row c.enter_piece.new.piece old (g.R.Row.value c.args.held.value) inside within
    (e ∙ ap (λ l. insert l at.row (g.R.Row.value c.args.held.value)) same)
    ∙ ap (λ n. insert (block_values g.R.Row.value pieces) n (g.R.Row.value c.args.held.value)) sum)
    c.enter_piece.ensures.rows

pub returns-clause-packed : goal.returns-clause-packed
returns-clause-packed g c = λ packed.
    let pieces = c.args.pieces.now.items in
    let at = c.args.at in
    let old = c.index_mut.result.now in
    let new = c.enter_piece.new.piece in
    let inside : at.block < length pieces = omega (arith, c.args.pieces.now.ok.0) in
    let same = ap (λ (p : Piece g.row.R.Denot g.R.Row). length p.block.value.rows.items) c.index_mut.ensures.value in
    packed_changed pieces at.block new old inside (omega (arith, same, c.enter_piece.ensures.larger, old.block.value.rows.ok.0, new.block.value.rows.ok.0)) packed

pub returns-clause-err : goal.returns-clause-err
returns-clause-err g c =
    let pieces = c.args.pieces.now.items in
    let at = c.args.at in
    let old = c.index_mut.result.now in
    let inside : at.block < length pieces = omega (arith, c.args.pieces.now.ok.0) in
    on_err_weaker c.enter_piece.result
    (λ e. set_same (λ (p : Piece g.row.R.Denot g.R.Row). rows_of p.block.value.rows.items) pieces at.block c.enter_piece.new.piece old inside
    (e ∙ ap (λ (p : Piece g.row.R.Denot g.R.Row). rows_of p.block.value.rows.items) c.index_mut.ensures.value))
    c.enter_piece.ensures.err
