use Rattle.std.proofs.Common.{sym, ap, ◌∙◌, arith}
use Rattle.std.proofs.lemmas.Option.{slice_get_within, get_or_from_slice_get}
use Rattle.willow_entry.specs.Row.{is_covering}
use Rattle.block_store.specs.Blocks.{block_values, index_of}
use Rattle.block_store.proofs.Pieces.{value_at, values_long}
use Rattle.block_store.proofs.looking.place.is_covered_at.Goals as goal

pub returns-in-Some-clause-found : goal.returns-in-Some-clause-found
returns-in-Some-clause-found g c = λ passes.
    let r = g.R.Row.value c.args.row.now in
    let rows = block_values g.R.Row.value c.args.pieces.now in
    let at = index_of c.args.pieces.now c.args.at in
    let there = value_at g.R.Row.value c.args.pieces.now at c.in-Some.held.now c.in-Some.ensures in (
      slice_get_within rows at (g.R.Row.value c.in-Some.held.now) there,
      ap (λ s. is_covering s r) (get_or_from_slice_get rows at (g.R.Row.value c.in-Some.held.now) r there) ∙ sym c.is_covering.ensures ∙ passes,
    )

pub returns-in-Some-clause-not_found : goal.returns-in-Some-clause-not_found
returns-in-Some-clause-not_found g c = λ fails within.
    let r = g.R.Row.value c.args.row.now in
    let rows = block_values g.R.Row.value c.args.pieces.now in
    let at = index_of c.args.pieces.now c.args.at in
    let there = value_at g.R.Row.value c.args.pieces.now at c.in-Some.held.now c.in-Some.ensures in
    ap (λ s. is_covering s r) (get_or_from_slice_get rows at (g.R.Row.value c.in-Some.held.now) r there) ∙ sym c.is_covering.ensures ∙ fails

pub returns-in-None-clause-not_found : goal.returns-in-None-clause-not_found
returns-in-None-clause-not_found g c = λ fails within. absurd (omega (arith, values_long g.R.Row.value c.args.pieces.now, c.in-None.ensures))
