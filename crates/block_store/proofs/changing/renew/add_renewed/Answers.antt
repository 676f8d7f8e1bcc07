use Rattle.std.proofs.Common.{◌≡◌, ◌+◌, ◌-◌, ◌<◌, ◌≤◌, ◌∷◌, ◌++◌, not, length, take, drop, get_or, sym, ap, ap₂, ◌∙◌, arith}
use Rattle.std.proofs.lemmas.List.{length-map, get_or-map, take-append-le}
use Rattle.std.proofs.lemmas.List.Elements.{filter-append}
use Rattle.std.proofs.lemmas.List.Concat.{flat_map-append}
use Rattle.willow_entry.specs.Row.{is_dominating, left_of}
use Rattle.block_store.specs.Blocks.{block_values, index_of}
use Rattle.block_store.specs.Held.{values_of}
use Rattle.block_store.specs.declared.block.Piece.{Piece}
use Rattle.block_store.proofs.Finding.{start}
use Rattle.block_store.proofs.Growing.{grown_on}
use Rattle.block_store.proofs.Pieces.{values_cut, values_long, index_within}
use Rattle.block_store.proofs.Renewing.{take_upto, drop_from, put_together}
use Rattle.block_store.proofs.changing.renew.add_renewed.Goals as goal

pub returns-clause-grown : goal.returns-clause-grown
returns-clause-grown g c =
    let entered = c.add_entered.new.fresh.items in
    let thinned = c.add_thinned.new.fresh.items in
    let ended = c.end_with.new.fresh.items in
    grown_on c.args.fresh.now.items entered ended c.in_ok-add_entered.ensures.grown
    (grown_on entered thinned ended c.in_ok-add_thinned.ensures.grown c.in_ok-end_with.ensures.grown)

pub returns-clause-values : goal.returns-clause-values
returns-clause-values g c =
    let r = g.R.Row.value c.args.held.now.value in
    let pieces = c.args.pieces.now in
    let at = c.args.at in
    let to = c.args.to in
    let piece = c.index-pieces-at.result in
    let rows = values_of g.R.Row.value (get_or pieces at.block piece).block.value.rows.items in
    let others = block_values g.R.Row.value (take (to - (at.block + 1)) (drop (at.block + 1) pieces)) in
    let inside : at.block < length pieces = omega (arith, c.requires.from, c.requires.within) in
    let within : at.row ≤ length rows = omega (
      arith,
      c.requires.row,
      get_or-map (λ (p : Piece g.row.R.Denot g.R.Row). length p.block.value.rows.items) pieces at.block piece 0 inside,
      length-map (get_or pieces at.block piece).block.value.rows.items (λ a. g.R.Row.value a.value),
    ) in
    let index : start (λ (p : Piece g.row.R.Denot g.R.Row). values_of g.R.Row.value p.block.value.rows.items) pieces at.block + at.row ≡ index_of pieces at = omega (arith, values_long g.R.Row.value (take at.block pieces)) in
    let upto : block_values g.R.Row.value (take at.block pieces) ++ take at.row rows ≡ take (index_of pieces at) (block_values g.R.Row.value (take to pieces)) =
    sym (take_upto (λ (p : Piece g.row.R.Denot g.R.Row). values_of g.R.Row.value p.block.value.rows.items) pieces at.block at.row piece inside within) ∙ ap (λ n. take n (block_values g.R.Row.value pieces)) index
    ∙ ap (take (index_of pieces at)) (values_cut g.R.Row.value pieces to)
    ∙ take-append-le (index_of pieces at) (block_values g.R.Row.value (take to pieces)) (block_values g.R.Row.value (drop to pieces)) (omega (arith, index_within pieces at to c.requires.from c.requires.row, values_long g.R.Row.value (take to pieces))) in
    let behind : left_of r (drop at.row rows) ++ left_of r others ≡ left_of r (drop (index_of pieces at) (block_values g.R.Row.value (take to pieces))) =
    sym (filter-append (λ s. not (is_dominating r s)) (drop at.row rows) others)
    ∙ ap (left_of r) (sym (drop_from (λ (p : Piece g.row.R.Denot g.R.Row). values_of g.R.Row.value p.block.value.rows.items) pieces at.block at.row to piece inside c.requires.from within) ∙ ap (λ n. drop n (block_values g.R.Row.value (take to pieces))) index) in
    flat_map-append (λ (p : Piece g.row.R.Denot g.R.Row). values_of g.R.Row.value p.block.value.rows.items) (take (at.block - 1) pieces) (c.end_with.new.fresh.items ++ drop (to + 1) pieces)
    ∙ ap (λ l. block_values g.R.Row.value (take (at.block - 1) pieces) ++ l) (flat_map-append (λ (p : Piece g.row.R.Denot g.R.Row). values_of g.R.Row.value p.block.value.rows.items) c.end_with.new.fresh.items (drop (to + 1) pieces))
    ∙ put_together (block_values g.R.Row.value (take (at.block - 1) pieces)) (block_values g.R.Row.value c.args.fresh.now.items) (block_values g.R.Row.value (take at.block pieces))
    (take at.row rows) (left_of r (drop at.row rows)) (left_of r others) (block_values g.R.Row.value (drop to pieces))
    (block_values g.R.Row.value c.add_entered.new.fresh.items) (block_values g.R.Row.value c.add_thinned.new.fresh.items) (block_values g.R.Row.value c.end_with.new.fresh.items) (block_values g.R.Row.value (drop (to + 1) pieces)) r
    c.requires.begun
    (c.in_ok-add_entered.ensures.values ∙ ap (λ (p : Piece g.row.R.Denot g.R.Row). block_values g.R.Row.value c.args.fresh.now.items ++ (take at.row (values_of g.R.Row.value p.block.value.rows.items) ++ r ∷ left_of r (drop at.row (values_of g.R.Row.value p.block.value.rows.items)))) c.index-pieces-at.is)
    (c.in_ok-add_thinned.ensures.values ∙ ap (λ (h : g.row.R.Denot). block_values g.R.Row.value c.add_entered.new.fresh.items ++ left_of (g.R.Row.value h) others) c.deref.ensures)
    c.in_ok-end_with.ensures.values
    ∙ ap₂ (λ l m. (l ++ r ∷ m) ++ block_values g.R.Row.value (drop to pieces)) upto behind
