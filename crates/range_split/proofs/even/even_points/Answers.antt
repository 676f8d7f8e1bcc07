use Rattle.std.proofs.Common.{◌-◌, length, map, sym, ap₂, ◌∙◌, arith}
use Rattle.std.proofs.lemmas.List.Kept.{IsStrictlySortedBy-filter}
use Rattle.willow_entry.specs.Entry.{same_bytes}
use Rattle.willow_entry.specs.Row.{inner_place_cmp}
use Rattle.willow_entry.specs.declared.entry.Entry.{Entry}
use Rattle.block_store.specs.InBox.{is_in, rows_in}
use Rattle.range_split.proofs.Finding.{found_many}
use Rattle.range_split.proofs.Subspaces.{alike_told, differ_told}
use Rattle.range_split.proofs.even.even_points.Goals as goal

pub path_points-requires-clause-one : goal.path_points-requires-clause-one
path_points-requires-clause-one g c =
    let rows = map g.R.Row.value c.args.snapshot.now in
    let held = rows_in c.args.area.now rows in
    let many = found_many (is_in c.args.area.now) rows c.args.found.now c.requires.found in
    alike_told held (g.R.Row.value c.row_among-first.result.now) (g.R.Row.value c.row_among-last.result.now) (length c.args.found.now - 1)
    (IsStrictlySortedBy-filter inner_place_cmp (is_in c.args.area.now) rows c.requires.rise) c.row_among-first.ensures c.row_among-last.ensures (omega arith)
    (ap₂ (λ (e f : Entry). same_bytes e.subspace f.subspace) (sym c.entry.ensures.entry) (sym c.entry-2.ensures.entry) ∙ sym c.eq.ensures ∙ c.if-eq.true)

pub several-requires-clause-several : goal.several-requires-clause-several
several-requires-clause-several g c =
    let rows = map g.R.Row.value c.args.snapshot.now in
    let many = found_many (is_in c.args.area.now) rows c.args.found.now c.requires.found in
    differ_told (rows_in c.args.area.now rows) (g.R.Row.value c.row_among-first.result.now) (g.R.Row.value c.row_among-last.result.now) (length c.args.found.now - 1)
    c.row_among-first.ensures c.row_among-last.ensures (omega arith)
    (ap₂ (λ (e f : Entry). same_bytes e.subspace f.subspace) (sym c.entry.ensures.entry) (sym c.entry-2.ensures.entry) ∙ sym c.eq.ensures ∙ c.if-eq.false)
