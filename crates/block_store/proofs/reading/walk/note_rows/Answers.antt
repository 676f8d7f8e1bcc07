use Rattle.std.proofs.Common.{◌≡◌, ◌+◌, ◌<◌, ◌∷◌, ◌++◌, [], length, map, take, take_all, cond, get_or, sym, ap, ap₂, ◌∙◌, append-nil, append_assoc, Global, arith}
use Rattle.std.specs.declared.sync.Arc.{Arc}
use Rattle.std.proofs.lemmas.List.{length-map, get_or-map}
use Rattle.willow_entry.specs.Row.{RowValue}
use Rattle.block_store.specs.InBox.{is_in}
use Rattle.block_store.specs.Positions.{positions_from}
use Rattle.block_store.proofs.Walking.{from-more, all-pass}
use Rattle.block_store.proofs.reading.walk.note_rows.Goals as goal

pub loop-at-init : goal.loop-at-init
loop-at-init g c = sym (append-nil c.args.found.now.items)

pub passes-is_there-requires : goal.passes-is_there-requires
passes-is_there-requires g c = λ h.
    let value : Arc g.row.R.Denot Global → RowValue = λ a. g.R.Row.value a.value in
    let test = is_in c.args.area.now in
    let rows = map value c.args.rows.now in
    let at = c.loop-at.at in
    let held = c.index-rows-at.result in
    let inside : at < length rows = omega (arith, length-map c.args.rows.now value) in
    let here : get_or rows at (value held) ≡ value held = get_or-map value c.args.rows.now at held (value held) (omega arith) ∙ ap value (sym c.index-rows-at.is) in
    ap (λ x. test (g.R.Row.value x)) c.deref.ensures ∙ ap test (sym here) ∙ all-pass test rows (c.requires.known h) at (value held) inside

pub loop-at-preserved : goal.loop-at-preserved
loop-at-preserved g c =
    let value : Arc g.row.R.Denot Global → RowValue = λ a. g.R.Row.value a.value in
    let test = is_in c.args.area.now in
    let rows = map value c.args.rows.now in
    let at = c.loop-at.at in
    let start = c.args.start in
    let held = c.index-rows-at.result in
    let inside : at < length rows = omega (arith, length-map c.args.rows.now value) in
    let here : get_or rows at (value held) ≡ value held = get_or-map value c.args.rows.now at held (value held) (omega arith) ∙ ap value (sym c.index-rows-at.is) in
    let passes : c.passes-is_there.result ≡ test (get_or rows at (value held)) =
    c.passes-is_there.ensures ∙ ap (λ x. test (g.R.Row.value x)) c.deref.ensures ∙ ap test (sym here) in
    c.in_ok-note.ensures ∙ ap₂ (λ l b. l ++ cond b ((start + at) ∷ []) []) c.loop-at.invariant passes
    ∙ append_assoc c.args.found.now.items (positions_from test start (take at rows)) _
    ∙ ap (λ l. c.args.found.now.items ++ l) (sym (from-more test start rows at (value held) inside))

pub returns : goal.returns
returns g c =
    let value : Arc g.row.R.Denot Global → RowValue = λ a. g.R.Row.value a.value in
    let rows = map value c.args.rows.now in
    c.loop-at.invariant ∙ ap (λ l. c.args.found.now.items ++ positions_from (is_in c.args.area.now) c.args.start l) (take_all c.loop-at.at rows (omega (arith, length-map c.args.rows.now value)))
