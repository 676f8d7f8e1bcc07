use Rattle.std.proofs.Common.{◌≡◌, ◌<◌, length, map, take, take_all, cond, get_or, sym, ap, ◌∙◌, Global, arith}
use Rattle.std.specs.declared.sync.Arc.{Arc}
use Rattle.std.proofs.lemmas.List.{length-map, get_or-map}
use Rattle.std.proofs.lemmas.Option.{slice_get_past}
use Rattle.willow_entry.specs.Row.{RowValue}
use Rattle.block_store.specs.InBox.{is_in}
use Rattle.block_store.specs.Positions.{positions}
use Rattle.block_store.proofs.Positions.{positions-at, positions-count, passes_from_one}
use Rattle.block_store.proofs.reading.boxes.nth_in_rows.Goals as goal

pub returns-then-one-left-clause-nth : goal.returns-then-one-left-clause-nth
returns-then-one-left-clause-nth g c =
    let value : Arc g.row.R.Denot Global → RowValue = λ a. g.R.Row.value a.value in
    let test = is_in c.args.area.now in
    let rows = map value c.args.rows.now in
    let at = c.loop-at.at in
    let held = c.index-rows-at.result in
    let inside : at < length rows = omega (arith, length-map c.args.rows.now value) in
    let here : get_or rows at (value held) ≡ value held = get_or-map value c.args.rows.now at held (value held) (omega arith) ∙ ap value (sym c.index-rows-at.is) in
    let passes : c.is_in.result ≡ test (get_or rows at (value held)) =
    c.is_in.ensures ∙ ap (λ x. test (g.R.Row.value x)) c.deref.ensures ∙ ap test (sym here) in
    let one = c.one_if-one.ensures.value ∙ ap (λ b. cond b 1 0) passes in
    let left = c.loop-at.left in
    let found = passes_from_one (test (get_or rows at (value held))) left (omega arith) in
    sym (positions-at test rows at c.args.n (value held) inside (omega (arith, c.loop-at.invariant.passed, found.1)) found.0)

pub loop-at-preserved : goal.loop-at-preserved
loop-at-preserved g c =
    let value : Arc g.row.R.Denot Global → RowValue = λ a. g.R.Row.value a.value in
    let test = is_in c.args.area.now in
    let rows = map value c.args.rows.now in
    let at = c.loop-at.at in
    let held = c.index-rows-at.result in
    let inside : at < length rows = omega (arith, length-map c.args.rows.now value) in
    let here : get_or rows at (value held) ≡ value held = get_or-map value c.args.rows.now at held (value held) (omega arith) ∙ ap value (sym c.index-rows-at.is) in
    let passes : c.is_in.result ≡ test (get_or rows at (value held)) =
    c.is_in.ensures ∙ ap (λ x. test (g.R.Row.value x)) c.deref.ensures ∙ ap test (sym here) in
    let one = c.one_if-one.ensures.value ∙ ap (λ b. cond b 1 0) passes in
    record { passed = omega (arith, positions-count test rows at (value held) inside, one, c.loop-at.invariant.passed) }

pub returns-clause-nth : goal.returns-clause-nth
returns-clause-nth g c =
    let value : Arc g.row.R.Denot Global → RowValue = λ a. g.R.Row.value a.value in
    let test = is_in c.args.area.now in
    let rows = map value c.args.rows.now in
    let all : take c.loop-at.at rows ≡ rows = take_all c.loop-at.at rows (omega (arith, length-map c.args.rows.now value)) in
    sym (slice_get_past (positions test rows) c.args.n (omega (arith, c.loop-at.invariant.passed, ap (λ l. length (positions test l)) all)))
