use Rattle.std.proofs.Common.{◌≤◌, map, length, take, filter, get_or, Some, sym, ap, ◌∙◌, arith}
use Rattle.std.proofs.lemmas.List.{length-map, length-take, take_all}
use Rattle.std.proofs.lemmas.Option.{slice_get-get_or}
use Rattle.willow_entry.specs.Row.{RowValue}
use Rattle.block_store.specs.InBox.{rows_in}
use Rattle.sync_core.proofs.SpelledTurns.{filter_few}
use Rattle.sync_core.proofs.Telling.{found_length, rows_in-le}
use Rattle.sync_core.proofs.Walking.{found_within, left_more, row_found, rows_found, unsent}
use Rattle.sync_core.proofs.rows.positions_lacking.Goals as goal

pub row_at-requires : goal.row_at-requires
row_at-requires g c =
    let rows = map g.R.Row.value c.args.snapshot.now in
    let ats = c.deref-at-items.result.now in
    omega (
      arith,
      found_within c.args.area.now rows ats c.loop-at.at-index (get_or ats c.loop-at.at-index 0) (c.deref-at-items.ensures.value ∙ c.in_ok-found.ensures) (slice_get-get_or ats c.loop-at.at-index 0 c.loop-at-test.true),
      length-map c.args.snapshot.now g.R.Row.value,
    )

pub loop-at-preserved : goal.loop-at-preserved
loop-at-preserved g c =
    let rows = map g.R.Row.value c.args.snapshot.now in
    let area = c.args.area.now in
    let ats = c.deref-at-items.result.now in
    let i = c.loop-at.at-index in
    let at = get_or ats i 0 in
    let here = row_found area rows ats i at (c.deref-at-items.ensures.value ∙ c.in_ok-found.ensures) (slice_get-get_or ats i 0 c.loop-at-test.true) in
    record {
      left = left_more c.args.sent.now rows at (g.R.Row.value c.row_at.result.now) c.row_at.ensures (rows_in area rows) i c.loop-at.positions.items c.push_lacking.new.positions.items (sym here ∙ c.row_at.ensures) c.loop-at.invariant.left c.in_ok-push_lacking.ensures;
    }

pub returns-clause-few : goal.returns-clause-few
returns-clause-few g c =
    let rows = map g.R.Row.value c.args.snapshot.now in
    let area = c.args.area.now in
    let left = filter (unsent c.args.sent.now) (take c.loop-at.at-index (rows_in area rows)) in
    omega (
      arith,
      found_length rows c.loop-at.positions.items left c.loop-at.invariant.left,
      filter_few (unsent c.args.sent.now) (take c.loop-at.at-index (rows_in area rows)),
      length-take c.loop-at.at-index (rows_in area rows),
      rows_in-le area rows,
      length-map c.args.snapshot.now g.R.Row.value,
      c.len-rows.ensures,
      c.len-rows.type_inv,
      c.loop-at.positions.ok,
    )

pub returns-clause-rows : goal.returns-clause-rows
returns-clause-rows g c = λ version.
    let rows = map g.R.Row.value c.args.snapshot.now in
    let area = c.args.area.now in
    let ats = c.deref-at-items.result.now in
    let held = rows_in area rows in
    let all : length held ≤ c.loop-at.at-index = omega (arith, found_length rows ats held (rows_found area rows ats (c.deref-at-items.ensures.value ∙ c.in_ok-found.ensures)), c.loop-at-test.false) in
    c.loop-at.invariant.left ∙ ap (λ l. map (λ (r : RowValue). Some r) (filter (unsent c.args.sent.now) l)) (take_all c.loop-at.at-index held all)
