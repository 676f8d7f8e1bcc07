use Rattle.std.proofs.Common.{◌<◌, [], ◌∷◌, ◌++◌, map, length, ap, ◌∙◌, arith}
use Rattle.std.proofs.lemmas.List.{length-map}
use Rattle.willow_entry.specs.Row.{is_dominating}
use Rattle.ns_state.proofs.AtPositions.{position_within, items_more, items_all}
use Rattle.ns_state.proofs.ranking.gone_items.Goals as goal

pub item_at-requires : goal.item_at-requires
item_at-requires g c =
    let value = g.R.Row.value in
    let r = value c.args.row.now in
    let rows = map value c.args.store.now in
    let found = c.in_ok-positions.positions in
    let within : c.loop-at.at < length found.items = omega (arith, c.loop-at-test.true, c.len-at-end.ensures, found.ok.0) in
    omega (arith, position_within (is_dominating r) rows found.items c.in_ok-positions.ensures c.loop-at.at r c.index.result.now within c.index.ensures, length-map c.args.store.now value)

pub loop-at-preserved : goal.loop-at-preserved
loop-at-preserved g c =
    let value = g.R.Row.value in
    let r = value c.args.row.now in
    let rows = map value c.args.store.now in
    let found = c.in_ok-positions.positions in
    let item = c.in_ok-item_at.field-0 in
    let within : c.loop-at.at < length found.items = omega (arith, c.loop-at-test.true, c.len-at-end.ensures, found.ok.0) in
    c.in_ok-push.ensures.items ∙ ap (λ l. l ++ item ∷ []) c.loop-at.invariant
    ∙ items_more (is_dominating r) rows found.items c.in_ok-positions.ensures c.loop-at.at r c.index.result.now within c.index.ensures item c.in_ok-item_at.ensures

pub returns : goal.returns
returns g c =
    let value = g.R.Row.value in
    let found = c.in_ok-positions.positions in
    c.loop-at.invariant ∙ items_all (is_dominating (value c.args.row.now)) (map value c.args.store.now) found.items c.in_ok-positions.ensures c.loop-at.at (omega (arith, c.loop-at-test.false, c.len-at-end.ensures, found.ok.0))
