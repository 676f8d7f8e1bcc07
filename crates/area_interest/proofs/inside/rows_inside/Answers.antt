use Rattle.std.proofs.Common.{◌≡◌, ◌≤◌, ◌++◌, ◌∷◌, [], length, map, take_all, get_or, slice_get, Some, MatchOption, sym, ap, ◌∙◌, subst, Global, arith}
use Rattle.std.specs.declared.sync.Arc.{Arc}
use Rattle.std.proofs.lemmas.List.{map-append}
use Rattle.std.proofs.lemmas.Option.{slice_get-get_or}
use Rattle.willow_entry.specs.Row.{RowValue}
use Rattle.block_store.specs.Held.{values_of}
use Rattle.block_store.specs.InBox.{is_in, rows_in}
use Rattle.block_store.proofs.Numbering.{so_many}
use Rattle.area_interest.proofs.ByPosition.{not_past, one_more}
use Rattle.area_interest.proofs.inside.rows_inside.Goals as goal

pub unreachable-requires : goal.unreachable-requires
unreachable-requires g c =
    let rows = c.args.snapshot.now in
    let found = c.deref-at-items.result.now in
    let at = get_or found c.loop-at.at-index 0 in
    let past = subst (λ o. MatchOption o (length rows ≤ at) (λ (r : Arc g.row.R.Denot Global). slice_get rows at ≡ Some r.value)) c.in-None.is c.in_ok-shared.ensures.row in
    not_past g.R.Row.value (is_in c.args.area.now) rows found (c.deref-at-items.ensures.value ∙ c.in_ok-positions.ensures) c.loop-at.at-index at
    (slice_get-get_or found c.loop-at.at-index 0 c.loop-at-test.true) past

pub loop-at-preserved : goal.loop-at-preserved
loop-at-preserved g c =
    let value = g.R.Row.value in
    let shared : Arc g.row.R.Denot Global → RowValue = λ a. value a.value in
    let rows = c.args.snapshot.now in
    let found = c.deref-at-items.result.now in
    let at = get_or found c.loop-at.at-index 0 in
    let here = subst (λ o. MatchOption o (length rows ≤ at) (λ (r : Arc g.row.R.Denot Global). slice_get rows at ≡ Some r.value)) c.in-Some.is c.in_ok-shared.ensures.row in
    ap (values_of value) c.in_ok-push-in-Some.ensures.items ∙ map-append shared c.loop-at.rows.items (c.in-Some.row ∷ []) ∙ ap (λ l. l ++ shared c.in-Some.row ∷ []) c.loop-at.invariant
    ∙ sym (one_more value (is_in c.args.area.now) rows found (c.deref-at-items.ensures.value ∙ c.in_ok-positions.ensures) c.loop-at.at-index at
    (slice_get-get_or found c.loop-at.at-index 0 c.loop-at-test.true) c.in-Some.row.value here)

pub returns : goal.returns
returns g c =
    let rows = map g.R.Row.value c.args.snapshot.now in
    let is = c.deref-at-items.ensures.value ∙ c.in_ok-positions.ensures in
    c.loop-at.invariant ∙ take_all c.loop-at.at-index (rows_in c.args.area.now rows) (omega (arith, c.loop-at-test.false, ap length is, so_many (is_in c.args.area.now) rows))
