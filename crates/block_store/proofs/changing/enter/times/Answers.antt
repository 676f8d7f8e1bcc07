use Rattle.std.proofs.Common.{◌≡◌, ◌<◌, length, take_all, get_or, sym, ap, ◌∙◌, subst, Global, arith}
use Rattle.std.specs.declared.sync.Arc.{Arc}
use Rattle.std.proofs.lemmas.List.{length-map, get_or-map}
use Rattle.willow_entry.specs.Row.{RowValue}
use Rattle.block_store.specs.Held.{values_of}
use Rattle.block_store.specs.Times.{AreWritten}
use Rattle.block_store.proofs.Written.{none_written, written_more}
use Rattle.block_store.proofs.changing.enter.times.Goals as goal

pub loop-at-init : goal.loop-at-init
loop-at-init g c = none_written _ _

pub loop-at-preserved : goal.loop-at-preserved
loop-at-preserved g c =
    let value : Arc g.row.R.Denot Global → RowValue = λ a. g.R.Row.value a.value in
    let rows = values_of g.R.Row.value c.args.rows.now in
    let held = c.index-rows-at.result in
    let at = c.loop-at.at in
    let inside : at < length rows = omega (arith, length-map c.args.rows.now value) in
    let here : get_or rows at (value held) ≡ value held = get_or-map value c.args.rows.now at held (value held) (omega arith) ∙ ap value (sym c.index-rows-at.is) in
    let time : c.entry.result.now.timestamp ≡ (value held).entry.timestamp = ap (λ e. e.timestamp) c.entry.ensures.entry ∙ ap (λ r. (g.R.Row.value r).entry.timestamp) c.deref.ensures in
    written_more c.loop-at.earliest c.loop-at.latest c.min-earliest.result c.later-latest.result (omega arith) c.later-latest.ensures.first (value held) (omega arith) (omega (arith, c.later-latest.ensures.second)) rows at inside here c.loop-at.invariant

pub returns : goal.returns
returns g c =
    let value : Arc g.row.R.Denot Global → RowValue = λ a. g.R.Row.value a.value in
    let rows = values_of g.R.Row.value c.args.rows.now in
    subst (λ l. AreWritten c.loop-at.earliest c.loop-at.latest l) (take_all c.loop-at.at rows (omega (arith, length-map c.args.rows.now value))) c.loop-at.invariant
