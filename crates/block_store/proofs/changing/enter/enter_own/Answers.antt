use Rattle.std.proofs.Common.{◌≡◌, insert, map, sym, ap, ◌∙◌, subst, Global, arith}
use Rattle.std.specs.declared.sync.Arc.{Arc}
use Rattle.willow_entry.specs.Row.{RowValue}
use Rattle.willow_entry.proofs.Between.{map-insert}
use Rattle.block_store.specs.Held.{values_of}
use Rattle.block_store.specs.Times.{AreWritten}
use Rattle.block_store.proofs.Written.{written_insert}
use Rattle.block_store.proofs.changing.enter.enter_own.Goals as goal

pub invariant_of-block-2-clause-timed : goal.invariant_of-block-2-clause-timed
invariant_of-block-2-clause-timed g c =
    let value : Arc g.row.R.Denot Global → RowValue = λ a. g.R.Row.value a.value in
    let block = c.args.block.now in
    let rows = values_of g.R.Row.value block.rows.items in
    let held = c.args.held in
    let time : c.entry.result.now.timestamp ≡ (value held).entry.timestamp = ap (λ e. e.timestamp) c.entry.ensures.entry ∙ ap (λ r. (g.R.Row.value r).entry.timestamp) c.deref.ensures in
    let all : map value c.insert.new.self.items ≡ insert rows c.args.at (value held) = ap (map value) c.in_ok-insert.ensures.items ∙ map-insert value block.rows.items c.args.at held in
    subst (λ l. AreWritten c.min-block.result c.later-block.result l) (sym all)
    (written_insert block.earliest block.latest c.min-block.result c.later-block.result (omega arith) c.later-block.ensures.first (value held) (omega arith) (omega (arith, c.later-block.ensures.second)) rows c.args.at block.timed)

pub returns-clause-rows : goal.returns-clause-rows
returns-clause-rows g c =
    let value : Arc g.row.R.Denot Global → RowValue = λ a. g.R.Row.value a.value in
    ap (map value) c.in_ok-insert.ensures.items ∙ map-insert value c.args.block.now.rows.items c.args.at c.args.held
