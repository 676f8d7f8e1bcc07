use Rattle.std.proofs.Common.{◌≡◌, map, sym, subst, arith}
use Rattle.std.specs.Prelude.{OnOk, option_map}
use Rattle.block_store.specs.InBox.{rows_in}
use Rattle.exchange_rules.specs.Answer.{differing}
use Rattle.range_split.specs.Points.{cuts_at}
use Rattle.sync_core.specs.SyncRules.{choice_in, sync_rules}
use Rattle.sync_core.specs.Answers.{Adds}
use Rattle.sync_core.proofs.answer.differ.Goals as goal

pub returns-then-version-eq1 : goal.returns-then-version-eq1
returns-then-version-eq1 g c =
    let rows = map g.R.Row.value c.args.snapshot.now in
    let area = c.args.area.now in
    let one : c.args.version ≡ 1 = omega arith in
    subst (λ v. OnOk c.differ_in_two.result (Adds v rows c.args.turn.now c.differ_in_two.new.turn (differing (sync_rules v) rows area (option_map cuts_at (choice_in v (rows_in area rows)))))) (sym one) c.differ_in_two.ensures

pub returns-else-version-eq1 : goal.returns-else-version-eq1
returns-else-version-eq1 g c =
    let rows = map g.R.Row.value c.args.snapshot.now in
    let area = c.args.area.now in
    let two : c.args.version ≡ 2 = omega (arith, c.requires.version.0, c.requires.version.1, c.if-version-eq1.false) in
    subst (λ v. OnOk c.differ_in_parts.result (Adds v rows c.args.turn.now c.differ_in_parts.new.turn (differing (sync_rules v) rows area (option_map cuts_at (choice_in v (rows_in area rows)))))) (sym two) c.differ_in_parts.ensures
