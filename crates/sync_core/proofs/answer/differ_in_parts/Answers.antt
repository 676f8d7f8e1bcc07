use Rattle.std.proofs.Common.{map, Option, List, sym, ◌∙◌, subst, arith}
use Rattle.std.specs.Prelude.{OnOk}
use Rattle.std.proofs.lemmas.Result.{on_ok_weaker}
use Rattle.willow_area.specs.declared.cut.CutAt.{CutAt}
use Rattle.block_store.specs.InBox.{rows_in}
use Rattle.exchange_rules.specs.Answer.{differing}
use Rattle.range_split.specs.Quarters.{even_choice}
use Rattle.range_split.proofs.Quartering.{even_none}
use Rattle.sync_core.specs.SyncRules.{sync_rules}
use Rattle.sync_core.specs.Answers.{Adds}
use Rattle.sync_core.proofs.SpelledTurns.{none_chosen}
use Rattle.sync_core.proofs.Telling.{found_length}
use Rattle.sync_core.proofs.Walking.{rows_found}
use Rattle.sync_core.proofs.answer.differ_in_parts.Goals as goal

pub entries-requires : goal.entries-requires
entries-requires g c =
    let rows = map g.R.Row.value c.args.snapshot.now in
    let area = c.args.area.now in
    let found = c.deref-in-None.result.now in
    let held = rows_in area rows in
    omega (
      arith,
      found_length rows found held (rows_found area rows found (c.deref-in-None.ensures.value ∙ c.in_ok-found.ensures)),
      (even_none held).0 (none_chosen (even_choice held) (sym c.in_ok-choose_parts_among.ensures.chosen ∙ c.in-None.is)),
    )

pub returns-in-None : goal.returns-in-None
returns-in-None g c =
    let rows = map g.R.Row.value c.args.snapshot.now in
    let P = λ (o : Option (List CutAt)). OnOk c.entries.result (Adds 2 rows c.args.turn.now c.entries.new.turn (differing (sync_rules 2) rows c.args.area.now o)) in
    subst P (sym c.in-None.is ∙ c.in_ok-choose_parts_among.ensures.chosen) (on_ok_weaker c.entries.result (λ h. h 2 rows (c.deref-in-None.ensures.value ∙ c.in_ok-found.ensures)) c.entries.ensures)
