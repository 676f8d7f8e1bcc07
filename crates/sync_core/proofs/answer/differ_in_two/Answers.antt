use Rattle.std.proofs.Common.{map, Option, List, sym, ap, ◌∙◌, subst, arith}
use Rattle.std.specs.Prelude.{OnOk, option_map}
use Rattle.std.proofs.lemmas.Result.{on_ok_weaker}
use Rattle.willow_area.specs.declared.cut.CutAt.{CutAt}
use Rattle.exchange_rules.specs.Answer.{differing}
use Rattle.range_split.specs.Points.{cuts_at}
use Rattle.sync_core.specs.SyncRules.{sync_rules}
use Rattle.sync_core.specs.Answers.{Adds}
use Rattle.std.proofs.lemmas.List.{length-map}
use Rattle.block_store.specs.InBox.{rows_in}
use Rattle.range_split.proofs.Choosing.{choice_none}
use Rattle.sync_core.proofs.Telling.{found_length, there_within}
use Rattle.sync_core.proofs.Walking.{rows_found}
use Rattle.sync_core.proofs.answer.differ_in_two.Goals as goal

pub entries-requires : goal.entries-requires
entries-requires g c =
    let rows = map g.R.Row.value c.args.snapshot.now in
    let area = c.args.area.now in
    let found = c.deref.result.now in
    omega (
      arith,
      found_length rows found (rows_in area rows) (rows_found area rows found (c.deref.ensures.value ∙ c.in_ok-found_in-in-Entries.ensures)),
      (choice_none (rows_in area rows)).0 c.in-Entries.ensures,
    )

pub path_at-requires : goal.path_at-requires
path_at-requires g c =
    omega (arith, there_within (map g.R.Row.value c.args.snapshot.now) c.in-AtPathOf.at _ c.in-AtPathOf.ensures.cut, length-map c.args.snapshot.now g.R.Row.value)

pub returns-in_ok-found_in-in-Entries : goal.returns-in_ok-found_in-in-Entries
returns-in_ok-found_in-in-Entries g c =
    let rows = map g.R.Row.value c.args.snapshot.now in
    let P = λ (o : Option (List CutAt)). OnOk c.entries.result (Adds 1 rows c.args.turn.now c.entries.new.turn (differing (sync_rules 1) rows c.args.area.now o)) in
    subst P (sym (ap (option_map cuts_at) c.in-Entries.ensures)) (on_ok_weaker c.entries.result (λ h. h 1 rows (c.deref.ensures.value ∙ c.in_ok-found_in-in-Entries.ensures)) c.entries.ensures)
