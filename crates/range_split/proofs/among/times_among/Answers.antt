use Rattle.std.proofs.Common.{[], ◌∷◌, ◌++◌, length, map, sym, ap, ap₂, ◌∙◌, arith}
use Rattle.std.proofs.lemmas.List.{take_all, length-map}
use Rattle.willow_entry.specs.Row.{RowValue}
use Rattle.willow_entry.specs.declared.entry.Entry.{Entry}
use Rattle.block_store.specs.InBox.{is_in, rows_in}
use Rattle.range_split.specs.Quarters.{timestamps_of}
use Rattle.range_split.proofs.Finding.{found_few, found_many, times_more}
use Rattle.range_split.proofs.among.times_among.Goals as goal

pub loop-n-preserved : goal.loop-n-preserved
loop-n-preserved g c =
    let held = rows_in c.args.area.now (map g.R.Row.value c.args.snapshot.now) in
    record {
      times_so_far = c.in_ok-push.ensures.items ∙ ap₂ (λ l (e : Entry). l ++ e.timestamp ∷ []) c.loop-n.invariant.times_so_far c.entry.ensures.entry
          ∙ sym (times_more held c.loop-n.n (g.R.Row.value c.row_among.result.now) c.row_among.ensures);
    }

pub returns-clause-times : goal.returns-clause-times
returns-clause-times g c =
    let rows = map g.R.Row.value c.args.snapshot.now in
    let held = rows_in c.args.area.now rows in
    c.loop-n.invariant.times_so_far ∙ ap timestamps_of (take_all c.loop-n.n held (omega (arith, c.loop-n-test.false, found_many (is_in c.args.area.now) rows c.args.found.now c.requires)))

pub returns-clause-few : goal.returns-clause-few
returns-clause-few g c =
    let rows = map g.R.Row.value c.args.snapshot.now in
    let area = c.args.area.now in
    let held = rows_in area rows in
    omega (
      arith,
      ap length (returns-clause-times g c),
      length-map held (λ (r : RowValue). r.entry.timestamp),
      found_many (is_in area) rows c.args.found.now c.requires,
      found_few (is_in area) rows c.args.found.now c.requires,
      length-map c.args.snapshot.now g.R.Row.value,
    )
