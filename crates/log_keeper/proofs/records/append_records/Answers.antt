use Rattle.std.proofs.Common.{refl}
use Rattle.log_keeper.proofs.RecordsRead.{passed_on}
use Rattle.log_keeper.proofs.records.append_records.Goals as goal

pub records-preserved : goal.records-preserved
records-preserved g c =
    passed_on g.F.RowForm.IsRow g.F.R.Row.value c.args.from c.args.bytes.now c.records.rows.items c.records.at c.records.left.now c.records.invariant c.in-Ok-Some.record.0.now c.in-Ok-Some.record.1.now _ _ (rw c.in-Ok-Some.field-0-is at c.in-Ok-Some.ensures)
    (rw c.if-not-branch.false at c.in_ok-append_frames.ensures) refl
