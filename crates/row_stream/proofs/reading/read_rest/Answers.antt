use Rattle.std.proofs.Common.{◌+◌, arith}
use Rattle.row_stream.proofs.CutFrame.{told_wrong, too_long, bad_on, goes_on}
use Rattle.row_stream.proofs.reading.read_rest.Goals as goal

pub returns-in_err-add_row-in-Ok-clause-reads : goal.returns-in_err-add_row-in-Ok-clause-reads
returns-in_err-add_row-in-Ok-clause-reads g c = λ had piece done.
    bad_on g.F.RowForm.IsRow g.F.R.Row.value c.args.at had piece c.args.begun.now.items c.args.rest.now done
    c.in-Ok.body.now c.in-Ok.field-0-1.now (rw c.deref.ensures.value at c.in-Ok.ensures) c.add_row.new.rows.items c.args.begun.now.items c.in_err-add_row-in-Ok.field-0.0 c.from_residual.result
    c.in_err-add_row-in-Ok.ensures.reads c.from_residual.ensures.1

pub returns-in_ok-add_row-in-Ok-clause-reads : goal.returns-in_ok-add_row-in-Ok-clause-reads
returns-in_ok-add_row-in-Ok-clause-reads g c = λ had piece done.
    let one = c.in_ok-add_row-in-Ok.ensures.reads in
    goes_on g.F.RowForm.IsRow g.F.R.Row.value c.args.at had piece c.args.begun.now.items c.args.rest.now done
    c.in-Ok.body.now c.in-Ok.field-0-1.now (rw c.deref.ensures.value at c.in-Ok.ensures) one.row one.reads
    (c.args.at + c.len.result) c.add_row.new.rows.items _ c.read_on.new.begun.items c.read_on.result (rw c.requires.none at one.added) (omega (arith, c.len.ensures, c.args.begun.now.ok.0)) c.read_on.ensures.reads

pub returns-in-Err-Wrong-clause-reads : goal.returns-in-Err-Wrong-clause-reads
returns-in-Err-Wrong-clause-reads g c = λ had piece done.
    too_long g.F.RowForm.IsRow g.F.R.Row.value c.args.at had piece c.args.begun.now.items c.args.rest.now done
    (told_wrong c.args.begun.now.items c.deref.result.now c.in-Err-Wrong.field-0 c.deref.ensures.value c.in-Err-Wrong.field-0-is c.in-Err-Wrong.ensures)
