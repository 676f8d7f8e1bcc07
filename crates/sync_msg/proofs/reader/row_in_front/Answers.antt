use Rattle.spelling.proofs.Lists.{are_bytes}
use Rattle.sync_msg.specs.Items.{IsRowItem}
use Rattle.sync_msg.specs.Reader.{BeginsFrame}
use Rattle.sync_msg.proofs.InFront.{handed_on, row_end, row_taken}
use Rattle.sync_msg.proofs.reader.row_in_front.Goals as goal

pub returns-in_err-row-clause-front : goal.returns-in_err-row-clause-front
returns-in_err-row-clause-front g c =
    handed_on (IsRowItem g.F.RowForm.IsRow) BeginsFrame g.F.R.Row.value c.args.bytes.now c.in_err-row.field-0.0 c.from_residual.result c.from_residual.ensures.1
    (row_end g.F.RowForm.IsRow g.F.R.Row.value c.args.bytes.now c.new-input.result c.read_row.new.input c.in_err-row.field-0.0 (are_bytes c.args.bytes.now c.type_inv.bytes) c.new-input.ensures c.in_err-row.ensures.gives)

pub returns-clause-front : goal.returns-clause-front
returns-clause-front g c =
    row_taken g.F.RowForm.IsRow c.args.bytes.now c.new-input.result (g.F.R.Row.value c.in_ok-row.row) c.read_row.new.input c.taken_of.result (are_bytes c.args.bytes.now c.type_inv.bytes) c.new-input.ensures c.in_ok-row.ensures.gives c.taken_of.ensures
