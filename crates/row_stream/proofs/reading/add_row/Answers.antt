use Rattle.row_stream.proofs.Asking.{read_asks}
use Rattle.row_stream.proofs.reading.add_row.Goals as goal

pub returns-in_err-push-clause-asked : goal.returns-in_err-push-clause-asked
returns-in_err-push-clause-asked g c = λ told.
    read_asks g.F.RowForm.IsRow g.met.F.RowForm.entries_fit c.args.body.now _ c.in_ok-read_row.ensures.reads
