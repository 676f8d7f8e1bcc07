use Rattle.row_stream.proofs.Asking.{unfinished_asks, first_asks}
use Rattle.row_stream.proofs.reading.read_on.Goals as goal

pub returns-in_err-begin_with-clause-asked : goal.returns-in_err-begin_with-clause-asked
returns-in_err-begin_with-clause-asked g c = λ told.
    let stream = c.in_ok-here.ensures.reads.stream in
    first_asks g.F.RowForm.IsRow g.met.F.RowForm.entries_fit c.args.bytes.now _ c.in_ok-here.left.now stream.fit stream.parts (unfinished_asks c.in_ok-here.left.now stream.judged)
