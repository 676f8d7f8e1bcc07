use Rattle.std.proofs.Common.{refl}
use Rattle.std.proofs.lemmas.Result.{err_from_is_err_and}
use Rattle.row_stream.proofs.Asking.{split_asks, first_asks}
use Rattle.row_stream.proofs.Passing.{passed_on}
use Rattle.row_stream.proofs.reading.read_frames.Goals as goal

pub frames-preserved : goal.frames-preserved
frames-preserved g c =
    let one = c.in_ok-add_row-in-Ok.ensures.reads in
    passed_on g.F.RowForm.IsRow g.F.R.Row.value c.args.at c.args.bytes.now c.args.rows.now.items c.frames.rows.items c.frames.here c.frames.left.now c.frames.invariant
    c.in-Ok.body.now c.in-Ok.behind.now one.row c.add_row.new.rows.items _ c.in-Ok.ensures one.reads one.added refl

pub returns-in_err-add_row-in-Ok-clause-asked : goal.returns-in_err-add_row-in-Ok-clause-asked
returns-in_err-add_row-in-Ok-clause-asked g c = λ told.
    let p = err_from_is_err_and c.from_residual.result c.from_residual.ensures.1 in
    let asks = c.in_err-add_row-in-Ok.ensures.asked cc in
    first_asks g.F.RowForm.IsRow g.met.F.RowForm.entries_fit c.args.bytes.now _ c.frames.left.now c.frames.invariant.fit c.frames.invariant.parts
    (split_asks c.frames.left.now c.in-Ok.body.now c.in-Ok.behind.now c.in-Ok.ensures asks)
