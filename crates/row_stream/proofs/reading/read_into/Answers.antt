use Rattle.std.proofs.Common.{arith}
use Rattle.row_stream.proofs.CutFrame.{long}
use Rattle.row_stream.proofs.reading.read_into.Goals as goal

pub read_rest-requires-clause-few : goal.read_rest-requires-clause-few
read_rest-requires-clause-few g c =
    omega (arith, long g.F.RowForm.IsRow g.F.R.Row.value c.args.at c.args.begun.now.items c.args.piece.now c.complete.new.begun.items c.in_ok-rest.rest.now c.in_ok-rest.ensures.completes)
