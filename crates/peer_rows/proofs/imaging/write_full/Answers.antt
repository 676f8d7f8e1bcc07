use Rattle.std.proofs.lemmas.Result.{err_from_is_err_and}
use Rattle.peer_rows.proofs.Writing.{piece_written, writing_stops}
use Rattle.peer_rows.proofs.imaging.write_full.Goals as goal

pub returns-in_err-write_output-clause-writes : goal.returns-in_err-write_output-clause-writes
returns-in_err-write_output-clause-writes g c = λ begun whole rest w.
    let p = err_from_is_err_and c.from_residual.result c.from_residual.ensures.1 in
    rw (p.1, p.2) (writing_stops begun (g.O.Sink.facts c.args.output.now) whole c.args.piece.now.items (g.O.Sink.facts c.write_output.new.output) c.deref.result.now rest c.in_err-write_output.field-0.0 w c.deref.ensures.value c.in_err-write_output.ensures.writes)

pub returns-clause-writes : goal.returns-clause-writes
returns-clause-writes g c = λ begun whole rest w.
    piece_written begun (g.O.Sink.facts c.args.output.now) whole c.args.piece.now.items (g.O.Sink.facts c.write_output.new.output) c.deref.result.now c.clear.new.self.items rest w c.deref.ensures.value c.in_ok-write_output.ensures.writes c.in_ok-write_output.ensures.faults c.clear.ensures.items
