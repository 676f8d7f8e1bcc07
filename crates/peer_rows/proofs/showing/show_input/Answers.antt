use Rattle.std.proofs.Common.{ap}
use Rattle.std.specs.Prelude.{Err}
use Rattle.std.proofs.lemmas.Result.{err_from_is_err_and}
use Rattle.peer_stage.specs.declared.outcome.Stop.{Stop}
use Rattle.peer_stage.proofs.Faults.{stands_at}
use Rattle.peer_rows.proofs.Listed.{reading_stops, log_shown}
use Rattle.peer_rows.proofs.showing.show_input.Goals as goal

pub returns-in_err-bytes-clause-shows : goal.returns-in_err-bytes-clause-shows
returns-in_err-bytes-clause-shows g c = λ asked.
    let p = err_from_is_err_and c.from_residual.result c.from_residual.ensures.1 in
    rw (p.1, p.2) (reading_stops asked (g.I.Source.facts c.args.input.now) (g.I.Source.facts c.read_input.new.input) c.in_err-bytes.field-0.0
    (λ is. c.in_err-bytes.ensures.memory (ap (λ (e : Stop). Err e) is)) c.in_err-bytes.ensures.reads)

pub returns-clause-shows : goal.returns-clause-shows
returns-clause-shows g c = λ asked.
    log_shown asked (g.I.Source.facts c.args.input.now) (g.I.Source.facts c.read_input.new.input) c.in_ok-bytes.bytes.items c.log_bytes.result c.in_ok-bytes.ensures.reads (rw c.deref.ensures.value at c.log_bytes.ensures)

pub returns-clause-faults : goal.returns-clause-faults
returns-clause-faults g c = stands_at (g.I.Source.facts c.args.input.now).faults (g.I.Source.facts c.read_input.new.input).faults c.log_bytes.result c.in_ok-bytes.ensures.faults
