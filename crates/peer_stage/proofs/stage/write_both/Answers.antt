use Rattle.peer_stage.proofs.Faults.{counts_behind}
use Rattle.peer_stage.proofs.Pieces.{both_end}
use Rattle.peer_stage.proofs.stage.write_both.Goals as goal

pub returns-clause-writes : goal.returns-clause-writes
returns-clause-writes g c =
    let facts = g.O.Sink.facts in
    both_end (facts c.args.output.now) (facts c.write_output.new.output) (facts c.write_output-2.new.output) c.args.first.now c.args.behind.now c.write_output-2.result c.in_ok-write_output.ensures.writes c.in_ok-write_output.ensures.faults c.write_output-2.ensures.writes

pub returns-clause-faults : goal.returns-clause-faults
returns-clause-faults g c =
    let facts = g.O.Sink.facts in
    counts_behind (facts c.args.output.now).faults (facts c.write_output.new.output).faults (facts c.write_output-2.new.output).faults c.write_output-2.result c.in_ok-write_output.ensures.faults c.write_output-2.ensures.faults
