use Rattle.peer_stage.proofs.Faults.{stands_at}
use Rattle.peer_make.proofs.reading.read_one.Goals as goal

pub returns-clause-input_faults : goal.returns-clause-input_faults
returns-clause-input_faults g c = stands_at (g.I.Source.facts c.args.input.now).faults (g.I.Source.facts c.read_input.new.input).faults c.capability_from.result c.in_ok-bytes.ensures.faults
