use Rattle.std.proofs.Common.{◌∙◌}
use Rattle.log_keeper.proofs.NewLogs.{at_each_moment}
use Rattle.log_keeper.proofs.beginning.begin_log.Goals as goal

pub returns-in-Ok-clause-moments : goal.returns-in-Ok-clause-moments
returns-in-Ok-clause-moments g c =
    at_each_moment g.D.Disk.moment g.D.Disk.left_since c.args.disk.now c.shut_gate.new.disk c.write_gate_last.new.disk (g.D.Disk.facts c.shut_gate.new.disk).contents c.args.namespace.now c.deref.result.now c.in_ok-shut_gate.ensures.shut (c.deref.ensures.value ∙ c.in_ok-log.ensures.log) c.shut_gate.ensures.moments c.write_gate_last.ensures.moments

pub returns-clause-moments : goal.returns-clause-moments
returns-clause-moments g c =
    at_each_moment g.D.Disk.moment g.D.Disk.left_since c.args.disk.now c.shut_gate.new.disk c.write_gate_last.new.disk (g.D.Disk.facts c.shut_gate.new.disk).contents c.args.namespace.now c.deref.result.now c.in_ok-shut_gate.ensures.shut (c.deref.ensures.value ∙ c.in_ok-log.ensures.log) c.shut_gate.ensures.moments c.write_gate_last.ensures.moments
