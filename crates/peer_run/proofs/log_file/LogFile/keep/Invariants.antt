use Rattle.std.proofs.Common.{length}
use Rattle.peer_run.specs.LogFiles.{file_state}
use Rattle.peer_run.proofs.KeptSlices.{KeepsFront}
use Rattle.peer_run.proofs.log_file.LogFile.keep.Given as goal

abbrev pub invariant-loop-left : goal.invariant-loop-left
invariant-loop-left g l = KeepsFront l.fn.rows l.left (file_state g.K.Disk.facts l.fn.self) (file_state g.K.Disk.facts l.self)

abbrev pub decreases-loop-left : goal.decreases-loop-left
decreases-loop-left g l = length l.left
