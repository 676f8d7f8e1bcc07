use Rattle.peer_run.specs.LogFiles.{file_state}
use Rattle.peer_run.proofs.KeptSlices.{at_err, cut, front_more, front_none, front_wants}
use Rattle.peer_run.proofs.log_file.LogFile.keep.Goals as goal

pub loop-left-preserved : goal.loop-left-preserved
loop-left-preserved g c =
    let slice = c.split_at.result.0.now in
    let others = c.split_at.result.1.now in
    front_more c.args.rows.now c.loop-left.left.now slice others (file_state g.K.Disk.facts c.args.self.now) (file_state g.K.Disk.facts c.loop-left.self) (file_state g.K.Disk.facts c.keep_slice.new.self) c.loop-left.invariant
    (cut _ c.loop-left.left.now slice others c.split_at.ensures.front c.split_at.ensures.back) c.in_ok-keep_slice.ensures.kept

pub returns-in_err-keep_slice-clause-wants : goal.returns-in_err-keep_slice-clause-wants
returns-in_err-keep_slice-clause-wants g c =
    at_err c.from_residual.result
    (front_wants c.args.rows.now c.loop-left.left.now (file_state g.K.Disk.facts c.args.self.now) (file_state g.K.Disk.facts c.loop-left.self) (file_state g.K.Disk.facts c.keep_slice.new.self) c.loop-left.invariant c.in_err-keep_slice.ensures.same
    c.in_err-keep_slice.ensures.unbroken)

pub loop-left-init : goal.loop-left-init
loop-left-init g c = front_none c.args.rows.now (file_state g.K.Disk.facts c.args.self.now) c.requires.room
